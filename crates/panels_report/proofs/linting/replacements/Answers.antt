use Rattle.std.proofs.Common.{◌+◌, drop, map, string_bytes, arith}
use Rattle.std.proofs.lemmas.List.{at_drop_all}
use Rattle.panels_text.proofs.Turns.{drop_at}
use Rattle.panels_report.proofs.Questioned.{others_all, others_more}
use Rattle.panels_report.proofs.linting.replacements.Goals as goal

pub loop-number-preserved : goal.loop-number-preserved
loop-number-preserved c =
    let at = c.loop-number in
    let questions = c.args.questions.now in
    let question = c.index-questions-number.result in
    others_more (map string_bytes c.args.own.now) (map string_bytes c.args.answers.now) questions at.number (drop at.number questions) (drop (at.number + 1) questions) question
    c.answer_at-answer.result.now at.others.items c.in_ok-found.found.items c.push_all.new.list.items (drop_at questions at.number question (c.loop-number-test.true, c.index-questions-number.is))
    c.answer_at-answer.ensures c.in_ok-found.ensures c.in_ok-push_all.ensures at.invariant

pub returns : goal.returns
returns c =
    let at = c.loop-number in
    let questions = c.args.questions.now in
    others_all (map string_bytes c.args.own.now) (map string_bytes c.args.answers.now) questions at.number (drop at.number questions) at.others.items
    (at_drop_all (λ left. left) questions at.number (omega (arith, c.loop-number-test.false))) at.invariant
