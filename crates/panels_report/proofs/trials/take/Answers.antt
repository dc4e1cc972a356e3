use Rattle.std.proofs.Common.{ℕ, List, Option, lit<, map, ap, string_bytes, ◌∙◌}
use Rattle.std.proofs.lemmas.Iterator.Splits.{YieldsList-from_str_split}
use Rattle.panels_text.proofs.Turns.{road_end, road_more}
use Rattle.panels_text.specs.Texts.{lines_of}
use Rattle.panels_report.specs.Trials.{with_answer}
use Rattle.panels_report.proofs.Trying.{lines_all, lines_more}
use Rattle.panels_report.proofs.trials.take.Goals as goal

pub loop-line-preserved : goal.loop-line-preserved
loop-line-preserved c =
    let before = map string_bytes c.loop-line.answers.items in
    lines_more c.in-Some.line.now _ _ before (map string_bytes c.take_answer.new.answers.items) _
    (road_more (lines_of c.args.section.now) (YieldsList-from_str_split 10 c.args.section.now (lit< tt) (cc) (cc) (cc)) c.loop-line.yielded c.loop-line.yielded_by c.in-Some.line c.in-Some.is c.next.ensures.steps)
    (c.in_ok-take_answer.ensures ∙ ap (λ (answer : Option (ℕ × List ℕ)). with_answer answer before) c.answer_in.ensures) c.loop-line.invariant

pub returns : goal.returns
returns c =
    lines_all _ (map string_bytes c.loop-line.answers.items) _
    (road_end (lines_of c.args.section.now) (YieldsList-from_str_split 10 c.args.section.now (lit< tt) (cc) (cc) (cc)) c.loop-line.yielded c.loop-line.yielded_by c.in-None.is c.next.ensures.steps)
    c.loop-line.invariant
