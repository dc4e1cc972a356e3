use Rattle.std.proofs.Common.{true, refl}
use Rattle.tcl_expr.proofs.StandLemmas.{question_stands}
use Rattle.tcl_expr.proofs.parser.take_question.Goals as goal

pub returns : goal.returns
returns c =
    question_stands c.args.parser.now
    (record { steps = c.push_question.new.steps; opened = c.push_question.new.opened; parens = c.args.parser.now.parens; is_due = true })
    c.close.new.opened.items c.close.new.steps.items 1 c.in_ok-close.ensures c.in_ok-push_question.ensures.steps
    c.in_ok-push_question.ensures.opened refl refl
