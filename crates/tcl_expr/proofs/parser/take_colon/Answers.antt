use Rattle.std.proofs.Common.{true, refl}
use Rattle.tcl_expr.proofs.StandLemmas.{colon_stands}
use Rattle.tcl_expr.proofs.parser.take_colon.Goals as goal

pub returns : goal.returns
returns c =
    colon_stands c.args.parser.now
    (record { steps = c.push_otherwise.new.steps; opened = c.push_otherwise.new.opened; parens = c.args.parser.now.parens; is_due = true })
    c.close.new.opened.items c.close.new.steps.items 0 c.in_ok-close.ensures c.pop_question.new.opened.items c.in-Some.mark c.in-Some.ensures
    c.in_ok-push_otherwise.ensures.steps c.in_ok-push_otherwise.ensures.opened refl refl
