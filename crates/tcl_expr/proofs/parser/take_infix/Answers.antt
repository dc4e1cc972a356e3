use Rattle.std.proofs.Common.{true, refl}
use Rattle.tcl_expr.proofs.StandLemmas.{infix_stands}
use Rattle.tcl_expr.specs.Operators.{level_of}
use Rattle.tcl_expr.proofs.parser.take_infix.Goals as goal

pub returns : goal.returns
returns c =
    infix_stands c.args.parser.now
    (record { steps = c.push_infix.new.steps; opened = c.push_infix.new.opened; parens = c.args.parser.now.parens; is_due = true })
    c.close.new.opened.items c.close.new.steps.items (level_of c.args.operator) (rw c.level_of.ensures at c.in_ok-close.ensures) c.args.operator c.in_ok-push_infix.ensures.steps
    c.in_ok-push_infix.ensures.opened refl refl
