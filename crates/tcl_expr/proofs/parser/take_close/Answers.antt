use Rattle.std.proofs.Common.{refl}
use Rattle.tcl_expr.proofs.StandLemmas.{close_stands}
use Rattle.tcl_expr.proofs.parser.take_close.Goals as goal

pub returns : goal.returns
returns c =
    close_stands c.args.parser.now
    (record { steps = c.close.new.steps; opened = c.pop_paren.new.opened; parens = c.saturating_sub-parser.result; is_due = c.args.parser.now.is_due })
    c.close.new.opened.items c.close.new.steps.items 0 c.in_ok-close.ensures c.pop_paren.new.opened.items c.if-not-pop_paren.ensures
    refl refl c.saturating_sub-parser.ensures refl
