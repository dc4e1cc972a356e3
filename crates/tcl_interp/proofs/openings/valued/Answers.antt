use Rattle.std.proofs.Common.{◌≡◌, arith, rules}
use Rattle.std.proofs.lemmas.Grind.{common_steps}
use Rattle.std.specs.Fmt.{signed_decimal}
use Rattle.tcl_interp.specs.Openings.{IsInteger}
use Rattle.tcl_interp.proofs.Straight.{opened_leads}
use Rattle.tcl_interp.proofs.openings.valued.Goals as goal

pub returns-in_ok-from_integer-in-Integer : goal.returns-in_ok-from_integer-in-Integer
returns-in_ok-from_integer-in-Integer g c =
    let opens : IsInteger c.args.scopes.now c.here-level.result c.args.expression.now c.in-Integer.number = rw c.in-Integer.is at c.in_ok-number.ensures in
    let text : c.in_ok-from_integer-in-Integer.field-0 ≡ signed_decimal c.in-Integer.number =
    first_of (grind (arith, c.in_ok-from_integer-in-Integer.ensures), search (rules, c.in_ok-from_integer-in-Integer.ensures), grind (arith, common_steps, c.in_ok-from_integer-in-Integer.ensures)) in
    λ waits. rw text (opened_leads c.args.scopes.now c.args.context.now c.args.room waits c.args.expression.now c.here-level.result c.in-Integer.number c.here-level.ensures.value opens)
