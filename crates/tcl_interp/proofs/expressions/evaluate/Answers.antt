use Rattle.std.proofs.Common.{◌≡◌, ℕ, List, Option, sym, arith, rules}
use Rattle.std.proofs.lemmas.Grind.{common_steps}
use Rattle.std.specs.Fmt.{signed_decimal}
use Rattle.std.specs.Prelude.{ℤ}
use Rattle.tcl_vars.specs.Store.{number_in}
use Rattle.tcl_expr.specs.Straight.{ComesTo}
use Rattle.tcl_interp.specs.declared.machine.Answered.{Answered}
use Rattle.tcl_interp.specs.Rests.{waits_of}
use Rattle.tcl_interp.proofs.Straight.{straight_moves}
use Rattle.tcl_interp.proofs.expressions.evaluate.Goals as goal

in_box : (number : List ℕ → Option ℤ) (n : ℤ) (a b : Answered) → a ≡ b → ComesTo number a.eval n → ComesTo number b.eval n
in_box number n a b e h = rw (sym e) h

pub returns-in_ok-text-in-Some : goal.returns-in_ok-text-in-Some
returns-in_ok-text-in-Some g c =
    let text : c.in_ok-text-in-Some.text ≡ signed_decimal c.in-Some.number =
    first_of (grind (arith, c.in_ok-text-in-Some.ensures), search (rules, c.in_ok-text-in-Some.ensures), grind (arith, common_steps, c.in_ok-text-in-Some.ensures)) in
    rw text
    (straight_moves c.args.scopes.now c.args.context.now c.args.room (waits_of c.args.frames.now.items) c.args.answered.value.eval c.args.answered.value.given c.here-level.result
    c.in-Some.number c.args.answered.value.answered c.here-level.ensures.value
    (in_box (number_in c.args.scopes.now c.here-level.result) c.in-Some.number c.deref.result.now c.args.answered.value c.deref.ensures c.in-Some.ensures))
