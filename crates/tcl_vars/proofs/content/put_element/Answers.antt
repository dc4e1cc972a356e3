-- A known index keeps the length, a new one adds one.
use Rattle.std.proofs.Common.{◌∙◌, refl, sym, ap, length, arith}
use Rattle.tcl_vars.proofs.TableLemmas.{length-with_value-new, length-with_value-known}
use Rattle.tcl_vars.proofs.content.put_element.Goals as goal

pub returns-then-room-eq0-clause-full : goal.returns-then-room-eq0-clause-full
returns-then-room-eq0-clause-full c =
    λ _. (refl, omega (arith, length-with_value-new c.args.index.now c.args.value c.args.elements.now (sym c.in-None.ensures.value)))

pub returns-in-Some-clause-ok : goal.returns-in-Some-clause-ok
returns-in-Some-clause-ok c = (
  refl,
  omega (arith, length-with_value-known c.args.index.now c.args.value c.args.elements.now c.in-Some.held.now (sym c.in-Some.ensures.value)),
  omega arith,
)

pub returns-in_ok-insert-in-None-clause-ok : goal.returns-in_ok-insert-in-None-clause-ok
returns-in_ok-insert-in-None-clause-ok c = (
  c.in_ok-insert-in-None.ensures.ok,
  ap length c.in_ok-insert-in-None.ensures.ok
      ∙ length-with_value-new c.args.index.now c.args.value c.args.elements.now (sym c.in-None.ensures.value),
  omega arith,
)
