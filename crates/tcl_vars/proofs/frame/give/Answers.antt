-- A known variable keeps the count, a new one adds one.
use Rattle.std.proofs.Common.{◌∙◌, refl, sym, ap, arith}
use Rattle.tcl_vars.specs.Store.{frame_count}
use Rattle.tcl_vars.proofs.GiveLemmas.{frame_count-known, frame_count-new}
use Rattle.tcl_vars.proofs.frame.give.Goals as goal

pub returns-in-Some-clause-ok : goal.returns-in-Some-clause-ok
returns-in-Some-clause-ok c = (
  refl,
  omega (arith, frame_count-known c.args.frame.now c.args.variable.now c.args.content c.requires.light c.in-Some.held.now (sym c.in-Some.ensures.value) c.requires.replaceable),
  omega arith,
)

pub returns-then-room-eq0-clause-ok : goal.returns-then-room-eq0-clause-ok
returns-then-room-eq0-clause-ok c = (
  refl,
  omega (arith, frame_count-new c.args.frame.now c.args.variable.now c.args.content c.requires.light (sym c.in_default.ensures.value), c.if-room-eq0.true),
)

pub returns-clause-ok : goal.returns-clause-ok
returns-clause-ok c = (
  c.in_ok-insert.ensures.ok,
  ap frame_count c.in_ok-insert.ensures.ok ∙ frame_count-new c.args.frame.now c.args.variable.now c.args.content c.requires.light (sym c.in_default.ensures.value),
  omega (arith, c.if-room-eq0.false),
)
