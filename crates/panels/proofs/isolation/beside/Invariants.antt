use Rattle.std.proofs.Common.{◌≡◌, ◌++◌, Some}
use Rattle.std.specs.Vec.Iter.{into_iter_items}
use Rattle.panels.specs.Beside.{beside}
use Rattle.panels.proofs.isolation.beside.Given as goal

-- those that were gone through, and those that are left, are all
abbrev pub invariant-loop-panel : goal.invariant-loop-panel
invariant-loop-panel l = l.others.items ++ beside l.neighbours l.before (into_iter_items l.panel-iterator) ≡ beside l.neighbours (Some l.kept) l.fn.panels.items
