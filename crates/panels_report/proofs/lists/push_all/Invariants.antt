use Rattle.std.proofs.Common.{◌≡◌, ◌++◌}
use Rattle.std.specs.Vec.Iter.{into_iter_items}
use Rattle.panels_report.proofs.lists.push_all.Given as goal

-- those that were put behind the list, and those that are left, are all
abbrev pub invariant-loop-other : goal.invariant-loop-other
invariant-loop-other g l = l.list.items ++ into_iter_items l.other-iterator ≡ l.fn.list.items ++ l.fn.others.items
