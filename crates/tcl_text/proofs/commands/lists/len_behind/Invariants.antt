use Rattle.std.proofs.Common.{◌≡◌, ◌+◌, ◌≤◌, length, take}
use Rattle.tcl_text.specs.ListSteps.{each_behind}
use Rattle.tcl_text.proofs.commands.lists.len_behind.Given as goal

abbrev pub invariant-loop-item : goal.invariant-loop-item
invariant-loop-item l = (l.size ≡ l.text + length (each_behind l.between (take l.item-index l.items))) × (l.size ≤ 65536)
