use Rattle.std.proofs.Common.{◌≡◌, ◌++◌, take}
use Rattle.std.specs.String.{string_bytes}
use Rattle.tcl_text.specs.ListSteps.{each_behind}
use Rattle.tcl_text.proofs.commands.lists.push_behind.Given as goal

abbrev pub invariant-loop-item : goal.invariant-loop-item
invariant-loop-item l = string_bytes l.string ≡ string_bytes l.initial.string ++ each_behind l.between (take l.item-index l.items)
