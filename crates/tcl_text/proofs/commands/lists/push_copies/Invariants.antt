use Rattle.std.proofs.Common.{◌≡◌, ◌++◌, take}
use Rattle.tcl_text.proofs.commands.lists.push_copies.Given as goal

abbrev pub invariant-loop-text : goal.invariant-loop-text
invariant-loop-text l = l.list.items ≡ l.initial.list.items ++ take l.text-index l.texts
