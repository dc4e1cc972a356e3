use Rattle.std.proofs.Common.{◌≡◌, ◌≤◌, length, take}
use Rattle.std.specs.List.{concat}
use Rattle.tcl_text.proofs.lengths.total.Given as goal

abbrev pub invariant-loop-text : goal.invariant-loop-text
invariant-loop-text l = (l.sum ≡ length (concat (take l.text-index l.texts))) × (l.sum ≤ 65536)
