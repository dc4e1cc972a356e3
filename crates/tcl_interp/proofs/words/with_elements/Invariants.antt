use Rattle.std.proofs.Common.{◌≡◌, ◌++◌, take}
use Rattle.tcl_interp.proofs.words.with_elements.Given as goal

abbrev pub invariant-loop-element : goal.invariant-loop-element
invariant-loop-element l = l.all ≡ l.fn.whole ++ take l.element-index l.items
