-- The count so far is that of the entries so far.
use Rattle.std.proofs.Common.{◌≡◌, take}
use Rattle.tcl_vars.specs.Store.{frame_count}
use Rattle.tcl_vars.proofs.frame.variable_count.Given as goal

abbrev pub invariant-loop-index : goal.invariant-loop-index
invariant-loop-index l = l.count ≡ frame_count (take l.index l.frame)
