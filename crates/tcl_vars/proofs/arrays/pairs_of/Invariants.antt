-- The pairs so far are those of the elements so far.
use Rattle.std.proofs.Common.{◌≡◌, take}
use Rattle.tcl_vars.specs.Store.{pairs_of}
use Rattle.tcl_vars.proofs.arrays.pairs_of.Given as goal

abbrev pub invariant-loop-place : goal.invariant-loop-place
invariant-loop-place l = l.pairs ≡ pairs_of (take l.place l.elements)
