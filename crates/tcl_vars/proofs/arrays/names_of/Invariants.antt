-- The names so far are those of the elements so far.
use Rattle.std.proofs.Common.{◌≡◌, take, map}
use Rattle.tcl_vars.proofs.arrays.names_of.Given as goal

abbrev pub invariant-loop-place : goal.invariant-loop-place
invariant-loop-place l = l.names ≡ map (λ e. e.0) (take l.place l.elements)
