use Rattle.std.proofs.Common.{◌≡◌, length}
use Rattle.tcl_commands.specs.Arrays.{odd_key}
use Rattle.tcl_commands.proofs.arrays.odd_key.Given as goal

abbrev pub invariant-loop-rest : goal.invariant-loop-rest
invariant-loop-rest l = odd_key l.rest ≡ odd_key l.items

abbrev pub decreases-loop-rest : goal.decreases-loop-rest
decreases-loop-rest l = length l.rest
