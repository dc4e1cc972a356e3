use Rattle.std.proofs.Common.{◌≡◌, ◌++◌, length}
use Rattle.tcl_commands.specs.ArraySteps.{pairs_matching}
use Rattle.tcl_commands.proofs.arrays.pairs_matching.Given as goal

abbrev pub invariant-loop-rest : goal.invariant-loop-rest
invariant-loop-rest l = l.wanted ++ pairs_matching l.pattern l.rest ≡ pairs_matching l.pattern l.pairs

abbrev pub decreases-loop-rest : goal.decreases-loop-rest
decreases-loop-rest l = length l.rest
