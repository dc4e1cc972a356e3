use Rattle.std.proofs.Common.{◌≡◌, ◌++◌, length}
use Rattle.std.specs.Prelude.{filter}
use Rattle.tcl_commands.specs.Arrays.{is_wanted}
use Rattle.tcl_commands.proofs.arrays.names_matching.Given as goal

abbrev pub invariant-loop-rest : goal.invariant-loop-rest
invariant-loop-rest l = l.wanted ++ filter (is_wanted l.pattern) l.rest ≡ filter (is_wanted l.pattern) l.names

abbrev pub decreases-loop-rest : goal.decreases-loop-rest
decreases-loop-rest l = length l.rest
