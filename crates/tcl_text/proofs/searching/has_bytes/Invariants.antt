use Rattle.std.proofs.Common.{length}
use Rattle.tcl_text.specs.SearchSteps.{Passes}
use Rattle.tcl_text.proofs.searching.has_bytes.Given as goal

abbrev pub invariant-loop-rest : goal.invariant-loop-rest
invariant-loop-rest l = Passes l.item l.text l.rest l.found

abbrev pub decreases-loop-rest : goal.decreases-loop-rest
decreases-loop-rest l = length l.rest
