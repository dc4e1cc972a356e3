use Rattle.std.proofs.Common.{◌≢◌}
use Rattle.tcl_interp.specs.Finish.{Idle}
use Rattle.tcl_interp.specs.Interp.{rest_of, left_of}
use Rattle.test_tcl.proofs.runner.Runner.slices.Given as goal

abbrev pub invariant-slices : goal.invariant-slices
invariant-slices l = record { begun : rest_of l.self.interp ≢ Idle }

abbrev pub decreases-slices : goal.decreases-slices
decreases-slices l = left_of l.self.interp
