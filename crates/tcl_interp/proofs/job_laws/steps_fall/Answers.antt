use Rattle.tcl_interp.proofs.Ends.{steps_fall}
use Rattle.tcl_interp.proofs.job_laws.steps_fall.Goals as goal

pub returns : goal.returns
returns g c = steps_fall
