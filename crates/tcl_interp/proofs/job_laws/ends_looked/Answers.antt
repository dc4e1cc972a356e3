use Rattle.tcl_interp.proofs.Ends.{ends_looked}
use Rattle.tcl_interp.proofs.job_laws.ends_looked.Goals as goal

pub returns : goal.returns
returns g c = ends_looked
