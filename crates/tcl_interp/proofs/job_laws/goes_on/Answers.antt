use Rattle.tcl_interp.proofs.Unrolled.{goes_on, invoking}
use Rattle.tcl_interp.proofs.job_laws.goes_on.Goals as goal

pub returns-clause-job : goal.returns-clause-job
returns-clause-job g c = goes_on

pub returns-clause-invoked : goal.returns-clause-invoked
returns-clause-invoked g c = invoking
