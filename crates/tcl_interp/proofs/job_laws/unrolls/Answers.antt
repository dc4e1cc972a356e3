use Rattle.tcl_interp.proofs.Unrolled.{unrolls, determined}
use Rattle.tcl_interp.proofs.job_laws.unrolls.Goals as goal

pub returns-clause-equation : goal.returns-clause-equation
returns-clause-equation g c = unrolls

pub returns-clause-determined : goal.returns-clause-determined
returns-clause-determined g c = determined
