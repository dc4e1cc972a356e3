use Rattle.tcl_interp.proofs.LeavesSame.{scripts_leave}
use Rattle.tcl_interp.proofs.leaving_laws.scripts_leave.Goals as goal

pub returns : goal.returns
returns g c = scripts_leave
