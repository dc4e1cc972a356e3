use Rattle.tcl_interp.proofs.LeavesSame.{tasks_leave}
use Rattle.tcl_interp.proofs.leaving_laws.tasks_leave.Goals as goal

pub returns : goal.returns
returns g c = tasks_leave
