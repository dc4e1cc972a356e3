use Rattle.tcl_interp.proofs.Loops.{scripts_take_no_steps_back}
use Rattle.tcl_interp.proofs.loop_laws.scripts_take_no_steps_back.Goals as goal

pub returns : goal.returns
returns g c = scripts_take_no_steps_back
