use Rattle.tcl_interp.proofs.Agreeing.{scripts_agree}
use Rattle.tcl_interp.proofs.script_laws.scripts_agree.Goals as goal

pub returns : goal.returns
returns g c = scripts_agree
