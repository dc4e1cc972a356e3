use Rattle.tcl_interp.proofs.Agreeing.{scripts_agree_where}
use Rattle.tcl_interp.proofs.script_laws.scripts_agree_where.Goals as goal

pub returns : goal.returns
returns g c = scripts_agree_where
