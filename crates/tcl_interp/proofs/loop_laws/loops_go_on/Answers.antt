use Rattle.tcl_interp.proofs.Loops.{loops_go_on, only_loop}
use Rattle.tcl_interp.proofs.loop_laws.loops_go_on.Goals as goal

pub returns-clause-equation : goal.returns-clause-equation
returns-clause-equation g c = loops_go_on

pub returns-clause-only : goal.returns-clause-only
returns-clause-only g c = only_loop
