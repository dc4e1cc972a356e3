use Rattle.tcl_interp.proofs.Loops.{loops_go_on_where, only_loop_where}
use Rattle.tcl_interp.proofs.loop_laws.loops_go_on_where.Goals as goal

pub returns-clause-equation : goal.returns-clause-equation
returns-clause-equation g c = loops_go_on_where

pub returns-clause-only : goal.returns-clause-only
returns-clause-only g c = only_loop_where
