use Rattle.std.proofs.Common.{rules, arith}
use Rattle.tcl_text.proofs.GlobPlaces.{behind_none, behind_both}
use Rattle.tcl_text.proofs.glob_places.behind_dead.Goals as goal

pub loop-rest-init : goal.loop-rest-init
loop-rest-init c = (search rules, omega arith, behind_none _ _, omega arith)

pub loop-rest-preserved : goal.loop-rest-preserved
loop-rest-preserved c = (search rules, omega arith, behind_both _ _ _ _ c.loop-rest.invariant.2 c.behind_window-whole.ensures, omega arith)

pub returns-then-not-whole-clause-dead : goal.returns-then-not-whole-clause-dead
returns-then-not-whole-clause-dead c = behind_both _ _ _ _ c.loop-rest.invariant.2 c.behind_window-whole.ensures
