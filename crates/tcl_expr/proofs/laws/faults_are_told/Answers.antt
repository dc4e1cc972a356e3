use Rattle.tcl_expr.proofs.GrammarLaws.{faults}
use Rattle.tcl_expr.proofs.laws.faults_are_told.Goals as goal

pub returns : goal.returns
returns c = faults
