use Rattle.tcl_expr.proofs.GrammarLaws.{trees}
use Rattle.tcl_expr.proofs.laws.trees_are_read.Goals as goal

pub returns : goal.returns
returns c = trees
