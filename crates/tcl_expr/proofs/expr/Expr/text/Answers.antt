use Rattle.tcl_expr.proofs.CompileLemmas.{tree_there}
use Rattle.tcl_expr.proofs.GrammarLaws.{expression_read}
use Rattle.tcl_expr.proofs.expr.Expr.text.Goals as goal

pub returns-clause-expression : goal.returns-clause-expression
returns-clause-expression c = rw (← c.self.view_is) (expression_read _ (tree_there _ _ c.self.invariant))

pub returns-clause-walk : goal.returns-clause-walk
returns-clause-walk c = rw (← c.self.view_is) (tree_there _ _ c.self.invariant)
