use Rattle.std.proofs.lemmas.Result.{IfOk-weaker, IfErr-weaker}
use Rattle.tcl_expr.proofs.GrammarLaws.{expression_read, fault_told, tree_answered, fault_answered}
use Rattle.tcl_expr.proofs.parse.parse_expr.Goals as goal

pub returns-clause-expression : goal.returns-clause-expression
returns-clause-expression c = IfOk-weaker c.read_expr.result _ _ (λ _ ok. expression_read c.args.source.now ok) c.read_expr.ensures.tree

pub returns-clause-fault : goal.returns-clause-fault
returns-clause-fault c = IfErr-weaker c.read_expr.result _ _ (fault_told c.args.source.now) c.read_expr.ensures.fault

pub returns-clause-read : goal.returns-clause-read
returns-clause-read c = tree_answered c.args.source.now c.read_expr.result (c.read_expr.ensures.tree, c.read_expr.ensures.fault)

pub returns-clause-told : goal.returns-clause-told
returns-clause-told c = fault_answered c.args.source.now c.read_expr.result (c.read_expr.ensures.tree, c.read_expr.ensures.fault)
