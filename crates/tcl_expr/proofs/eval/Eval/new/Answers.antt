use Rattle.tcl_expr.proofs.CompileLemmas.{whole_of}
use Rattle.tcl_expr.specs.Grammar.{IsExpression}
use Rattle.tcl_expr.specs.Reading.{tree_of}
use Rattle.tcl_expr.proofs.GrammarLaws.{tree_walked}
use Rattle.tcl_expr.proofs.eval.Eval.new.Goals as goal

pub returns-clause-tree : goal.returns-clause-tree
returns-clause-tree c =
    let e : IsExpression c.args.expr = c.text-source.ensures.expression in
    (e.0, e.1, rw c.new.ensures (whole_of (tree_of c.args.expr) e.0 (tree_walked c.args.expr e.0 e.1)))

pub returns-clause-value : goal.returns-clause-value
returns-clause-value c = λ tree is. rw c.new.ensures (whole_of (tree_of c.args.expr) tree (tree_walked c.args.expr tree is))
