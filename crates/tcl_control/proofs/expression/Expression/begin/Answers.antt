use Rattle.std.proofs.Common.{Ok, [], ap, sym, ◌∙◌}
use Rattle.tcl_expr.specs.declared.state.State.TheVariants.{Ready}
use Rattle.tcl_expr.specs.Resuming.{evaluation_at}
use Rattle.tcl_expr.specs.Reading.{compiled}
use Rattle.tcl_control.specs.ExpressionForms.{expression_text, evaluation_begins}
use Rattle.tcl_control.proofs.ExpressionLemmas.{begins}
use Rattle.tcl_control.proofs.expression.Expression.begin.Goals as goal

pub returns-in_ok-copy-in-Read-clause-begun : goal.returns-in_ok-copy-in-Read-clause-begun
returns-in_ok-copy-in-Read-clause-begun c =
    ap Ok c.new.ensures.walk
    ∙ ap (λ text. Ok (evaluation_at 0 (compiled text) [] Ready)) c.in_ok-copy-in-Read.ensures
    ∙ begins c.in-Read.expr c.text-read.ensures.walk
    ∙ ap evaluation_begins (sym (ap expression_text c.in-Read.is) ∙ c.self.view_is)
