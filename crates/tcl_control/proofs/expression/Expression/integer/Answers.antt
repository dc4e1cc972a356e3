use Rattle.std.proofs.Common.{◌≡◌, IfSome, ap, sym, subst, ◌∙◌}
use Rattle.tcl_control.specs.ExpressionForms.{IsIntegerBy, expression_text}
use Rattle.tcl_control.proofs.expression.Expression.integer.Goals as goal

pub returns-in-Read : goal.returns-in-Read
returns-in-Read g c =
    let text : c.in-Read.expr ≡ c.args.self.now = sym (ap expression_text c.in-Read.is) ∙ c.self.view_is in
    subst (λ text. IfSome c.integer_of.result (IsIntegerBy (g.N.Numbers.number c.args.numbers.now) text)) text c.integer_of.ensures
