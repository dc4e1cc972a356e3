use Rattle.tcl_control.proofs.ExpressionLemmas.{integer_by}
use Rattle.tcl_control.proofs.expression.integer_of.Goals as goal

pub returns : goal.returns
returns g c = integer_by (g.N.Numbers.number c.args.numbers.now) c.args.expr.now c.integer.result c.text-read.ensures.walk c.integer.ensures
