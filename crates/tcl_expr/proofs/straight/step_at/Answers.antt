use Rattle.std.proofs.Common.{◌+◌, ap, arith}
use Rattle.tcl_expr.proofs.StraightLemmas.{straight_on}
use Rattle.tcl_expr.proofs.straight.step_at.Goals as goal

pub returns : goal.returns
returns g c = (
  straight_on (g.N.Numbers.number c.args.numbers.now) c.args.steps.now c.args.place (c.args.place + 1 + c.min.result) c.in_ok-skip.skip c.index-steps-place.result c.args.stack.now
      c.perform.new.stack c.requires c.index-steps-place.is (ap (λ m. c.args.place + 1 + m) c.min.ensures) c.in_ok-skip.ensures,
  omega arith,
  omega arith,
)
