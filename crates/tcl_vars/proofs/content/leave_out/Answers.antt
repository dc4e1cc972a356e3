-- None comes, so what went are as many as are fewer.
use Rattle.std.proofs.Common.{length, ap, arith}
use Rattle.tcl_vars.proofs.UnsetLemmas.{values_fewer}
use Rattle.tcl_vars.proofs.content.leave_out.Goals as goal

pub overflow_sub-result : goal.overflow_sub-result
overflow_sub-result c =
    omega (arith, values_fewer c.args.pattern.now c.args.elements.now, c.len-before.ensures.len, c.len.ensures.len, ap length c.leave_out.ensures)

pub returns-clause-counted : goal.returns-clause-counted
returns-clause-counted c =
    omega (arith, values_fewer c.args.pattern.now c.args.elements.now, c.len-before.ensures.len, c.len.ensures.len, ap length c.leave_out.ensures)
