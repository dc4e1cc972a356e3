use Rattle.std.proofs.Common.{◌/◌, arith}
use Rattle.tcl_control.proofs.choices.half.Goals as goal

pub returns-else-count-half : goal.returns-else-count-half
returns-else-count-half c = (c.args.count / 2, omega (arith, c.if-count-half.false))
