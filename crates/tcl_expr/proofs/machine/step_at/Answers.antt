use Rattle.std.proofs.Common.{◌+◌, ap, arith}
use Rattle.tcl_expr.proofs.StepLemmas.{go_on}
use Rattle.tcl_expr.proofs.machine.step_at.Goals as goal

pub returns-in-Skip : goal.returns-in-Skip
returns-in-Skip c =
    let p = rw c.in-Skip.is at c.in_ok-count.ensures in (
      go_on c.args.steps.now c.args.place (c.args.place + 1 + c.min.result) c.in-Skip.count c.index-steps-place.result c.args.stack.now c.perform.new.stack c.requires
          c.index-steps-place.is (ap (λ m. c.args.place + 1 + m) c.min.ensures) p,
      omega arith,
      omega arith,
    )
