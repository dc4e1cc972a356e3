use Rattle.std.proofs.Common.{◌∙◌, sym, drop}
use Rattle.tcl_expr.proofs.StepLemmas.{run_ends, passed, asked_past}
use Rattle.tcl_expr.proofs.machine.run.Goals as goal

pub returns-in-Halted : goal.returns-in-Halted
returns-in-Halted c =
    let p = rw c.in-Halted.is at c.in_ok-next.ensures in (
      sym c.loop-place.invariant.runs ∙ p.0,
      asked_past c.args.steps.now c.args.start c.loop-place.place c.in-Halted.halt.ask (drop c.in-Halted.halt.place c.args.steps.now) c.loop-place.invariant.on p.1,
    )

pub returns : goal.returns
returns c = (
  run_ends c.args.steps.now c.loop-place.place c.loop-place.stack c.pop-value.result c.in_ok-text.text _ c.loop-place-test.false c.pop-value.ensures.top c.in_ok-text.ensures
      c.loop-place.invariant.runs,
  passed c.args.steps.now c.args.start c.loop-place.place c.loop-place.invariant.on,
)
