use Rattle.std.proofs.Common.{◌≡◌, ◌+◌, suc, ap, ◌∙◌, arith}
use Rattle.tcl_interp.specs.Rests.{doing_of, standing_of}
use Rattle.tcl_interp.specs.Steps.{TakesStep, finish_from}
use Rattle.tcl_interp.proofs.Settled.{pauses_once}
use Rattle.tcl_interp.proofs.slices.proceed.Goals as goal

pub returns-in_ok-now-in_default : goal.returns-in_ok-now-in_default
returns-in_ok-now-in_default g c =
    let outside = g.T.Tasks.outside in
    let before = standing_of c.args.now c.args.frames.now.items c.args.scopes.now c.args.context.now in
    let between = standing_of c.in_ok-next-in_default.next c.take_step.new.frames.items c.take_step.new.scopes c.take_step.new.context in
    let taken = c.in_ok-next-in_default.ensures in
    let settled = c.in_ok-now-in_default.ensures in
    let step : TakesStep outside before (g.T.Tasks.shows c.args.tasks.now) between (g.T.Tasks.shows c.take_step.new.tasks) = taken.ok in
    record {
      ok = λ left.
          let one : 1 + left ≡ suc left = omega arith in
          ap (finish_from outside before (g.T.Tasks.shows c.args.tasks.now)) one ∙ step left ∙ settled.ok left;
      settled = settled.settled;
      most = omega (arith, c.requires.some);
      counted = omega (arith, c.requires.some, c.requires.there);
      taken = omega (arith, c.requires.some, c.requires.there);
      within = omega (arith, c.requires.some, c.requires.there);
      on = omega (arith, pauses_once (doing_of c.in_ok-now-in_default.now));
      left = settled.left ∙ taken.left;
    }
