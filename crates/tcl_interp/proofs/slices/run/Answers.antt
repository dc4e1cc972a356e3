use Rattle.std.proofs.Common.{◌≡◌, ◌+◌, ap, sym, ◌∙◌, arith}
use Rattle.tcl_interp.specs.Rests.{standing_of}
use Rattle.tcl_interp.specs.Steps.{finish_from}
use Rattle.tcl_interp.proofs.slices.run.Goals as goal

pub iterations-preserved : goal.iterations-preserved
iterations-preserved g c =
    let before = standing_of c.iterations.doing c.iterations.frames.items c.iterations.scopes c.iterations.context in
    let gone = c.in_ok-gone-in_default.ensures in
    let steps = c.in_ok-gone-in_default.gone.steps in
    let left = c.proceed.new.left in
    let some : c.iterations.left ≡ steps + left = sym gone.counted in
    record {
      same = c.iterations.invariant.same ∙ ap (λ n. finish_from g.T.Tasks.outside before (g.T.Tasks.shows c.iterations.tasks) n) some ∙ gone.ok left;
      settled = gone.settled;
      counted = omega (arith, gone.counted, c.iterations.invariant.counted);
      most = omega (arith, gone.most, c.iterations.invariant.most);
      alone = gone.left ∙ c.iterations.invariant.alone;
    }
