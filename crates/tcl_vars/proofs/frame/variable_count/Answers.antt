-- Each entry adds its count.
use Rattle.std.proofs.Common.{◌≡◌, ◌+◌, take, ap, ◌∙◌, sym, arith}
use Rattle.tcl_vars.specs.Store.{frame_count}
use Rattle.tcl_vars.proofs.CountLemmas.{frame_count-more, frame_count-bound}
use Rattle.tcl_vars.proofs.frame.variable_count.Goals as goal

pub overflow_add-count : goal.overflow_add-count
overflow_add-count c =
    let so_far : c.loop-index.count ≡ frame_count (take c.loop-index.index c.args.frame.now) = c.loop-index.invariant in
    omega (
      arith,
      so_far,
      c.count-count.ensures,
      c.requires,
      frame_count-bound c.args.frame.now c.loop-index.index (c.at.result.0.now, c.at.result.1.now) (omega arith) c.at.ensures.entry,
    )

pub loop-index-preserved : goal.loop-index-preserved
loop-index-preserved c =
    let so_far : c.loop-index.count ≡ frame_count (take c.loop-index.index c.args.frame.now) = c.loop-index.invariant in
    ap (λ n. n + c.count-count.result) so_far
    ∙ ap (λ n. frame_count (take c.loop-index.index c.args.frame.now) + n) c.count-count.ensures
    ∙ sym (frame_count-more c.args.frame.now c.loop-index.index (c.at.result.0.now, c.at.result.1.now) (omega arith) c.at.ensures.entry)
