use Rattle.std.proofs.Common.{rules, arith}
use Rattle.tcl_text.proofs.GlobPieces.{Spans-none, Spans-more}
use Rattle.tcl_text.proofs.GlobMasks.{allows_none, allows_any, allows_more, any_behind, any_part}
use Rattle.tcl_text.proofs.glob_masks.mark_some.Goals as goal

pub loop-count-init : goal.loop-count-init
loop-count-init g c = (omega arith, search rules, Spans-none _, allows_none _ _ _ _, allows_none _ _ _ _)

pub loop-count-preserved-in-Some : goal.loop-count-preserved-in-Some
loop-count-preserved-in-Some g c = (
  omega arith,
  search rules,
  Spans-more _ _ _ _ c.loop-count.invariant.2 (any_part _ _ c.in-Some.ensures.found) (any_behind _ _ c.in-Some.ensures.found),
  allows_any _ _ _ _ _ c.loop-count.count (omega arith) c.loop-count.invariant.3,
  allows_any _ _ _ _ _ c.loop-count.count (omega arith) c.loop-count.invariant.4,
)

pub loop-count-preserved : goal.loop-count-preserved
loop-count-preserved g c = (
  omega arith,
  search rules,
  Spans-more _ _ _ _ c.loop-count.invariant.2 c.in-Some-mark_part.ensures.part c.in-Some-mark_part.ensures.behind,
  allows_more _ _ _ _ _ _ _ _ c.loop-count.invariant.3 c.loop-count.invariant.2 c.in-Some-mark_part.ensures.part c.in-Some-mark_part.ensures.below,
  allows_more _ _ _ _ _ _ _ _ c.loop-count.invariant.4 c.loop-count.invariant.2 c.in-Some-mark_part.ensures.part c.in-Some-mark_part.ensures.above,
)
