use Rattle.std.proofs.Common.{arith}
use Rattle.tcl_text.proofs.GlobMasks.{high_none, high_step, high_all}
use Rattle.tcl_text.proofs.glob_masks.mark_high.Goals as goal

pub loop-at-init : goal.loop-at-init
loop-at-init c = high_none _ _ _ _ _

pub loop-at-preserved : goal.loop-at-preserved
loop-at-preserved c = high_step _ _ _ _ _ _ c.loop-at.at _ _ c.loop-at.invariant (omega arith) (omega arith) c.index-letters-at.is c.marked.ensures

pub returns : goal.returns
returns c = high_all _ _ _ _ _ _ c.loop-at.at c.loop-at.invariant (omega arith)
