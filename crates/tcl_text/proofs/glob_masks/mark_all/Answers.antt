use Rattle.std.proofs.Common.{arith}
use Rattle.tcl_text.proofs.GlobMasks.{all_none, all_more}
use Rattle.tcl_text.proofs.glob_masks.mark_all.Goals as goal

pub loop-at-init : goal.loop-at-init
loop-at-init c = all_none _ _

pub loop-at-preserved : goal.loop-at-preserved
loop-at-preserved c = all_more _ _ _ c.loop-at.at c.loop-at.invariant (omega arith)

pub returns : goal.returns
returns c = λ place within. c.loop-at.invariant.seen place (omega arith)
