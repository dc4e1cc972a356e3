use Rattle.std.proofs.Common.{◌+◌, min, refl, arith}
use Rattle.tcl_text.proofs.GlobMasks.{marks_none, marks_more, marks_all}
use Rattle.tcl_text.proofs.glob_masks.mark_low.Goals as goal

pub loop-letter-init : goal.loop-letter-init
loop-letter-init c = (omega arith, λ inside. omega arith, marks_none c.args.first c.args.bit _ _ (omega arith))

pub loop-letter-preserved : goal.loop-letter-preserved
loop-letter-preserved c =
    let from = c.loop-letter.invariant.1 (omega arith) in
    (omega arith, λ inside. omega arith, marks_more c.args.first c.args.bit c.loop-letter.letter _ _ c.requires c.loop-letter.invariant.2 from (omega arith))

pub returns : goal.returns
returns c = marks_all _ c.args.first c.args.last c.args.bit (min _ (c.args.last + 1)) c.loop-letter.letter _ _ c.loop-letter.invariant.2 (omega arith) refl
