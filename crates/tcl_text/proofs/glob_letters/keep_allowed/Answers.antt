use Rattle.std.proofs.Common.{◌-◌, arith}
use Rattle.tcl_text.proofs.GlobLetters.{mask_read}
use Rattle.tcl_text.proofs.GlobPlaces.{allowed_none, allowed_more, kept_none, kept_more, kept_past, kept_all}
use Rattle.tcl_text.proofs.glob_letters.keep_allowed.Goals as goal

pub loop-at-init : goal.loop-at-init
loop-at-init c = (allowed_none _ _ _ _ (omega arith), kept_none _ _ _ _)

pub loop-at-preserved-then-at-alive : goal.loop-at-preserved-then-at-alive
loop-at-preserved-then-at-alive c =
    let from = allowed_more _ _ c.args.parts _ _ _ c.loop-at-test.true c.requires.few (mask_read c.args.low.now c.args.letters.now c.args.high.now 2048 (c.loop-at.at - 1) _ _ c.index-letters-at.is (omega arith) c.mask_of.ensures) c.loop-at.invariant.0 in
    (from, kept_more _ _ c.args.parts _ _ _ _ c.loop-at-test.true (omega arith) (omega arith) (omega arith) c.requires.some from c.loop-at.invariant.1)

pub loop-at-preserved : goal.loop-at-preserved
loop-at-preserved c = (
  allowed_more _ _ c.args.parts _ _ _ c.loop-at-test.true c.requires.few (mask_read c.args.low.now c.args.letters.now c.args.high.now 2048 (c.loop-at.at - 1) _ _ c.index-letters-at.is (omega arith) c.mask_of.ensures) c.loop-at.invariant.0,
  kept_past _ c.args.parts _ _ _ (omega arith) c.loop-at.invariant.1,
)

pub returns : goal.returns
returns c = kept_all _ _ _ _ c.loop-at.at (omega arith) c.loop-at.invariant.1
