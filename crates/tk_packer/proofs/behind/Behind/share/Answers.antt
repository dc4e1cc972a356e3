use Rattle.std.proofs.Common.{sym, arith}
use Rattle.tk_packer.proofs.Shares.{least_none, least_next, least_within}
use Rattle.tk_packer.proofs.Tallies.{share_all}
use Rattle.tk_packer.proofs.behind.Behind.share.Goals as goal

pub loop-narrow-init : goal.loop-narrow-init
loop-narrow-init c = sym (least_none _ _)

pub loop-narrow-preserved : goal.loop-narrow-preserved
loop-narrow-preserved c = least_next _ _ _ _ _ _ _ _ _ c.deref-narrow-items.ensures.value c.loop-narrow-test.true c.loop-narrow.invariant c.saturating_sub-beside.ensures c.min-least.ensures

pub returns-clause-value : goal.returns-clause-value
returns-clause-value c = λ later were. share_all c.args.free _ _ _ _ _ _ _ _ (omega arith) c.deref-narrow-items.ensures.value c.loop-narrow-test.false c.saturating_sub-left.ensures c.loop-narrow.invariant were

pub returns-clause-bound : goal.returns-clause-bound
returns-clause-bound c = least_within _ _ _ _ _ _ c.saturating_sub-left.ensures c.loop-narrow.invariant
