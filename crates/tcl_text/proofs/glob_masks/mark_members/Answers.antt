use Rattle.std.proofs.Common.{rules}
use Rattle.std.specs.Str.{chars}
use Rattle.tcl_text.proofs.GlobMasks.{members_none, members_range, members_one, members_all}
use Rattle.tcl_text.proofs.glob_masks.mark_members.Goals as goal

pub loop-first-init : goal.loop-first-init
loop-first-init g c = (search rules, members_none _ _ (chars c.args.class.now) _ _, members_none _ _ (chars c.args.class.now) _ _)

pub loop-first-preserved-in-Some-range_end : goal.loop-first-preserved-in-Some-range_end
loop-first-preserved-in-Some-range_end g c = (
  search rules,
  members_range _ _ _ _ _ _ _ _ _ _ _ _ c.loop-first.invariant.1 c.mark_range.ensures.below c.in-Some.ensures.cut c.in-Some-range_end.ensures.found,
  members_range _ _ _ _ _ _ _ _ _ _ _ _ c.loop-first.invariant.2 c.mark_range.ensures.above c.in-Some.ensures.cut c.in-Some-range_end.ensures.found,
)

pub loop-first-preserved : goal.loop-first-preserved
loop-first-preserved g c = (
  search rules,
  members_one _ _ _ _ _ _ _ _ _ _ c.loop-first.invariant.1 c.mark_range-in-None.ensures.below c.in-Some.ensures.cut c.in-None.ensures.none,
  members_one _ _ _ _ _ _ _ _ _ _ c.loop-first.invariant.2 c.mark_range-in-None.ensures.above c.in-Some.ensures.cut c.in-None.ensures.none,
)
