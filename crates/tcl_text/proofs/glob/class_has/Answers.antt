use Rattle.std.proofs.Common.{rules, ◌∙◌}
use Rattle.tcl_text.proofs.GlobLemmas.{in_class-past_range, in_class-past_one}
use Rattle.tcl_text.proofs.glob.class_has.Goals as goal

pub loop-low-preserved-in-Some-range_end : goal.loop-low-preserved-in-Some-range_end
loop-low-preserved-in-Some-range_end c = (
  search rules,
  in_class-past_range _ _ _ _ _ _ c.in-Some.ensures.cut c.in-Some-range_end.ensures.found c.else-low-character.either ∙ c.loop-low.invariant.1,
)

pub loop-low-preserved : goal.loop-low-preserved
loop-low-preserved c = (
  search rules,
  in_class-past_one _ _ _ _ c.in-Some.ensures.cut c.in-None.ensures.none c.if-low-character-2.false ∙ c.loop-low.invariant.1,
)
