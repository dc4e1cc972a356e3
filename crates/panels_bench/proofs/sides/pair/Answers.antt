use Rattle.std.proofs.Common.{sym, ◌∙◌}
use Rattle.panels_bench.proofs.PanelLemmas.{pair_is, pair_lacking, pair_said}
use Rattle.panels_bench.proofs.sides.pair.Goals as goal

pub returns-in-Some-clause-said : goal.returns-in-Some-clause-said
returns-in-Some-clause-said c = pair_said _ _ _ _ c.in_ok-array.ensures.ok (sym c.in-Some.is ∙ c.pair_of.ensures.pair)

pub returns-in-Some-clause-pair : goal.returns-in-Some-clause-pair
returns-in-Some-clause-pair c = (pair_is _ _ _ _ c.in_ok-array.ensures.ok (sym c.in-Some.is ∙ c.pair_of.ensures.pair), c.in-Some.ensures.most.0, c.in-Some.ensures.most.1)

pub returns-in-None-clause-said : goal.returns-in-None-clause-said
returns-in-None-clause-said c = λ said. pair_lacking _ _ _ c.in_ok-array.ensures.ok (sym c.in-None.is ∙ c.pair_of.ensures.pair)
