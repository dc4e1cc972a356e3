use Rattle.std.proofs.Common.{drop}
use Rattle.toml.specs.View.{items_view}
use Rattle.panels_bench.proofs.PanelLemmas.{AliasesContinue}
use Rattle.panels_bench.proofs.sides.aliases.Given as goal

-- what the values that are left say stands behind what those before said
abbrev pub invariant-loop-value : goal.invariant-loop-value
invariant-loop-value l = AliasesContinue (items_view l.value-items) (items_view (drop l.value-index l.value-items)) l.lines
