use Rattle.std.proofs.Common.{[], drop}
use Rattle.toml.specs.View.{items_view}
use Rattle.panels_bench.proofs.ValueLemmas.{Left}
use Rattle.panels_bench.specs.Sights.{texts_in}
use Rattle.panels_bench.proofs.asking.texts.Given as goal

-- the texts so far, and those of what is left, are all
abbrev pub invariant-loop-value : goal.invariant-loop-value
invariant-loop-value l = Left l.texts.items (texts_in (items_view (drop l.value-index l.values))) [] (texts_in (items_view l.values))
