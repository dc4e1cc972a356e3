use Rattle.std.proofs.Common.{[], drop}
use Rattle.toml.specs.View.{items_view}
use Rattle.panels_bench.proofs.ValueLemmas.{Left}
use Rattle.panels_bench.specs.Sights.{rows_in}
use Rattle.panels_bench.proofs.asking.rows.Given as goal

-- the rows so far, and those of what is left, are all
abbrev pub invariant-loop-value : goal.invariant-loop-value
invariant-loop-value l = Left l.rows.items (rows_in (items_view (drop l.value-index l.values))) [] (rows_in (items_view l.values))
