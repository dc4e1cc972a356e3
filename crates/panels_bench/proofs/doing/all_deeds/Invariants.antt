use Rattle.std.proofs.Common.{[], drop, map}
use Rattle.toml.specs.View.{table_view}
use Rattle.panels_bench.proofs.ValueLemmas.{Left}
use Rattle.panels_bench.specs.Gestures.{deed, deeds_at}
use Rattle.panels_bench.specs.Values.{all_said}
use Rattle.panels_bench.proofs.doing.all_deeds.Given as goal

-- what was found, and what the keys say that are left, is all
abbrev pub invariant-loop-way : goal.invariant-loop-way
invariant-loop-way l =
    Left (map deed l.found.items) (all_said (map (λ row. deeds_at l.panels (table_view l.part.table.now) row.0.now row.1) (drop l.way-index l.ways))) [] (all_said (map (λ row. deeds_at l.panels (table_view l.part.table.now) row.0.now row.1) l.ways))
