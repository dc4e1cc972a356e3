use Rattle.std.proofs.Common.{[], drop, map}
use Rattle.toml.specs.View.{table_view}
use Rattle.panels_bench.proofs.ValueLemmas.{Left}
use Rattle.panels_bench.specs.Sights.{sight, sights_at}
use Rattle.panels_bench.specs.Values.{all_said}
use Rattle.panels_bench.proofs.seeing.all_sights.Given as goal

-- what was found, and what the keys say that are left, is all
abbrev pub invariant-loop-row : goal.invariant-loop-row
invariant-loop-row l =
    Left (map sight l.looks.items) (all_said (map (λ row. sights_at (table_view l.part.table.now) row.0.now row.1) (drop l.row-index l.rows))) [] (all_said (map (λ row. sights_at (table_view l.part.table.now) row.0.now row.1) l.rows))
