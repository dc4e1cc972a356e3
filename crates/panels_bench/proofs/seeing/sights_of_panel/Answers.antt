use Rattle.std.proofs.Common.{Bor, List, map, subst, ℕ}
use Rattle.toml.specs.View.{table_view}
use Rattle.panels_bench.specs.Sights.{sight, sights_at, panel_keys}
use Rattle.panels_bench.specs.Values.{Says, all_said}
use Rattle.panels_bench.specs.declared.seeing.Sought.{Sought}
use Rattle.panels_bench.proofs.seeing.sights_of_panel.Goals as goal

pub returns : goal.returns
unfolding panel_keys
returns c =
    let members = table_view c.args.part.now.table.now in
    subst (λ (rows : List (Bor (List ℕ) × Sought)). Says (λ looks. map sight looks.items) c.all_sights.result (all_said (map (λ (row : Bor (List ℕ) × Sought). sights_at members row.0.now row.1) rows))) c.as_slice.ensures c.all_sights.ensures
