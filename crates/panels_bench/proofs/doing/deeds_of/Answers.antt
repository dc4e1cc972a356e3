use Rattle.std.proofs.Common.{Bor, List, map, subst, ℕ}
use Rattle.toml.specs.View.{table_view}
use Rattle.panels_bench.specs.Gestures.{deed, deeds_at, ways}
use Rattle.panels_bench.specs.Values.{Says, all_said}
use Rattle.panels_bench.specs.declared.doing.Way.{Way}
use Rattle.panels_bench.proofs.doing.deeds_of.Goals as goal

pub returns : goal.returns
unfolding ways
returns c =
    let members = table_view c.args.part.now.table.now in
    subst (λ (rows : List (Bor (List ℕ) × Way)). Says (λ found. map deed found.items) c.all_deeds.result (all_said (map (λ (row : Bor (List ℕ) × Way). deeds_at c.args.panels.now members row.0.now row.1) rows))) c.as_slice.ensures c.all_deeds.ensures
