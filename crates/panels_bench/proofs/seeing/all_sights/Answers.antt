use Rattle.std.proofs.Common.{◌≡◌, Bor, Err, List, Some, ℕ, ap, map, rules, sym, ◌∙◌}
use Rattle.std.proofs.lemmas.List.{drop_all, map-append}
use Rattle.toml.specs.View.{table_view}
use Rattle.panels_bench.proofs.ValueLemmas.{all_more, left_begin, left_end, left_refused, left_step, says_err}
use Rattle.panels_bench.specs.Sights.{sight, sights_at}
use Rattle.panels_bench.specs.Values.{all_said}
use Rattle.panels_bench.specs.declared.seeing.Sought.{Sought}
use Rattle.panels_bench.proofs.seeing.all_sights.Goals as goal

pub loop-row-init : goal.loop-row-init
loop-row-init c = left_begin _ _ _ (ap (map sight) c.new-looks.ensures.items)

pub loop-row-preserved : goal.loop-row-preserved
loop-row-preserved c =
    left_step _ _ _ _ _ _ _ _ (all_more (λ (row : Bor (List ℕ) × Sought). sights_at (table_view c.args.part.now.table.now) row.0.now row.1) c.args.rows.now c.loop-row.row-index _ c.loop-row-test.true) c.in_ok-more.ensures
    (ap (map sight) c.in_ok-append.ensures.items ∙ map-append sight _ _) c.loop-row.invariant

pub returns-in_err-more : goal.returns-in_err-more
returns-in_err-more c =
    let same : c.from_residual.result ≡ Err c.in_err-more.field-0.0 = search rules in
    says_err _ _ _ _ same (λ said. left_refused _ _ _ _ _ _ (all_more (λ (row : Bor (List ℕ) × Sought). sights_at (table_view c.args.part.now.table.now) row.0.now row.1) c.args.rows.now c.loop-row.row-index _ c.loop-row-test.true) (c.in_err-more.ensures said) c.loop-row.invariant)

pub returns : goal.returns
returns c =
    let end = left_end _ _ _ _ (ap (λ left. all_said (map (λ (row : Bor (List ℕ) × Sought). sights_at (table_view c.args.part.now.table.now) row.0.now row.1) left)) (drop_all c.loop-row.row-index c.args.rows.now c.loop-row-test.false)) c.loop-row.invariant in
    end.1 ∙ ap (λ own. Some own) (sym end.2)
