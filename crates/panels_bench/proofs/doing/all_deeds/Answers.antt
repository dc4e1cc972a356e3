use Rattle.std.proofs.Common.{◌≡◌, Bor, Err, List, Some, ℕ, ap, map, rules, sym, ◌∙◌}
use Rattle.std.proofs.lemmas.List.{drop_all, map-append}
use Rattle.toml.specs.View.{table_view}
use Rattle.panels_bench.proofs.ValueLemmas.{all_more, left_begin, left_end, left_refused, left_step, says_err}
use Rattle.panels_bench.specs.Gestures.{deed, deeds_at}
use Rattle.panels_bench.specs.Values.{all_said}
use Rattle.panels_bench.specs.declared.doing.Way.{Way}
use Rattle.panels_bench.proofs.doing.all_deeds.Goals as goal

pub loop-way-init : goal.loop-way-init
loop-way-init c = left_begin _ _ _ (ap (map deed) c.new-found.ensures.items)

pub loop-way-preserved : goal.loop-way-preserved
loop-way-preserved c =
    left_step _ _ _ _ _ _ _ _ (all_more (λ (row : Bor (List ℕ) × Way). deeds_at c.args.panels.now (table_view c.args.part.now.table.now) row.0.now row.1) c.args.ways.now c.loop-way.way-index _ c.loop-way-test.true) c.in_ok-more.ensures
    (ap (map deed) c.in_ok-append.ensures.items ∙ map-append deed _ _) c.loop-way.invariant

pub returns-in_err-more : goal.returns-in_err-more
returns-in_err-more c =
    let same : c.from_residual.result ≡ Err c.in_err-more.field-0.0 = search rules in
    says_err _ _ _ _ same (λ said. left_refused _ _ _ _ _ _ (all_more (λ (row : Bor (List ℕ) × Way). deeds_at c.args.panels.now (table_view c.args.part.now.table.now) row.0.now row.1) c.args.ways.now c.loop-way.way-index _ c.loop-way-test.true) (c.in_err-more.ensures said) c.loop-way.invariant)

pub returns : goal.returns
returns c =
    let end = left_end _ _ _ _ (ap (λ left. all_said (map (λ (row : Bor (List ℕ) × Way). deeds_at c.args.panels.now (table_view c.args.part.now.table.now) row.0.now row.1) left)) (drop_all c.loop-way.way-index c.args.ways.now c.loop-way-test.false)) c.loop-way.invariant in
    end.1 ∙ ap (λ own. Some own) (sym end.2)
