use Rattle.std.proofs.Common.{Some, ap, sym, ◌∙◌}
use Rattle.std.proofs.lemmas.List.{drop_all}
use Rattle.toml.proofs.Views.{items_view-drop}
use Rattle.toml.specs.View.{items_view, view}
use Rattle.toml.specs.declared.value.Value.{Value}
use Rattle.panels_bench.proofs.ValueLemmas.{left_begin, left_end, left_refused, left_step}
use Rattle.panels_bench.specs.Sights.{most_rows, rows_in}
use Rattle.panels_bench.specs.Values.{one}
use Rattle.panels_text.specs.Tables.{number_in}
use Rattle.panels_bench.proofs.asking.rows.Goals as goal

pub loop-value-init : goal.loop-value-init
loop-value-init c = left_begin _ _ _ c.new-rows.ensures.items

pub loop-value-preserved : goal.loop-value-preserved
loop-value-preserved c =
    left_step _ _ _ _ _ _ _ _ (ap rows_in (items_view-drop c.args.values.now c.loop-value.value-index c.value-item.result c.loop-value-test.true))
    (ap (λ (own : Value). one (number_in most_rows (Some (view own)))) (sym c.value-item.is) ∙ ap one (sym c.in_range.ensures.number ∙ c.in-Some.is)) c.in_ok-push-in-Some.ensures.items c.loop-value.invariant

pub returns-in-None : goal.returns-in-None
returns-in-None c = λ said.
    left_refused _ _ _ _ _ _ (ap rows_in (items_view-drop c.args.values.now c.loop-value.value-index c.value-item.result c.loop-value-test.true))
    (ap (λ (own : Value). one (number_in most_rows (Some (view own)))) (sym c.value-item.is) ∙ ap one (sym c.in_range.ensures.number ∙ c.in-None.is)) c.loop-value.invariant

pub returns : goal.returns
returns c =
    let end = left_end _ _ _ _ (ap (λ left. rows_in (items_view left)) (drop_all c.loop-value.value-index c.args.values.now c.loop-value-test.false)) c.loop-value.invariant in
    end.1 ∙ ap (λ own. Some own) (sym end.2)
