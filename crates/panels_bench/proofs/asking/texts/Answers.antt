use Rattle.std.proofs.Common.{◌≡◌, Err, Some, ap, rules, sym, ◌∙◌}
use Rattle.std.proofs.lemmas.List.{drop_all}
use Rattle.toml.proofs.Views.{items_view-drop}
use Rattle.toml.specs.View.{items_view, view}
use Rattle.toml.specs.declared.value.Value.{Value}
use Rattle.panels_bench.proofs.ValueLemmas.{left_begin, left_end, left_refused, left_step, says_err}
use Rattle.panels_bench.specs.Sights.{short_in, texts_in}
use Rattle.panels_bench.specs.Values.{one}
use Rattle.panels_bench.proofs.asking.texts.Goals as goal

pub loop-value-init : goal.loop-value-init
loop-value-init c = left_begin _ _ _ c.new-texts.ensures.items

pub loop-value-preserved : goal.loop-value-preserved
loop-value-preserved c =
    left_step _ _ _ _ _ _ _ _ (ap texts_in (items_view-drop c.args.values.now c.loop-value.value-index c.value-item.result c.loop-value-test.true))
    (ap (λ (own : Value). one (short_in (view own))) (sym c.value-item.is) ∙ ap one c.in_ok-text_value.ensures) c.in_ok-push.ensures.items c.loop-value.invariant

pub returns-in_err-text_value : goal.returns-in_err-text_value
returns-in_err-text_value c =
    let same : c.from_residual.result ≡ Err c.in_err-text_value.field-0.0 = search rules in
    says_err _ _ _ _ same (λ said.
    left_refused _ _ _ _ _ _ (ap texts_in (items_view-drop c.args.values.now c.loop-value.value-index c.value-item.result c.loop-value-test.true))
    (ap (λ (own : Value). one (short_in (view own))) (sym c.value-item.is) ∙ ap one (c.in_err-text_value.ensures said)) c.loop-value.invariant)

pub returns : goal.returns
returns c =
    let end = left_end _ _ _ _ (ap (λ left. texts_in (items_view left)) (drop_all c.loop-value.value-index c.args.values.now c.loop-value-test.false)) c.loop-value.invariant in
    end.1 ∙ ap (λ own. Some own) (sym end.2)
