use Rattle.std.proofs.Common.{◌≡◌, Bor, Err, List, Some, ap, map, rules, sym, ℕ, ◌∙◌}
use Rattle.std.proofs.lemmas.List.{drop_all}
use Rattle.panels_bench.proofs.ValueLemmas.{all_more, left_begin, left_end, left_refused, left_step, says_err}
use Rattle.panels_bench.specs.Gestures.{held_for}
use Rattle.panels_bench.specs.Values.{all_said}
use Rattle.panels_bench.proofs.typing.held_for.Goals as goal

pub loop-word-init : goal.loop-word-init
loop-word-init c = left_begin _ _ _ c.new-held.ensures.items

pub loop-word-preserved : goal.loop-word-preserved
loop-word-preserved c =
    left_step _ _ _ _ _ _ _ _ (all_more (λ (word : Bor (List ℕ)). held_for word.now) c.args.words.now c.loop-word.word-index _ c.loop-word-test.true) c.in_ok-push_held.ensures.1 c.in_ok-push_held.ensures.2 c.loop-word.invariant

pub returns-in_err-push_held : goal.returns-in_err-push_held
returns-in_err-push_held c =
    let same : c.from_residual.result ≡ Err c.in_err-push_held.field-0.0 = search rules in
    says_err _ _ _ _ same (λ said. left_refused _ _ _ _ _ _ (all_more (λ (word : Bor (List ℕ)). held_for word.now) c.args.words.now c.loop-word.word-index _ c.loop-word-test.true) (c.in_err-push_held.ensures said) c.loop-word.invariant)

pub returns : goal.returns
returns c =
    let end = left_end _ _ _ _ (ap (λ left. all_said (map (λ (word : Bor (List ℕ)). held_for word.now) left)) (drop_all c.loop-word.word-index c.args.words.now c.loop-word-test.false)) c.loop-word.invariant in
    end.1 ∙ ap (λ own. Some own) (sym end.2)
