use Rattle.std.proofs.Common.{◌≡◌, Err, List, Some, ap, map, rules, sym, ℕ, ◌∙◌}
use Rattle.std.proofs.lemmas.Iterator.Consumers.{YieldsList-from_rest}
use Rattle.std.specs.Map.Iter.{deref_pair}
use Rattle.toml.specs.View.{members_view, view}
use Rattle.panels_bench.proofs.ValueLemmas.{left_begin, left_end, left_refused, left_step, says_err}
use Rattle.panels_bench.specs.Sights.{variable_said, of_members, sight}
use Rattle.panels_text.proofs.Turns.{road_end, road_more}
use Rattle.panels_bench.proofs.asking.variables.Goals as goal

pub loop-name-init : goal.loop-name-init
loop-name-init c = left_begin _ _ _ (ap (map sight) c.new-looks.ensures.items)

pub loop-name-preserved : goal.loop-name-preserved
loop-name-preserved c =
    let here = road_more c.args.table.now.entries (YieldsList-from_rest {shows = deref_pair} c.args.table.now.entries (c.into_iter-name-iterator.ensures.into_iter_gives ∙ c.iter-name-items.ensures.rest)) c.loop-name.yielded c.loop-name.yielded_by (c.in-Some.name, c.in-Some.value) c.in-Some.is c.next.ensures.steps in
    left_step _ _ _ _ _ _ _ _ (ap (λ own. of_members (variable_said) (members_view own)) here)
    (ap (λ (own : List ℕ). variable_said own (view c.in-Some.value.now)) (sym c.as_str.ensures.value) ∙ c.in_ok-push_variable.ensures.1) c.in_ok-push_variable.ensures.2 c.loop-name.invariant

pub returns-in_err-push_variable : goal.returns-in_err-push_variable
returns-in_err-push_variable c =
    let here = road_more c.args.table.now.entries (YieldsList-from_rest {shows = deref_pair} c.args.table.now.entries (c.into_iter-name-iterator.ensures.into_iter_gives ∙ c.iter-name-items.ensures.rest)) c.loop-name.yielded c.loop-name.yielded_by (c.in-Some.name, c.in-Some.value) c.in-Some.is c.next.ensures.steps in
    let same : c.from_residual.result ≡ Err c.in_err-push_variable.field-0.0 = search rules in
    says_err _ _ _ _ same (λ said.
    left_refused _ _ _ _ _ _ (ap (λ own. of_members (variable_said) (members_view own)) here)
    (ap (λ (own : List ℕ). variable_said own (view c.in-Some.value.now)) (sym c.as_str.ensures.value) ∙ c.in_err-push_variable.ensures said) c.loop-name.invariant)

pub returns : goal.returns
returns c =
    let road = YieldsList-from_rest {shows = deref_pair} c.args.table.now.entries (c.into_iter-name-iterator.ensures.into_iter_gives ∙ c.iter-name-items.ensures.rest) in
    let gone = road_end c.args.table.now.entries road c.loop-name.yielded c.loop-name.yielded_by c.in-None.is c.next.ensures.steps in
    let end = left_end _ _ _ _ (ap (λ own. of_members (variable_said) (members_view own)) gone) c.loop-name.invariant in
    end.1 ∙ ap (λ own. Some own) (sym end.2)
