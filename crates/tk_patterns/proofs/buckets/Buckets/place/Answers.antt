use Rattle.std.proofs.Common.{◌≡◌, rules, sym, ◌∙◌, subst, IfSome}
use Rattle.std.proofs.lemmas.List.Sorted.{answers_always}
use Rattle.tk_patterns.specs.Filed.{HasStampAt, IsRising}
use Rattle.tk_patterns.proofs.PlaceLemmas.{found as found_there, stands}
use Rattle.tk_patterns.proofs.buckets.Buckets.place.Goals as goal

-- the closure gives what stands at a place its stamp
pub returns-clause-found : goal.returns-clause-found
returns-clause-found c =
    let facts = c.binary_search_by_key.ensures in
    let by_stamp = facts.position (λ filed. filed.stamp) (answers_always _ _ _ (λ f a r g called. search rules)) in
    let whole : c.deref.result.now ≡ c.args.self.now = c.deref.ensures.value ∙ c.self.view_is in
    λ place there.
    c.ok.ensures.value
    ∙ found_there c.deref.result.now (subst IsRising (sym c.deref.ensures.value) c.self.invariant.0.0) c.args.stamp c.binary_search_by_key.result facts.bound by_stamp place (subst (HasStampAt place c.args.stamp) (sym whole) there)

pub returns-clause-there : goal.returns-clause-there
returns-clause-there c =
    let facts = c.binary_search_by_key.ensures in
    let by_stamp = facts.position (λ filed. filed.stamp) (answers_always _ _ _ (λ f a r g called. search rules)) in
    let whole : c.deref.result.now ≡ c.args.self.now = c.deref.ensures.value ∙ c.self.view_is in
    subst (λ list. IfSome c.ok.result (λ place. HasStampAt place c.args.stamp list)) whole
    (subst (λ answer. IfSome answer (λ place. HasStampAt place c.args.stamp c.deref.result.now)) (sym c.ok.ensures.value)
    (stands c.deref.result.now c.args.stamp c.binary_search_by_key.result facts.bound by_stamp))
