use Rattle.std.proofs.Common.{◌≡◌, List, None, ℕ, ap, ◌∙◌, subst, IfOk}
use Rattle.tk_patterns.specs.Filing.{pairs_of_key, pairs_of_button, pairs_of_any, all_named, without_repeats}
use Rattle.tk_patterns.proofs.OrderLemmas.{names_of_three}
use Rattle.tk_patterns.proofs.filing.stamps_of_names.Goals as goal

pub returns : goal.returns
returns c =
    let tag = c.args.tag.now in
    let filed = c.args.filed.now in
    let event = c.args.event.now in
    let virtuals = c.args.virtuals.now in
    let kind = c.args.kind in
    subst (λ (keys : List ℕ). IfOk c.in_order.result (λ list. list.items ≡ keys))
    (c.in_ok-add_named-3.ensures
    ∙ ap (λ pairs. all_named tag filed c.add_named-2.new.stamps.keys (without_repeats None pairs)) c.pairs_of_any.ensures
    ∙ ap (λ keys. all_named tag filed keys (without_repeats None (pairs_of_any kind virtuals)))
    (c.in_ok-add_named-2.ensures ∙ ap (λ pairs. all_named tag filed c.add_named.new.stamps.keys (without_repeats None pairs)) c.pairs_of_button.ensures)
    ∙ ap (λ keys. all_named tag filed (all_named tag filed keys (without_repeats None (pairs_of_button kind event.button virtuals))) (without_repeats None (pairs_of_any kind virtuals)))
    (c.in_ok-add_named.ensures
    ∙ ap (λ pairs. all_named tag filed c.new-stamps.result.keys (without_repeats None pairs)) c.pairs_of_key.ensures
    ∙ ap (λ keys. all_named tag filed keys (without_repeats None (pairs_of_key kind event.key virtuals))) c.new-stamps.ensures.empty)
    ∙ names_of_three tag filed (pairs_of_key kind event.key virtuals) (pairs_of_button kind event.button virtuals) (pairs_of_any kind virtuals) c.requires)
    c.in_order.ensures
