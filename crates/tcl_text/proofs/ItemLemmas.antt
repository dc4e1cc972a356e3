-- The items that are left of a list that is kept.
use Rattle.std.proofs.Common.{◌≡◌, ℕ, ◌+◌, ◌-◌, ◌<◌, ◌≤◌, nat_lt, List, [], ◌∷◌, take, drop, length, get_or, arith, ap, sym, ◌∙◌, inl, inr}
use Rattle.std.proofs.lemmas.Bool.{cases_lt, lt-ltb, le-ltb}
use Rattle.std.proofs.lemmas.List.{drop_all, drop_more, length-drop}
use Rattle.tcl_text.proofs.KeptItems.{one_item}

-- the first of them, by what is taken between its place and the next
pub first_kept : (items : List (List ℕ)) (n : ℕ) (item : List ℕ) → n < length items → drop n (take (n + 1) items) ≡ item ∷ [] → drop n items ≡ item ∷ drop (n + 1) items
first_kept items n item inside is =
    drop_more items n [] inside ∙ ap (λ x. x ∷ drop (n + 1) items) (ap (λ (xs : List (List ℕ)). get_or xs 0 []) (sym (one_item items n inside) ∙ is))

pub none_kept : (items : List (List ℕ)) (n : ℕ) → length items ≤ n → drop n items ≡ []
none_kept items n past = drop_all n items past

pub more_kept : (items : List (List ℕ)) (n : ℕ) → nat_lt n (length items) ≡ nat_lt 0 (length (drop n items))
more_kept items n = elim (cases_lt n (length items)) [
  | inl inside ↦ lt-ltb n (length items) inside ∙ sym (lt-ltb 0 (length (drop n items)) (omega (arith, length-drop n items, inside)))
  | inr past ↦ le-ltb n (length items) past ∙ sym (ap (λ (xs : List (List ℕ)). nat_lt 0 (length xs)) (none_kept items n past))
]
