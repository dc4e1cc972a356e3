-- Separators that are sorted, to be looked up by halves.
use Rattle.std.proofs.Common.{◌≡◌, ℕ, ◌<◌, ◌≤◌, Bool, List, [], ◌∷◌, length, get_or, eqb, Result, Ok, Err, inl, inr, refl, sym, ap, ◌∙◌, arith}
use Rattle.std.specs.List.Sorted.{IsPermutation, IsSorted, IsBinarySearchResult}
use Rattle.std.specs.Ordering.{nat_cmp}
use Rattle.std.specs.Result.{is_ok}
use Rattle.std.specs.Str.{encode_utf8_all}
use Rattle.std.proofs.lemmas.Bool.{eq-eqb, ne_eqb, cases_lt}
use Rattle.std.proofs.lemmas.List.{get_or_default}
use Rattle.std.proofs.lemmas.List.Folds.{list_any_at, list_any_none}
use Rattle.std.proofs.lemmas.List.Sorted.{IsNonDecreasingBy-from_sort, list_any-IsPermutation, searched}
use Rattle.std.specs.Prelude.{map}
use Rattle.std.specs.Str.{chars}
use Rattle.tcl_text.specs.ListCommands.{cut_at, is_one_of, pieces_of}

-- the same cuts by tests that agree
cut_at-same : (test other : ℕ → Bool) → ((c : ℕ) → test c ≡ other c) → (cs : List ℕ) → cut_at test cs ≡ cut_at other cs
cut_at-same test other same [] = refl
cut_at-same test other same (c ∷ cs) = rw (same c, cut_at-same test other same cs) refl

pub pieces-permuted : (text xs ys : List ℕ) → IsPermutation xs ys → pieces_of text ys ≡ pieces_of text xs
pieces-permuted text xs ys moved =
    ap (map encode_utf8_all) (cut_at-same (is_one_of ys) (is_one_of xs) (λ c. sym (list_any-IsPermutation (λ s. eqb s c) xs ys moved)) (chars text))

-- what halving says is what looking at each says
none_there : (xs : List ℕ) (c i : ℕ) → ((k : ℕ) → k < i → get_or xs k 0 < c) → ((k : ℕ) → i ≤ k → k < length xs → c < get_or xs k 0) → (k : ℕ) → k < length xs → get_or xs k 0 ≡ c → ⊥
none_there xs c i below above k within is = elim (cases_lt k i) [
  | inl before ↦ let less = below k before in omega (arith, less)
  | inr from ↦ let more = above k from within in omega (arith, more)
]

pub looked_up : (xs : List ℕ) (c : ℕ) (r : Result ℕ ℕ) → IsSorted nat_cmp xs → IsBinarySearchResult (λ y. nat_cmp y c) xs r → is_ok r ≡ is_one_of xs c
looked_up xs c (Ok i) sorted found =
    let rises = IsNonDecreasingBy-from_sort (λ (x : ℕ). x) xs sorted in
    let there : (i < length xs) × (get_or xs i 0 ≡ c) = searched xs c (Ok i) found (λ j k below within. rises j k 0 below within) in
    sym (list_any_at (λ s. eqb s c) xs i 0 there.0 (eq-eqb (get_or xs i 0) c there.1))
looked_up xs c (Err i) sorted found =
    let rises = IsNonDecreasingBy-from_sort (λ (x : ℕ). x) xs sorted in
    let around : (i ≤ length xs) × ((k : ℕ) → k < i → get_or xs k 0 < c) × ((k : ℕ) → i ≤ k → k < length xs → c < get_or xs k 0) =
    searched xs c (Err i) found (λ j k below within. rises j k 0 below within)
    in
    sym (list_any_none (λ s. eqb s c) xs (λ k d within. ne_eqb (get_or xs k d) c (λ is. none_there xs c i around.1 around.2 k within (get_or_default xs k 0 d within ∙ is))))

-- the one separator
pub only_item : (xs : List ℕ) (x : ℕ) → length xs ≡ 1 → x ≡ get_or xs 0 x → xs ≡ x ∷ []
only_item [] x e is = absurd (omega arith)
only_item (y ∷ []) x e is = ap (λ (z : ℕ). z ∷ []) (sym is)
only_item (y ∷ z ∷ zs) x e is = absurd (omega arith)
