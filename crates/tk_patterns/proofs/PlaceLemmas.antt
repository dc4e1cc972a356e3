-- What a search finds among stamps that rise.
use Rattle.std.proofs.Common.{◌≡◌, ℕ, zero, suc, ◌<◌, List, [], ◌∷◌, length, get_or, Some, Result, Ok, Err, inl, inr, sym, ap, IfSome, arith}
use Rattle.std.specs.List.Sorted.{IsSearchInRange, IsBinarySearchResult, IsNonDecreasingBy}
use Rattle.std.specs.Ordering.{nat_cmp, ordering_index}
use Rattle.std.specs.Result.{result_ok}
use Rattle.std.proofs.lemmas.Bool.{cases_lt}
use Rattle.std.proofs.lemmas.Cmp.{ranked}
use Rattle.std.proofs.lemmas.List.Sorted.{IsNonDecreasingBy-from_default}
use Rattle.std.proofs.lemmas.Bool.Decides.{nat_tests}
use Rattle.tk_patterns.specs.declared.filed.Filed.{Filed}
use Rattle.tk_patterns.specs.Filed.{HasStampAt, AllAbove, IsRising}

abbrev nothing : Filed
nothing = record { stamp = 0; numbers = record { class = 0; whole = 0 } }

-- the stamp that stands at a place
pub stamp_there : (list : List Filed) (place stamp : ℕ) → HasStampAt place stamp list → (place < length list) × ((get_or list place nothing).stamp ≡ stamp)
stamp_there [] place stamp there = absurd there
stamp_there (filed ∷ list) zero stamp there = (omega arith, there)
stamp_there (filed ∷ list) (suc place) stamp there = let rest = stamp_there list place stamp there in (omega (arith, rest.0), rest.1)

-- and the other way round
pub is_there : (list : List Filed) (place stamp : ℕ) → place < length list → (get_or list place nothing).stamp ≡ stamp → HasStampAt place stamp list
is_there [] place stamp below is = absurd (omega arith)
is_there (filed ∷ list) zero stamp below is = is
is_there (filed ∷ list) (suc place) stamp below is = is_there list place stamp (omega arith) is

above_there : (stamp : ℕ) (list : List Filed) (place : ℕ) → AllAbove stamp list → place < length list → stamp < (get_or list place nothing).stamp
above_there stamp [] place above below = absurd (omega arith)
above_there stamp (filed ∷ list) zero above below = above.0
above_there stamp (filed ∷ list) (suc place) above below = above_there stamp list place above.1 (omega arith)

-- a place further on has a stamp that is higher
rises : (list : List Filed) → IsRising list → (i j : ℕ) → i < j → j < length list → (get_or list i nothing).stamp < (get_or list j nothing).stamp
rises [] rising i j less below = absurd (omega arith)
rises (filed ∷ list) rising zero zero less below = absurd (omega arith)
rises (filed ∷ list) rising zero (suc j) less below = above_there filed.stamp list j rising.0 (omega arith)
rises (filed ∷ list) rising (suc i) zero less below = absurd (omega arith)
rises (filed ∷ list) rising (suc i) (suc j) less below = rises list rising.1 i j (omega arith) (omega arith)

module _ (list : List Filed) (rising : IsRising list) (stamp : ℕ) where
  comparisons_rise : IsNonDecreasingBy (λ filed. ordering_index (nat_cmp filed.stamp stamp)) list
  comparisons_rise = IsNonDecreasingBy-from_default (λ filed. ordering_index (nat_cmp filed.stamp stamp)) list nothing (λ i j le below.
      let rise = rises list rising i j in
      grind (arith, nat_tests, rise, λ (same : i ≡ j). ap (λ k. (get_or list k nothing).stamp) same))

  -- no two places have one stamp
  one_place : (i j : ℕ) → i < length list → j < length list → (get_or list i nothing).stamp ≡ stamp → (get_or list j nothing).stamp ≡ stamp → i ≡ j
  one_place i j i_below j_below i_is j_is = elim (cases_lt i j) [
    | inl less ↦ absurd (let rise = rises list rising i j less j_below in omega (arith, rise, i_is, j_is))
    | inr le ↦ elim (cases_lt j i) [
      | inl less ↦ absurd (let rise = rises list rising j i less i_below in omega (arith, rise, i_is, j_is))
      | inr ge ↦ omega (arith, le, ge)
    ]
  ]

  pub found : (r : Result ℕ ℕ) → IsSearchInRange r (length list) → IsBinarySearchResult (λ filed. nat_cmp filed.stamp stamp) list r → (place : ℕ) → HasStampAt place stamp list → result_ok r ≡ Some place
  found (Ok at) in_range equal place there =
      let facts = stamp_there list place stamp there in
      ap Some (one_place at place in_range facts.0 (ranked _ stamp _ (sym (equal nothing))) facts.1)
  found (Err at) in_range parted place there =
      let facts = stamp_there list place stamp there in
      elim (cases_lt place at) [
        | inl less ↦ absurd (let before = ranked _ stamp _ (sym ((parted comparisons_rise).0 place nothing (omega arith) less)) in omega (arith, before, facts.1))
        | inr le ↦ absurd (let after = ranked _ stamp _ (sym ((parted comparisons_rise).1 place nothing le facts.0)) in omega (arith, after, facts.1))
      ]

-- what a search finds is there
pub stands : (list : List Filed) (stamp : ℕ) (r : Result ℕ ℕ) → IsSearchInRange r (length list) → IsBinarySearchResult (λ filed. nat_cmp filed.stamp stamp) list r
    → IfSome (result_ok r) (λ place. HasStampAt place stamp list)
stands list stamp (Ok at) in_range equal = is_there list at stamp in_range (ranked _ stamp _ (sym (equal nothing)))
stands list stamp (Err at) in_range parted = tt
