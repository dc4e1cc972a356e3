-- No text stands in a cache twice.
use Rattle.std.proofs.Common.{◌≡◌, ℕ, zero, suc, ◌≤◌, Bool, true, false, cond, not, List, [], ◌∷◌, length, take, bytes_eq, refl, arith}
use Rattle.std.specs.List.{IsDistinct, AllByRecursion}
use Rattle.tcl_table.specs.Kept.{other_texts}
use Rattle.tcl_table.specs.CacheLaws.{kept_after, NoTextTwice}

all_taken : (test : List ℕ → Bool) (n : ℕ) (texts : List (List ℕ)) → AllByRecursion (λ t. test t ≡ false) texts → AllByRecursion (λ t. test t ≡ false) (take n texts)
all_taken test zero texts all = tt
all_taken test (suc n) [] all = tt
all_taken test (suc n) (t ∷ texts) all = (all.0, all_taken test n texts all.1)

distinct_taken : (n : ℕ) (texts : List (List ℕ)) → IsDistinct bytes_eq texts → IsDistinct bytes_eq (take n texts)
unfolding IsDistinct
distinct_taken zero texts distinct = tt
distinct_taken (suc n) [] distinct = tt
distinct_taken (suc n) (t ∷ texts) distinct = (all_taken (bytes_eq t) n texts distinct.0, distinct_taken n texts distinct.1)

all_without : (test : List ℕ → Bool) (text : List ℕ) (texts : List (List ℕ)) → AllByRecursion (λ t. test t ≡ false) texts → AllByRecursion (λ t. test t ≡ false) (other_texts text texts)
all_without test text [] all = tt
all_without test text (t ∷ texts) all = by (bytes_eq text t) (all_without test text texts all.1)
  where
    by : (b : Bool) → AllByRecursion (λ t. test t ≡ false) (other_texts text texts) → AllByRecursion (λ t. test t ≡ false) (cond (not b) (t ∷ other_texts text texts) (other_texts text texts))
    by true rest = rest
    by false rest = (all.0, rest)

distinct_without : (text : List ℕ) (texts : List (List ℕ)) → IsDistinct bytes_eq texts → IsDistinct bytes_eq (other_texts text texts)
unfolding IsDistinct
distinct_without text [] distinct = tt
distinct_without text (t ∷ texts) distinct = by (bytes_eq text t) (distinct_without text texts distinct.1)
  where
    by : (b : Bool) → IsDistinct bytes_eq (other_texts text texts) → IsDistinct bytes_eq (cond (not b) (t ∷ other_texts text texts) (other_texts text texts))
    by true rest = rest
    by false rest = (all_without (bytes_eq t) text texts distinct.0, rest)

differs : (text : List ℕ) (texts : List (List ℕ)) → AllByRecursion (λ t. bytes_eq text t ≡ false) (other_texts text texts)
differs text [] = tt
differs text (t ∷ texts) = by (bytes_eq text t) refl (differs text texts)
  where
    by : (b : Bool) → bytes_eq text t ≡ b → AllByRecursion (λ t. bytes_eq text t ≡ false) (other_texts text texts) → AllByRecursion (λ t. bytes_eq text t ≡ false) (cond (not b) (t ∷ other_texts text texts) (other_texts text texts))
    by true is rest = rest
    by false is rest = (is, rest)

distinct_after : (asked : List (List ℕ)) (capacity : ℕ) → IsDistinct bytes_eq (kept_after asked capacity).texts
unfolding IsDistinct
distinct_after [] capacity = tt
distinct_after (text ∷ earlier) capacity =
    distinct_taken (kept_after earlier capacity).capacity (text ∷ other_texts text (kept_after earlier capacity).texts)
    (differs text (kept_after earlier capacity).texts, distinct_without text (kept_after earlier capacity).texts (distinct_after earlier capacity))

capacity_after : (asked : List (List ℕ)) (capacity : ℕ) → (kept_after asked capacity).capacity ≡ capacity
capacity_after [] capacity = refl
capacity_after (text ∷ earlier) capacity = capacity_after earlier capacity

length_taken : (n : ℕ) (texts : List (List ℕ)) → length (take n texts) ≤ n
length_taken zero texts = omega arith
length_taken (suc n) [] = omega arith
length_taken (suc n) (t ∷ texts) = let rest : length (take n texts) ≤ n = length_taken n texts in omega arith

fits_after : (asked : List (List ℕ)) (capacity : ℕ) → length (kept_after asked capacity).texts ≤ capacity
fits_after [] capacity = omega arith
fits_after (text ∷ earlier) capacity =
    let it = length_taken (kept_after earlier capacity).capacity (text ∷ other_texts text (kept_after earlier capacity).texts) in
    omega (arith, it, capacity_after earlier capacity)

pub no_text_twice_holds : NoTextTwice
no_text_twice_holds asked capacity = (distinct_after asked capacity, fits_after asked capacity)
