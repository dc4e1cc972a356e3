-- Rising lists of numbers, and the children among windows whose numbers rise.
use Rattle.std.proofs.Common.{◌≡◌, ◌≢◌, ℕ, zero, suc, ◌<◌, ◌≤◌, Bool, true, false, List, [], ◌∷◌, ◌++◌, length, Option, Some, None, Result, Ok, Err, ⊎_elim, refl, sym, ap, ◌∙◌, subst, arith, append-nil, nat_cmp}
use Rattle.std.specs.Prelude.{◌==◌, not, filter, get_or, MatchResult}
use Rattle.std.specs.List.{remove}
use Rattle.std.specs.List.Sorted.{IsBinarySearchResult}
use Rattle.std.proofs.lemmas.List.Sorted.{searched}
use Rattle.std.proofs.lemmas.Bool.{eq-eqb, ne_eqb, cases_order}
use Rattle.tk_base.specs.Numbered.{AllBelow, AllAbove, IsRising}
use Rattle.tk_base.specs.declared.counter.Counter.{Counter}
use Rattle.tk_tree.specs.declared.index.PathIndex.{PathIndex}
use Rattle.tk_tree.specs.declared.window.Window.{Window}
use Rattle.tk_tree.specs.Arena.{IsKept}
use Rattle.tk_tree.specs.Index.{AreRising, Adds, children_at, added_child}
use Rattle.tk_tree.specs.Own.{is_child_of, child_numbers}
use Rattle.tk_tree.specs.Window.{number_of}
use Rattle.tk_tree.proofs.Lists.{rising_more}
use Rattle.tk_tree.proofs.Slots.{Slots, own_list}
use Rattle.tk_base.specs.Counters.{next_of}

abbrev itself : ℕ → ℕ
itself n = n

above_at : (n : ℕ) (ns : List ℕ) (place : ℕ) → AllAbove itself n ns → place < length ns → n < get_or ns place 0
above_at n [] place above within = absurd (omega (arith, within))
above_at n (m ∷ ns) zero above within = above.0
above_at n (m ∷ ns) (suc place) above within = above_at n ns place above.1 (omega (arith, within))

-- what stands before is no greater
pub rising_at : (ns : List ℕ) → AreRising ns → (i j : ℕ) → i ≤ j → j < length ns → get_or ns i 0 ≤ get_or ns j 0
rising_at [] rising i j le within = absurd (omega (arith, within))
rising_at (n ∷ ns) rising zero zero le within = omega arith
rising_at (n ∷ ns) rising zero (suc j) le within = let above = above_at n ns j rising.0 (omega (arith, within)) in omega (arith, above)
rising_at (n ∷ ns) rising (suc i) zero le within = absurd (omega (arith, le))
rising_at (n ∷ ns) rising (suc i) (suc j) le within = rising_at ns rising.1 i j (omega (arith, le)) (omega (arith, within))

above_stay : (n : ℕ) (ns : List ℕ) → AllAbove itself n ns → filter (λ m. not (m == n)) ns ≡ ns
above_stay n [] above = refl
above_stay n (m ∷ ns) above = rw (ne_eqb m n (λ same. omega (arith, same, above.0))) (ap (λ ms. m ∷ ms) (above_stay n ns above.1))

-- the number at a place is the only one
removed_is : (n : ℕ) (ns : List ℕ) (place : ℕ) → AreRising ns → place < length ns → get_or ns place 0 ≡ n → remove ns place ≡ filter (λ m. not (m == n)) ns
removed_is n [] place rising within here = absurd (omega (arith, within))
removed_is n (m ∷ ns) zero rising within here = rw (eq-eqb m n here) (sym (above_stay n ns (subst (λ k. AllAbove itself k ns) here rising.0)))
removed_is n (m ∷ ns) (suc place) rising within here =
    let above = above_at m ns place rising.0 (omega (arith, within)) in
    rw (ne_eqb m n (λ same. omega (arith, same, here, above))) (ap (λ ms. m ∷ ms) (removed_is n ns place rising.1 (omega (arith, within)) here))

-- a number that stands nowhere
absent_stay : (n : ℕ) (ns : List ℕ) → ((k : ℕ) → k < length ns → get_or ns k 0 ≢ n) → filter (λ m. not (m == n)) ns ≡ ns
absent_stay n [] absent = refl
absent_stay n (m ∷ ns) absent =
    rw (ne_eqb m n (absent zero (omega arith))) (ap (λ ms. m ∷ ms) (absent_stay n ns (λ k within. absent (suc k) (omega (arith, within)))))

-- what a search in halves found taken out
pub searched_out : (n : ℕ) (ns : List ℕ) (result : Result ℕ ℕ) → AreRising ns → IsBinarySearchResult (λ m. nat_cmp m n) ns result
    → MatchResult result (λ place. remove ns place ≡ filter (λ m. not (m == n)) ns) (λ place. ns ≡ filter (λ m. not (m == n)) ns)
searched_out n ns (Ok place) rising found =
    let here = searched ns n (Ok place) found (rising_at ns rising) in
    removed_is n ns place rising here.0 here.1
searched_out n ns (Err place) rising found =
    let none = searched ns n (Err place) found (rising_at ns rising) in
    let apart : (k : ℕ) → k < length ns → get_or ns k 0 ≢ n =
    λ k within same. ⊎_elim
    (λ at. let more = none.2 k (omega (arith, at)) within in omega (arith, more, same))
    (λ either. ⊎_elim (λ lt. let less = none.1 k lt in omega (arith, less, same)) (λ gt. let more = none.2 k (omega (arith, gt)) within in omega (arith, more, same)) either)
    (cases_order k place) in
    sym (absent_stay n ns apart)

-- ── children ──
module _ (n : ℕ) where
  -- what holds of the number of each window holds of those of the children
  each_child : (all : List Window → Type 0) (of : List ℕ → Type 0) (each : ℕ → Type 0) → of [] → ((w : Window) (ws : List Window) → all (w ∷ ws) → each w.number × all ws)
      → ((k : ℕ) (ks : List ℕ) → each k → of ks → of (k ∷ ks)) → (ws : List Window) → all ws → of (child_numbers n ws)
  each_child all of each none parts whole [] held = none
  each_child all of each none parts whole (w ∷ ws) held = by (is_child_of n w) refl (each_child all of each none parts whole ws (parts w ws held).1)
    where
      by : (b : Bool) → is_child_of n w ≡ b → of (child_numbers n ws) → of (child_numbers n (w ∷ ws))
      by true is rest = rw is (whole w.number (child_numbers n ws) (parts w ws held).0 rest)
      by false is rest = rw is rest

  children_above : (m : ℕ) (ws : List Window) → AllAbove number_of m ws → AllAbove itself m (child_numbers n ws)
  children_above m = each_child (AllAbove number_of m) (AllAbove itself m) (λ k. m < k) tt (λ w ws held. held) (λ k ks one rest. (one, rest))

  children_below : (m : ℕ) (ws : List Window) → AllBelow number_of m ws → AllBelow itself m (child_numbers n ws)
  children_below m = each_child (AllBelow number_of m) (AllBelow itself m) (λ k. k < m) tt (λ w ws held. held) (λ k ks one rest. (one, rest))

  -- the children are in the order of their numbers
  pub children_rising : (ws : List Window) → IsRising number_of ws → AreRising (child_numbers n ws)
  children_rising [] rising = tt
  children_rising (w ∷ ws) rising = by (is_child_of n w) refl (children_rising ws rising.1)
    where
      by : (b : Bool) → is_child_of n w ≡ b → AreRising (child_numbers n ws) → AreRising (child_numbers n (w ∷ ws))
      by true is rest = rw is (children_above w.number ws rising.0, rest)
      by false is rest = rw is rest

  -- and with a new one
  pub rising_added : (parent : Option ℕ) (number : ℕ) (ws : List Window) → IsRising number_of ws → AllBelow number_of number ws → AreRising (child_numbers n ws ++ added_child parent number n)
  rising_added None number ws rising below = subst AreRising (sym (append-nil (child_numbers n ws))) (children_rising ws rising)
  rising_added (Some p) number ws rising below = by (p == n) refl
    where
      by : (b : Bool) → (p == n) ≡ b → AreRising (child_numbers n ws ++ added_child (Some p) number n)
      by true is = rw is (rising_more itself (child_numbers n ws) number (children_rising ws rising) (children_below number ws below))
      by false is = rw is (subst AreRising (sym (append-nil (child_numbers n ws))) (children_rising ws rising))

-- ── the index ──
module _ (index : PathIndex) (slots : Slots) (counters : List (ℕ × Counter)) (owner : ℕ) (kept : IsKept index slots counters) where
  -- the children that the index tells are in the order of their numbers
  pub kept_rising : (n : ℕ) → AreRising (children_at index owner n)
  kept_rising n = subst AreRising (sym (kept.indexed.children_are owner n)) (children_rising n (own_list owner slots) (kept.sound owner).rising)

  -- and with a new window
  pub adds_rising : (with_one : PathIndex) (key number : ℕ) (path : List ℕ) (parent : Option ℕ) → Adds index with_one owner path number key parent → number ≡ next_of owner counters → (n : ℕ) → AreRising (children_at with_one owner n)
  adds_rising with_one key number path parent adds next n =
      let below : AllBelow number_of number (own_list owner slots) = subst (λ m. AllBelow number_of m (own_list owner slots)) (sym next) (kept.sound owner).below in
      subst AreRising (sym (adds.children n ∙ ap (λ numbers. numbers ++ added_child parent number n) (kept.indexed.children_are owner n)))
      (rising_added n parent number (own_list owner slots) (kept.sound owner).rising below)
