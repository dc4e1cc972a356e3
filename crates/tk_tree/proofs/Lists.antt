-- Lists of windows whose numbers rise.
use Rattle.std.proofs.Common.{◌≡◌, ℕ, suc, ◌+◌, ◌<◌, Bool, true, false, List, [], ◌∷◌, ◌++◌, length, Some, None, refl, sym, ap, ◌∙◌, subst, arith}
use Rattle.std.specs.Prelude.{◌==◌, find}
use Rattle.std.proofs.lemmas.Bool.{eqb-true, eq-eqb, ne_eqb}
use Rattle.tk_base.specs.Numbered.{numbered, changed_at, AllBelow, AllAbove, IsRising}
use Rattle.tk_tree.specs.declared.window.Window.{Window}
use Rattle.tk_tree.specs.Own.{HasOlderParent, HaveOlderParents}

pub some_same : {X : Type 0} (x y : X) → Some x ≡ Some y → x ≡ y
some_same x y same = cc

-- ── what a search finds ──
module _ {X : Type 0} (number : X → ℕ) where
  found_above : (n m : ℕ) (w : X) (xs : List X) → AllAbove number n xs → numbered number m xs ≡ Some w → n < m
  found_above n m w [] above is = absurd (cc)
  found_above n m w (x ∷ xs) above is = by (number x == m) refl (λ rest. found_above n m w xs above.1 rest)
    where
      by : (b : Bool) → (number x == m) ≡ b → (numbered number m xs ≡ Some w → n < m) → n < m
      by true same later = omega (arith, above.0, eqb-true (number x) m same)
      by false differs later = later (rw differs at is)

  -- what a search by another test finds, a search for its number finds
  pub find_numbered : (test : X → Bool) (w : X) (xs : List X) → IsRising number xs → find test xs ≡ Some w → numbered number (number w) xs ≡ Some w
  find_numbered test w [] rising is = absurd (cc)
  find_numbered test w (x ∷ xs) rising is = by (test x) refl (λ rest. find_numbered test w xs rising.1 rest)
    where
      by : (b : Bool) → test x ≡ b → (find test xs ≡ Some w → numbered number (number w) xs ≡ Some w) → numbered number (number w) (x ∷ xs) ≡ Some w
      by true passes later =
          let same : x ≡ w = some_same x w (rw passes at is) in
          rw (eq-eqb (number x) (number w) (ap number same)) (ap (λ v. Some v) same)
      by false fails later =
          let rest = later (rw fails at is) in
          let apart = found_above (number x) (number w) w xs rising.0 rest in
          rw (ne_eqb (number x) (number w) (λ e. omega (arith, e, apart))) rest

module _ {X : Type 0} where
  pub find_passes : (test : X → Bool) (w : X) (xs : List X) → find test xs ≡ Some w → test w ≡ true
  find_passes test w [] is = absurd (cc)
  find_passes test w (x ∷ xs) is = by (test x) refl (λ rest. find_passes test w xs rest)
    where
      by : (b : Bool) → test x ≡ b → (find test xs ≡ Some w → test w ≡ true) → test w ≡ true
      by true passes later = ap test (sym (some_same x w (rw passes at is))) ∙ passes
      by false fails later = later (rw fails at is)

  -- a search that finds nothing has passed by each
  pub find_fails : (test : X → Bool) (front : List X) (x : X) (back : List X) → find test (front ++ x ∷ back) ≡ None → test x ≡ false
  find_fails test [] x back none = by (test x) refl
    where
      by : (b : Bool) → test x ≡ b → test x ≡ false
      by true passes = absurd (cc (rw passes at none))
      by false fails = fails
  find_fails test (y ∷ front) x back none = by (test y) refl (λ rest. find_fails test front x back rest)
    where
      by : (b : Bool) → test y ≡ b → (find test (front ++ x ∷ back) ≡ None → test x ≡ false) → test x ≡ false
      by true passes later = absurd (cc (rw passes at none))
      by false fails later = later (rw fails at none)

  -- what a search finds is below what all are below
  pub find_below : (number : X → ℕ) (n : ℕ) (test : X → Bool) (w : X) (xs : List X) → AllBelow number n xs → find test xs ≡ Some w → number w < n
  find_below number n test w [] below is = absurd (cc)
  find_below number n test w (x ∷ xs) below is = by (test x) refl (λ rest. find_below number n test w xs below.1 rest)
    where
      by : (b : Bool) → test x ≡ b → (find test xs ≡ Some w → number w < n) → number w < n
      by true passes later = let same = some_same x w (rw passes at is) in subst (λ v. number v < n) same below.0
      by false fails later = later (rw fails at is)

-- ── one more at the end ──
module _ {X : Type 0} (number : X → ℕ) where
  above_more : (n : ℕ) (xs : List X) (x : X) → AllAbove number n xs → n < number x → AllAbove number n (xs ++ x ∷ [])
  above_more n [] x above lt = (lt, tt)
  above_more n (y ∷ xs) x above lt = (above.0, above_more n xs x above.1 lt)

  pub rising_more : (xs : List X) (x : X) → IsRising number xs → AllBelow number (number x) xs → IsRising number (xs ++ x ∷ [])
  rising_more [] x rising below = (tt, tt)
  rising_more (y ∷ xs) x rising below = (above_more (number y) xs x rising.0 below.0, rising_more xs x rising.1 below.1)

  pub below_more : (n : ℕ) (xs : List X) (x : X) → AllBelow number n xs → number x ≡ n → AllBelow number (n + 1) (xs ++ x ∷ [])
  below_more n [] x below same = (omega (arith, same), tt)
  below_more n (y ∷ xs) x below same = (omega (arith, below.0), below_more n xs x below.1 same)

  pub below_at : (n : ℕ) (front : List X) (x : X) (back : List X) → AllBelow number n (front ++ x ∷ back) → number x < n
  below_at n [] x back below = below.0
  below_at n (y ∷ front) x back below = below_at n front x back below.1

pub parents_more : (windows : List Window) (window : Window) → HaveOlderParents windows → HasOlderParent window → HaveOlderParents (windows ++ window ∷ [])
parents_more [] window older its = (its, tt)
parents_more (w ∷ windows) window older its = (older.0, parents_more windows window older.1 its)

-- ── one taken out, or put in its place ──
module _ {X : Type 0} (number : X → ℕ) where
  above_less : (n : ℕ) (front : List X) (x : X) (back : List X) → AllAbove number n (front ++ x ∷ back) → AllAbove number n (front ++ back)
  above_less n [] x back above = above.1
  above_less n (y ∷ front) x back above = (above.0, above_less n front x back above.1)

  pub rising_less : (front : List X) (x : X) (back : List X) → IsRising number (front ++ x ∷ back) → IsRising number (front ++ back)
  rising_less [] x back rising = rising.1
  rising_less (y ∷ front) x back rising = (above_less (number y) front x back rising.0, rising_less front x back rising.1)

  pub below_less : (n : ℕ) (front : List X) (x : X) (back : List X) → AllBelow number n (front ++ x ∷ back) → AllBelow number n (front ++ back)
  below_less n [] x back below = below.1
  below_less n (y ∷ front) x back below = (below.0, below_less n front x back below.1)

  above_swap : (n : ℕ) (front : List X) (x y : X) (back : List X) → number y ≡ number x → AllAbove number n (front ++ x ∷ back) → AllAbove number n (front ++ y ∷ back)
  above_swap n [] x y back same above = (omega (arith, same, above.0), above.1)
  above_swap n (z ∷ front) x y back same above = (above.0, above_swap n front x y back same above.1)

  pub rising_swap : (front : List X) (x y : X) (back : List X) → number y ≡ number x → IsRising number (front ++ x ∷ back) → IsRising number (front ++ y ∷ back)
  rising_swap [] x y back same rising = (subst (λ n. AllAbove number n back) (sym same) rising.0, rising.1)
  rising_swap (z ∷ front) x y back same rising = (above_swap (number z) front x y back same rising.0, rising_swap front x y back same rising.1)

  pub below_swap : (n : ℕ) (front : List X) (x y : X) (back : List X) → number y ≡ number x → AllBelow number n (front ++ x ∷ back) → AllBelow number n (front ++ y ∷ back)
  below_swap n [] x y back same below = (omega (arith, same, below.0), below.1)
  below_swap n (z ∷ front) x y back same below = (below.0, below_swap n front x y back same below.1)

module _ {X : Type 0} where
  pub length_less : (front : List X) (x : X) (back : List X) → length (front ++ x ∷ back) ≡ length (front ++ back) + 1
  length_less [] x back = omega arith
  length_less (y ∷ front) x back = omega (arith, length_less front x back)

  pub length_swap : (front : List X) (x y : X) (back : List X) → length (front ++ y ∷ back) ≡ length (front ++ x ∷ back)
  length_swap [] x y back = refl
  length_swap (z ∷ front) x y back = ap suc (length_swap front x y back)

pub parents_less : (front : List Window) (window : Window) (back : List Window) → HaveOlderParents (front ++ window ∷ back) → HaveOlderParents (front ++ back)
parents_less [] window back older = older.1
parents_less (w ∷ front) window back older = (older.0, parents_less front window back older.1)

pub parents_swap : (front : List Window) (window other : Window) (back : List Window) → HasOlderParent other → HaveOlderParents (front ++ window ∷ back) → HaveOlderParents (front ++ other ∷ back)
parents_swap [] window other back its older = (its, older.1)
parents_swap (w ∷ front) window other back its older = (older.0, parents_swap front window other back its older.1)

pub parent_at : (front : List Window) (window : Window) (back : List Window) → HaveOlderParents (front ++ window ∷ back) → HasOlderParent window
parent_at [] window back older = older.0
parent_at (w ∷ front) window back older = parent_at front window back older.1

-- ── changes that agree ──
module _ {X : Type 0} (number : X → ℕ) where
  untouched : (n : ℕ) (change : X → X) (xs : List X) → AllAbove number n xs → changed_at number n change xs ≡ xs
  untouched n change [] above = refl
  untouched n change (x ∷ xs) above = rw (ne_eqb (number x) n (λ e. omega (arith, e, above.0))) (ap (λ zs. x ∷ zs) (untouched n change xs above.1))

  -- two changes that make the same of the window with a number
  pub changed_alike : (n : ℕ) (f g : X → X) (w : X) (xs : List X) → IsRising number xs → numbered number n xs ≡ Some w → f w ≡ g w → changed_at number n f xs ≡ changed_at number n g xs
  changed_alike n f g w [] rising is agree = refl
  changed_alike n f g w (x ∷ xs) rising is agree = by (number x == n) refl (λ rest. changed_alike n f g w xs rising.1 rest agree)
    where
      by : (b : Bool) → (number x == n) ≡ b → (numbered number n xs ≡ Some w → changed_at number n f xs ≡ changed_at number n g xs) → changed_at number n f (x ∷ xs) ≡ changed_at number n g (x ∷ xs)
      by true same later =
          let here : x ≡ w = some_same x w (rw same at is) in
          let above : AllAbove number n xs = subst (λ m. AllAbove number m xs) (eqb-true (number x) n same) rising.0 in
          rw same (ap (λ v. v ∷ changed_at number n f xs) (ap f here ∙ agree ∙ sym (ap g here)) ∙ ap (λ zs. g x ∷ zs) (untouched n f xs above ∙ sym (untouched n g xs above)))
      by false differs later = rw differs (ap (λ zs. x ∷ zs) (later (rw differs at is)))
