-- Several lists of stamps that are sought in one rising list, gone through together.
use Rattle.std.proofs.Common.{◌≡◌, ℕ, zero, suc, ◌+◌, ◌<◌, ◌≤◌, ◌==◌, ◌||◌, Bool, true, false, cond, List, [], ◌∷◌, length, drop, Option, Some, None, refl, sym, ap, ◌∙◌, arith}
use Rattle.std.specs.Prelude.{nat_le}
use Rattle.std.proofs.lemmas.Bool.Decides.{nat_tests}
use Rattle.tk_patterns.specs.declared.filed.Filed.{Filed}
use Rattle.tk_patterns.specs.declared.filed.Numbers.{Numbers}
use Rattle.tk_patterns.specs.Filed.{numbers_of, stamps_of, HasStampAt, AllAbove, IsRising}
use Rattle.tk_patterns.specs.Rests.{first_of, past, earlier}

-- ── the first of several ──
abbrev IsAboveFirst : ℕ → List ℕ → Type 0
IsAboveFirst stamp [] = Unit {0}
IsAboveFirst stamp (first ∷ rest) = stamp < first

above_first_by : (t : Bool) (stamp first : ℕ) (rest : List ℕ) → stamp < first → IsAboveFirst stamp rest → IsAboveFirst stamp (cond t (first ∷ rest) rest)
above_first_by true stamp first rest less h = less
above_first_by false stamp first rest less h = h

above_first : (stamp : ℕ) (sought : Numbers → Bool) (list : List Filed) → AllAbove stamp list → IsAboveFirst stamp (stamps_of sought list)
above_first stamp sought [] above = tt
above_first stamp sought (filed ∷ list) above = above_first_by (sought filed.numbers) stamp filed.stamp (stamps_of sought list) above.0 (above_first stamp sought list above.1)

either_same : (t : Bool) (stamp : ℕ) → cond t (Some stamp) (Some stamp) ≡ Some stamp
either_same true stamp = refl
either_same false stamp = refl

earlier_by : (s t : Bool) (stamp : ℕ) (xs ys zs : List ℕ) → IsAboveFirst stamp xs → IsAboveFirst stamp ys → earlier (first_of xs) (first_of ys) ≡ first_of zs
    → earlier (first_of (cond s (stamp ∷ xs) xs)) (first_of (cond t (stamp ∷ ys) ys)) ≡ first_of (cond (s || t) (stamp ∷ zs) zs)
earlier_by true true stamp xs ys zs a b h = either_same (nat_le stamp stamp) stamp
earlier_by true false stamp xs [] zs a b h = refl
earlier_by true false stamp xs (y ∷ ys) zs a b h = let first : nat_le stamp y ≡ true = grind (arith, nat_tests, b) in rw first refl
earlier_by false true stamp [] ys zs a b h = refl
earlier_by false true stamp (x ∷ xs) ys zs a b h = let second : nat_le x stamp ≡ false = grind (arith, nat_tests, a) in rw second refl
earlier_by false false stamp xs ys zs a b h = h

-- the first stamp that one or the other seeks
pub earlier_is : (p q : Numbers → Bool) (list : List Filed) → IsRising list → earlier (first_of (stamps_of p list)) (first_of (stamps_of q list)) ≡ first_of (stamps_of (λ n. p n || q n) list)
earlier_is p q [] rising = refl
earlier_is p q (filed ∷ list) rising =
    earlier_by (p filed.numbers) (q filed.numbers) filed.stamp _ _ _ (above_first filed.stamp p list rising.0) (above_first filed.stamp q list rising.0) (earlier_is p q list rising.1)

-- ── one stamp more ──
abbrev pub NoneSought : (Numbers → Bool) → ℕ → List Numbers → Type 0
NoneSought sought zero numbers = Unit {0}
NoneSought sought (suc place) [] = Unit {0}
NoneSought sought (suc place) (first ∷ numbers) = (sought first ≡ false) × NoneSought sought place numbers

past_by : (t : Bool) (stamp first : ℕ) (xs : List ℕ) → stamp < first → past stamp xs ≡ xs → past stamp (cond t (first ∷ xs) xs) ≡ cond t (first ∷ xs) xs
past_by true stamp first xs less h = let apart : (first == stamp) ≡ false = grind (arith, nat_tests, less) in rw apart refl
past_by false stamp first xs less h = h

past_above : (stamp : ℕ) (sought : Numbers → Bool) (list : List Filed) → AllAbove stamp list → past stamp (stamps_of sought list) ≡ stamps_of sought list
past_above stamp sought [] above = refl
past_above stamp sought (filed ∷ list) above = past_by (sought filed.numbers) stamp filed.stamp (stamps_of sought list) above.0 (past_above stamp sought list above.1)

past_first_by : (t : Bool) (stamp first : ℕ) (xs : List ℕ) → first ≡ stamp → past stamp xs ≡ xs → past stamp (cond t (first ∷ xs) xs) ≡ xs
past_first_by true stamp first xs is h = let same : (first == stamp) ≡ true = grind (arith, nat_tests, is) in rw same refl
past_first_by false stamp first xs is h = h

unsought_by : (t : Bool) (stamp : ℕ) (xs : List ℕ) → t ≡ false → cond t (stamp ∷ xs) xs ≡ xs
unsought_by true stamp xs h = absurd (cc)
unsought_by false stamp xs h = refl

-- where the first stamp that is sought stands, and what is left behind it of those that seek no more
pub record Step (sought : Numbers → Bool) (stamp : ℕ) (list : List Filed) : Type 0 where
  pub place : ℕ
  pub there : HasStampAt place stamp list
  pub before : NoneSought sought place (numbers_of list)
  pub left : (p : Numbers → Bool) → ((n : Numbers) → sought n ≡ false → p n ≡ false) → past stamp (stamps_of p list) ≡ stamps_of p (drop (suc place) list)

first_is : (t : Bool) (stamp first : ℕ) (xs : List ℕ) → t ≡ true → first_of (cond t (first ∷ xs) xs) ≡ Some stamp → first ≡ stamp
first_is true stamp first xs is h = cc
first_is false stamp first xs is h = absurd (cc)

rest_is : (t : Bool) (first : ℕ) (xs : List ℕ) (found : Option ℕ) → t ≡ false → first_of (cond t (first ∷ xs) xs) ≡ found → first_of xs ≡ found
rest_is true first xs found is h = absurd (cc)
rest_is false first xs found is h = h

step_first : (sought : Numbers → Bool) (stamp : ℕ) (filed : Filed) (list : List Filed) → AllAbove filed.stamp list → filed.stamp ≡ stamp → Step sought stamp (filed ∷ list)
step_first sought stamp filed list above is = record {
  place = 0;
  there = is;
  before = tt;
  left = λ p inside. past_first_by (p filed.numbers) stamp filed.stamp (stamps_of p list) is (ap (λ s. past s (stamps_of p list)) (sym is) ∙ past_above filed.stamp p list above);
}

step_later : (sought : Numbers → Bool) (stamp : ℕ) (filed : Filed) (list : List Filed) → sought filed.numbers ≡ false → Step sought stamp list → Step sought stamp (filed ∷ list)
step_later sought stamp filed list unsought rest = record {
  place = suc rest.place;
  there = rest.there;
  before = (unsought, rest.before);
  left = λ p inside. ap (past stamp) (unsought_by (p filed.numbers) filed.stamp (stamps_of p list) (inside filed.numbers unsought)) ∙ rest.left p inside;
}

step_by : (sought : Numbers → Bool) (stamp : ℕ) (filed : Filed) (list : List Filed) (t : Bool) → sought filed.numbers ≡ t → IsRising (filed ∷ list) → first_of (stamps_of sought (filed ∷ list)) ≡ Some stamp
    → (first_of (stamps_of sought list) ≡ Some stamp → Step sought stamp list) → Step sought stamp (filed ∷ list)
step_by sought stamp filed list true is rising h rest = step_first sought stamp filed list rising.0 (first_is (sought filed.numbers) stamp filed.stamp (stamps_of sought list) is h)
step_by sought stamp filed list false is rising h rest = step_later sought stamp filed list is (rest (rest_is (sought filed.numbers) filed.stamp (stamps_of sought list) (Some stamp) is h))

pub step : (sought : Numbers → Bool) (stamp : ℕ) (list : List Filed) → IsRising list → first_of (stamps_of sought list) ≡ Some stamp → Step sought stamp list
step sought stamp [] rising h = absurd (cc)
step sought stamp (filed ∷ list) rising h = step_by sought stamp filed list (sought filed.numbers) refl rising h (step sought stamp list rising.1)

none_by : (sought : Numbers → Bool) (filed : Filed) (list : List Filed) (t : Bool) → sought filed.numbers ≡ t → first_of (stamps_of sought (filed ∷ list)) ≡ None
    → (first_of (stamps_of sought list) ≡ None → NoneSought sought (length list) (numbers_of list)) → NoneSought sought (suc (length list)) (numbers_of (filed ∷ list))
none_by sought filed list true is h rest = absurd (let first : first_of (cond true (filed.stamp ∷ stamps_of sought list) (stamps_of sought list)) ≡ None = ap (λ t. first_of (cond t (filed.stamp ∷ stamps_of sought list) (stamps_of sought list))) (sym is) ∙ h in cc)
none_by sought filed list false is h rest = (is, rest (rest_is (sought filed.numbers) filed.stamp (stamps_of sought list) None is h))

-- nothing is left that is sought
pub none_left : (sought : Numbers → Bool) (list : List Filed) → first_of (stamps_of sought list) ≡ None → NoneSought sought (length list) (numbers_of list)
none_left sought [] h = tt
none_left sought (filed ∷ list) h = none_by sought filed list (sought filed.numbers) refl h (none_left sought list)

-- ── how much is left ──
pub past_length : (stamp : ℕ) (xs : List ℕ) → length (past stamp xs) ≤ length xs
past_length stamp [] = omega arith
past_length stamp (x ∷ xs) = grind (arith, nat_tests)

pub past_shorter : (stamp : ℕ) (xs : List ℕ) → first_of xs ≡ Some stamp → length (past stamp xs) < length xs
past_shorter stamp [] h = absurd (cc)
past_shorter stamp (x ∷ xs) h = let is : x ≡ stamp = cc in let same : (x == stamp) ≡ true = grind (arith, nat_tests, is) in rw same (omega arith)

one_by : {G : Type 0} (t : Bool) (x y stamp : ℕ) → cond t (Some x) (Some y) ≡ Some stamp → (Some x ≡ Some stamp → G) → (Some y ≡ Some stamp → G) → G
one_by true x y stamp h f g = f h
one_by false x y stamp h f g = g h

-- the one that comes first is one of the two
pub one_of : {G : Type 0} (x y : Option ℕ) (stamp : ℕ) → earlier x y ≡ Some stamp → (x ≡ Some stamp → G) → (y ≡ Some stamp → G) → G
one_of None y stamp h f g = g h
one_of (Some x) None stamp h f g = f h
one_of (Some x) (Some y) stamp h f g = one_by (nat_le x y) x y stamp h f g

module _ (stamp : ℕ) (ws xs ys zs : List ℕ) where
  abbrev pub left_before : ℕ
  left_before = length ws + length xs + (length ys + length zs)

  abbrev pub left_after : ℕ
  left_after = length (past stamp ws) + length (past stamp xs) + (length (past stamp ys) + length (past stamp zs))

  pub fewer : earlier (earlier (first_of ws) (first_of xs)) (earlier (first_of ys) (first_of zs)) ≡ Some stamp → left_after < left_before
  fewer h =
      let a = past_length stamp ws in
      let b = past_length stamp xs in
      let c = past_length stamp ys in
      let d = past_length stamp zs in
      one_of (earlier (first_of ws) (first_of xs)) (earlier (first_of ys) (first_of zs)) stamp h
      (λ h. one_of (first_of ws) (first_of xs) stamp h (λ h. omega (arith, a, b, c, d, past_shorter stamp ws h)) (λ h. omega (arith, a, b, c, d, past_shorter stamp xs h)))
      (λ h. one_of (first_of ys) (first_of zs) stamp h (λ h. omega (arith, a, b, c, d, past_shorter stamp ys h)) (λ h. omega (arith, a, b, c, d, past_shorter stamp zs h)))
