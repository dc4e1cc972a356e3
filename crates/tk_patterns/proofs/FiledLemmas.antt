-- What a place more or less makes of stamps that rise.
use Rattle.std.proofs.Common.{◌≡◌, ◌≢◌, ℕ, zero, suc, ◌-◌, ◌<◌, ◌==◌, Bool, true, false, cond, List, [], ◌∷◌, ◌++◌, append-nil, length, length-append, take, get_or, refl, sym, ap, ◌∙◌, subst, arith}
use Rattle.std.specs.List.{remove}
use Rattle.std.proofs.Math.Seq.{take-append_seam}
use Rattle.std.proofs.lemmas.Bool.Decides.{nat_tests}
use Rattle.tk_patterns.specs.declared.filed.Filed.{Filed}
use Rattle.tk_patterns.specs.declared.filed.Numbers.{Numbers}
use Rattle.tk_patterns.specs.Filed.{stamps_of, stamp_under, without, AllAbove, AllBelow, IsRising}

-- ── a place more ──
above_more : (stamp : ℕ) (list : List Filed) (new : Filed) → AllAbove stamp list → stamp < new.stamp → AllAbove stamp (list ++ new ∷ [])
above_more stamp [] new above less = (less, tt)
above_more stamp (filed ∷ list) new above less = (above.0, above_more stamp list new above.1 less)

pub rising_more : (list : List Filed) (new : Filed) → IsRising list → AllBelow new.stamp list → IsRising (list ++ new ∷ [])
rising_more [] new rising below = (tt, tt)
rising_more (filed ∷ list) new rising below = (above_more filed.stamp list new rising.0 below.0, rising_more list new rising.1 below.1)

pub below_more : (list : List Filed) (new : Filed) (next : ℕ) → AllBelow new.stamp list → new.stamp < next → AllBelow next (list ++ new ∷ [])
below_more [] new next below less = (less, tt)
below_more (filed ∷ list) new next below less = (omega (arith, below.0, less), below_more list new next below.1 less)

one_more : (t : Bool) (stamp : ℕ) (xs ys zs : List ℕ) → xs ≡ ys ++ zs → cond t (stamp ∷ xs) xs ≡ cond t (stamp ∷ ys) ys ++ zs
one_more true stamp xs ys zs h = ap (λ xs. stamp ∷ xs) h
one_more false stamp xs ys zs h = h

-- `part` is the number by which the stamps are sought
pub under_more : (part : Numbers → ℕ) (number : ℕ) (list : List Filed) (new : Filed)
    → stamps_of (λ n. part n == number) (list ++ new ∷ []) ≡ stamps_of (λ n. part n == number) list ++ stamp_under number (part new.numbers) new.stamp
under_more part number [] new = refl
under_more part number (filed ∷ list) new = one_more (part filed.numbers == number) filed.stamp _ _ _ (under_more part number list new)

-- ── a place less ──
above_less : (stamp : ℕ) (list : List Filed) (place : ℕ) → AllAbove stamp list → AllAbove stamp (remove list place)
above_less stamp [] zero above = tt
above_less stamp [] (suc place) above = tt
above_less stamp (filed ∷ list) zero above = above.1
above_less stamp (filed ∷ list) (suc place) above = (above.0, above_less stamp list place above.1)

pub rising_less : (list : List Filed) (place : ℕ) → IsRising list → IsRising (remove list place)
rising_less [] zero rising = tt
rising_less [] (suc place) rising = tt
rising_less (filed ∷ list) zero rising = rising.1
rising_less (filed ∷ list) (suc place) rising = (above_less filed.stamp list place rising.0, rising_less list place rising.1)

pub below_less : (list : List Filed) (place next : ℕ) → AllBelow next list → AllBelow next (remove list place)
below_less [] zero next below = tt
below_less [] (suc place) next below = tt
below_less (filed ∷ list) zero next below = below.1
below_less (filed ∷ list) (suc place) next below = (below.0, below_less list place next below.1)

pub above_at : (stamp : ℕ) (list : List Filed) (place : ℕ) (filed : Filed) → AllAbove stamp list → place < length list → filed ≡ get_or list place filed → stamp < filed.stamp
above_at stamp [] place filed above below is = absurd (omega arith)
above_at stamp (first ∷ list) zero filed above below is = let same = ap (λ (f : Filed). f.stamp) is in omega (arith, above.0, same)
above_at stamp (first ∷ list) (suc place) filed above below is = above_at stamp list place filed above.1 (omega arith) is

kept_if : (t : Bool) (stamp first : ℕ) (xs ys : List ℕ) → (first == stamp) ≡ false → without stamp xs ≡ ys → without stamp (cond t (first ∷ xs) xs) ≡ cond t (first ∷ ys) ys
kept_if true stamp first xs ys apart h = rw apart (ap (λ ys. first ∷ ys) h)
kept_if false stamp first xs ys apart h = h

apart_by : (a b : ℕ) → a < b → (b == a) ≡ false
apart_by a b less = grind (arith, nat_tests)

apart_before : (a b : ℕ) → a < b → (a == b) ≡ false
apart_before a b less = grind (arith, nat_tests)

none_out : (stamp : ℕ) (sought : Numbers → Bool) (list : List Filed) → AllAbove stamp list → without stamp (stamps_of sought list) ≡ stamps_of sought list
none_out stamp sought [] above = refl
none_out stamp sought (filed ∷ list) above = kept_if (sought filed.numbers) stamp filed.stamp _ _ (apart_by stamp filed.stamp above.0) (none_out stamp sought list above.1)

first_out_by : (t : Bool) (stamp : ℕ) (xs : List ℕ) → t ≡ true → without stamp xs ≡ xs → without stamp (cond t (stamp ∷ xs) xs) ≡ xs
first_out_by true stamp xs is h = let same : (stamp == stamp) ≡ true = grind (arith, nat_tests) in rw same h
first_out_by false stamp xs is h = absurd (cc)

-- those of the number that goes lose its stamp
pub under_less : (list : List Filed) (place : ℕ) (filed : Filed) (sought : Numbers → Bool) → IsRising list → place < length list → filed ≡ get_or list place filed → sought filed.numbers ≡ true
    → without filed.stamp (stamps_of sought list) ≡ stamps_of sought (remove list place)
under_less [] place filed sought rising below is wanted = absurd (omega arith)
under_less (first ∷ list) zero filed sought rising below is wanted =
    let first_wanted : sought first.numbers ≡ true = ap (λ (f : Filed). sought f.numbers) (sym is) ∙ wanted in
    ap (λ (f : Filed). without f.stamp (stamps_of sought (first ∷ list))) is
    ∙ first_out_by (sought first.numbers) first.stamp (stamps_of sought list) first_wanted (none_out first.stamp sought list rising.0)
under_less (first ∷ list) (suc place) filed sought rising below is wanted =
    kept_if (sought first.numbers) filed.stamp first.stamp _ _ (apart_before first.stamp filed.stamp (above_at first.stamp list place filed rising.0 (omega arith) is)) (under_less list place filed sought rising.1 (omega arith) is wanted)

same_if : (t : Bool) (stamp : ℕ) (xs ys : List ℕ) → xs ≡ ys → cond t (stamp ∷ xs) xs ≡ cond t (stamp ∷ ys) ys
same_if true stamp xs ys h = ap (λ ys. stamp ∷ ys) h
same_if false stamp xs ys h = h

skipped_by : (t : Bool) (stamp : ℕ) (xs : List ℕ) → t ≡ false → xs ≡ cond t (stamp ∷ xs) xs
skipped_by true stamp xs is = absurd (cc)
skipped_by false stamp xs is = refl

-- those of other numbers stay
pub others_less : (list : List Filed) (place : ℕ) (filed : Filed) (sought : Numbers → Bool) → place < length list → filed ≡ get_or list place filed → sought filed.numbers ≡ false
    → stamps_of sought (remove list place) ≡ stamps_of sought list
others_less [] place filed sought below is apart = absurd (omega arith)
others_less (first ∷ list) zero filed sought below is apart = skipped_by (sought first.numbers) first.stamp (stamps_of sought list) (ap (λ (f : Filed). sought f.numbers) (sym is) ∙ apart)
others_less (first ∷ list) (suc place) filed sought below is apart = same_if (sought first.numbers) first.stamp _ _ (others_less list place filed sought (omega arith) is apart)

-- what is left at every number
module _ (part : Numbers → ℕ) (list : List Filed) (place : ℕ) (filed : Filed) (old new : ℕ → List ℕ) (rising : IsRising list) (below : place < length list) (is : filed ≡ get_or list place filed)
    (were : (n : ℕ) → old n ≡ stamps_of (λ k. part k == n) list) (own : new (part filed.numbers) ≡ without filed.stamp (old (part filed.numbers))) (others : (n : ℕ) → n ≢ part filed.numbers → new n ≡ old n) where
  abbrev number : ℕ
  number = part filed.numbers

  itself : (number == number) ≡ true
  itself = grind (arith, nat_tests)

  at_own : new number ≡ stamps_of (λ k. part k == number) (remove list place)
  at_own = own ∙ ap (without filed.stamp) (were number) ∙ under_less list place filed (λ k. part k == number) rising below is itself

  less_by : (n : ℕ) (t : Bool) → (number == n) ≡ t → new n ≡ stamps_of (λ k. part k == n) (remove list place)
  less_by n true h = let same : number ≡ n = grind (arith, nat_tests, h) in subst (λ n. new n ≡ stamps_of (λ k. part k == n) (remove list place)) same at_own
  less_by n false h = others n (λ same. grind (arith, nat_tests, h, same)) ∙ were n ∙ sym (others_less list place filed (λ k. part k == n) below is h)

  pub buckets_less : (n : ℕ) → new n ≡ stamps_of (λ k. part k == n) (remove list place)
  buckets_less n = less_by n (number == n) refl

-- ── a stamp that came is taken out again ──
pub taken_back : (stamps : List ℕ) (stamp : ℕ) → take (length (stamps ++ stamp ∷ []) - 1) (stamps ++ stamp ∷ []) ≡ stamps
taken_back stamps stamp =
    let count : length (stamps ++ stamp ∷ []) - 1 ≡ length stamps = omega (arith, length-append stamps (stamp ∷ [])) in
    ap (λ n. take n (stamps ++ stamp ∷ [])) count ∙ take-append_seam stamps (stamp ∷ [])

module _ (number stamp : ℕ) (old filed new : ℕ → List ℕ) (came : (n : ℕ) → filed n ≡ old n ++ stamp_under n number stamp) (own : new number ≡ take (length (filed number) - 1) (filed number))
    (others : (n : ℕ) → n ≢ number → new n ≡ filed n) where
  itself_filed : stamp_under number number stamp ≡ stamp ∷ []
  itself_filed = let same : (number == number) ≡ true = grind (arith, nat_tests) in ap (λ t. cond t (stamp ∷ []) []) same

  own_back : new number ≡ old number
  own_back =
      let filed_is : filed number ≡ old number ++ stamp ∷ [] = came number ∙ ap (λ more. old number ++ more) itself_filed in
      own ∙ ap (λ (stamps : List ℕ). take (length stamps - 1) stamps) filed_is ∙ taken_back (old number) stamp

  back_by : (n : ℕ) (t : Bool) → (number == n) ≡ t → new n ≡ old n
  back_by n true h = let same : number ≡ n = grind (arith, nat_tests, h) in subst (λ n. new n ≡ old n) same own_back
  back_by n false h = others n (λ same. grind (arith, nat_tests, h, same)) ∙ came n ∙ ap (λ t. old n ++ cond t (stamp ∷ []) []) h ∙ append-nil (old n)

  pub all_back : (n : ℕ) → new n ≡ old n
  all_back n = back_by n (number == n) refl
