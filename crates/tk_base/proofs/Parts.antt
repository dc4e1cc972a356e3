-- A change of a list, seen of what stands from a place on.
use Rattle.std.proofs.Common.{◌≡◌, ℕ, ◌<◌, ◌≤◌, zero, suc, ◌+◌, ◌-◌, List, [], ◌∷◌, ◌++◌, length, take, drop, refl, ap, ◌∙◌, arith}
use native.Mathlib.Numerals.{unary_clauses}
use Rattle.std.specs.Prelude.{insert, min}
use Rattle.std.specs.List.{remove, copy_within}
use Rattle.std.proofs.Math.Seq.{paste}

none : (n : ℕ) → zero + n ≡ n
none n = omega arith

one : (n : ℕ) → 1 + n ≡ suc n
one n = omega arith

next : (m n : ℕ) → suc m + n ≡ suc (m + n)
next m n = omega arith

module _ {X : Type 0} where
  -- one more
  pub insert_from : (xs : List X) (start place : ℕ) (x : X) → start + place ≤ length xs → drop start (insert xs (start + place) x) ≡ insert (drop start xs) place x
  insert_from xs zero place x within = ap (λ n. insert xs n x) (none place)
  insert_from [] (suc start) place x within = absurd (omega (arith, within))
  insert_from (y ∷ ys) (suc start) place x within = ap (λ n. drop (suc start) (insert (y ∷ ys) n x)) (next start place) ∙ insert_from ys start place x (omega (arith, within))

  -- a place past the end is the end
  pub insert_end : (xs : List X) (place : ℕ) (x : X) → insert xs (min place (length xs)) x ≡ insert xs place x
  insert_end xs zero x = simp unary_clauses refl
  insert_end [] (suc place) x = simp unary_clauses refl
  insert_end (y ∷ ys) (suc place) x = simp unary_clauses (ap (λ (zs : List X). y ∷ zs) (insert_end ys place x))

  -- one less
  pub remove_from : (xs : List X) (start place : ℕ) → start + place < length xs → drop start (remove xs (start + place)) ≡ remove (drop start xs) place
  remove_from xs zero place within = ap (λ n. remove xs n) (none place)
  remove_from [] (suc start) place within = absurd (omega (arith, within))
  remove_from (y ∷ ys) (suc start) place within = ap (λ n. drop (suc start) (remove (y ∷ ys) n)) (next start place) ∙ remove_from ys start place (omega (arith, within))

  pasted : (xs : List X) (start place : ℕ) → start + place < length xs → drop (suc start) (paste xs (suc start) (drop start xs) place) ≡ remove (drop start xs) place
  pasted [] zero place within = absurd (omega (arith, within))
  pasted (y ∷ ys) zero place within = ap (λ n. take place (y ∷ ys) ++ drop n (y ∷ ys)) (one place)
  pasted [] (suc start) place within = absurd (omega (arith, within))
  pasted (y ∷ ys) (suc start) place within =
      ap (λ n. drop (suc start) (take (suc start) ys ++ take place (drop start ys) ++ drop n (y ∷ ys))) (next (suc start) place) ∙ pasted ys start place (omega (arith, within))

  -- those before the one that goes come one up
  pub moved_up : (xs : List X) (start place : ℕ) → start + place < length xs → drop (start + 1) (copy_within xs start (start + place) (start + 1)) ≡ remove (drop start xs) place
  moved_up xs start place within =
      let behind : start + 1 ≡ suc start = omega arith in
      let count : start + place - start ≡ place = omega arith in
      ap (λ n. drop (start + 1) (paste xs (start + 1) (drop start xs) n)) count
      ∙ ap (λ n. drop n (paste xs n (drop start xs) place)) behind
      ∙ pasted xs start place within
