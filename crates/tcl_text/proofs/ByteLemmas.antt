-- When bytes are the same.
use Rattle.std.proofs.Common.{◌≡◌, ◌≢◌, ℕ, ◌+◌, Bool, true, false, List, [], ◌∷◌, length, get_or, bytes_eq, refl, arith, ap, sym}
use Rattle.std.proofs.lemmas.Bool.{false_from_ne_true}
use Rattle.std.proofs.lemmas.Slice.Eq.{bytes_eq-Decides}

pub unequal : (xs ys : List ℕ) → (xs ≡ ys → ⊥) → bytes_eq xs ys ≡ false
unequal xs ys other = false_from_ne_true (bytes_eq xs ys) (λ same. other ((bytes_eq-Decides xs ys).0 same))

pub equal : (xs ys : List ℕ) → xs ≡ ys → bytes_eq xs ys ≡ true
equal xs ys same = (bytes_eq-Decides xs ys).1 same

pub no_bytes : (xs ys : List ℕ) → length xs ≡ 0 → length ys ≡ 0 → xs ≡ ys
no_bytes [] [] n m = refl
no_bytes [] (y ∷ ys) n m = absurd (omega (arith, m))
no_bytes (x ∷ xs) ys n m = absurd (omega (arith, n))

pub of_other_length : (xs ys : List ℕ) → length xs ≢ length ys → bytes_eq xs ys ≡ false
of_other_length xs ys other = unequal xs ys (λ same. other (ap length same))

pub of_no_length : (xs ys : List ℕ) → length xs ≡ 0 → length ys ≡ 0 → bytes_eq xs ys ≡ true
of_no_length xs ys n m = equal xs ys (no_bytes xs ys n m)

pub of_other_first : (xs ys : List ℕ) → get_or xs 0 0 ≢ get_or ys 0 0 → bytes_eq xs ys ≡ false
of_other_first xs ys other = unequal xs ys (λ same. other (ap (λ (zs : List ℕ). get_or zs 0 0) same))

pub ruleset same_bytes = (of_other_length, of_no_length, of_other_first)
