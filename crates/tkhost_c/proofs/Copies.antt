-- A loop that writes f x over each element of a list, for each element x of another.
use Rattle.std.proofs.Common.{◌≡◌, ℕ, zero, suc, ◌+◌, ◌<◌, ◌≤◌, List, [], ◌∷◌, ◌++◌, length, map, take, drop, slice_index_or, slice_set, refl, ap, arith}
use native.Mathlib.Numerals.{unary_clauses}

one_later : {X Y : Type 0} (f : X → Y) (d : X) (xs : List X) (ys : List Y) (i : ℕ) → i < length xs → length xs ≤ length ys
    → slice_set (map f (take i xs) ++ drop i ys) i (f (slice_index_or xs i d)) ≡ map f (take (suc i) xs) ++ drop (suc i) ys
one_later f d [] ys i h k = let no : ⊥ = omega arith in absurd no
one_later f d (x ∷ xs) [] i h k = let no : ⊥ = omega arith in absurd no
one_later f d (x ∷ xs) (y ∷ ys) zero h k = refl
one_later f d (x ∷ xs) (y ∷ ys) (suc i) h k = ap (λ (zs : List _). f x ∷ zs) (one_later f d xs ys i (omega arith) (omega arith))

pub one_more : {X Y : Type 0} (f : X → Y) (d : X) (xs : List X) (ys zs : List Y) (i : ℕ) → i < length xs → length xs ≤ length ys
    → zs ≡ map f (take i xs) ++ drop i ys → slice_set zs i (f (slice_index_or xs i d)) ≡ map f (take (i + 1) xs) ++ drop (i + 1) ys
one_more f d xs ys zs i h k is = rw is (simp unary_clauses (one_later f d xs ys i h k))
