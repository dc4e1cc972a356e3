-- The quotient rounded down and what it leaves are a division.
use Rattle.std.proofs.Common.{◌≡◌, ◌≢◌, ℕ, zero, suc, ◌+◌, ◌*◌, ◌/◌, ◌%◌, ◌<◌, ℤ, pos, negsuc, ◌+ℤ◌, ◌*ℤ◌, neg_ℤ, inl, inr, refl, sym, ap, arith}
use Rattle.std.proofs.lemmas.Int.{ints}
use Rattle.std.proofs.lemmas.Nat.{mod_below}
use Rattle.std.proofs.Math.Nat.{div-add-mod}
use Rattle.tcl_expr.specs.Arithmetic.{down_quotient, down_remainder, floor_quotient, floor_remainder, IsFloorDivision}

down_whole : (a : ℤ) (n : ℕ) → 0 < n → a ≡ (pos n *ℤ down_quotient a n) +ℤ pos (down_remainder a n)
down_whole (pos a) n h = ap pos (sym (div-add-mod a n))
down_whole (negsuc a) n h =
    let w : n * (a / n) + a % n ≡ a = div-add-mod a n in
    let b : a % n < n = mod_below a n h in
    omega (arith, ints)

down_below : (a : ℤ) (n : ℕ) → 0 < n → down_remainder a n < n
down_below (pos a) n h = mod_below a n h
down_below (negsuc a) n h = omega arith

negated_product : (n : ℕ) (q : ℤ) → negsuc n *ℤ q ≡ neg_ℤ (pos (suc n) *ℤ q)
negated_product n (pos m) = refl
negated_product n (negsuc m) = omega (arith, ints)

other_side : (a x : ℤ) (r : ℕ) → neg_ℤ a ≡ x +ℤ pos r → a ≡ neg_ℤ x +ℤ neg_ℤ (pos r)
other_side a x r e = omega (arith, ints)

pub floor_division : (a b : ℤ) → b ≢ pos 0 → IsFloorDivision a b (floor_quotient a b) (floor_remainder a b)
floor_division a (pos zero) h = absurd (h refl)
floor_division a (pos (suc n)) h =
    let b : down_remainder a (suc n) < suc n = down_below a (suc n) (omega arith) in
    record { whole = down_whole a (suc n) (omega arith); side = inl (omega (arith, ints), omega (arith, ints)) }
floor_division a (negsuc n) h =
    let b : down_remainder (neg_ℤ a) (suc n) < suc n = down_below (neg_ℤ a) (suc n) (omega arith) in
    record {
      whole =
          rw (negated_product n (floor_quotient a (negsuc n)))
          (other_side a (pos (suc n) *ℤ down_quotient (neg_ℤ a) (suc n)) (down_remainder (neg_ℤ a) (suc n)) (down_whole (neg_ℤ a) (suc n) (omega arith)));
      side = inr (omega (arith, ints), omega (arith, ints));
    }
