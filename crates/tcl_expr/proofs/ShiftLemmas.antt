-- Lemmas on shifts.
use Rattle.std.proofs.Common.{◌≡◌, ◌≢◌, ℕ, zero, suc, ◌*◌, ◌/◌, ◌^◌, ◌<◌, ◌≤◌, min, ◌⊎◌, inl, inr, ℤ, pos, negsuc, ◌*ℤ◌, ◌≤ℤ◌, neg_ℤ, unsigned_abs, Some, None, FitsSigned, refl, sym, ap, ◌∙◌, arith}
use Rattle.std.proofs.lemmas.Bool.Decides.{nat_tests}
use Rattle.std.proofs.lemmas.Bool.{cases_lt}
use Rattle.std.proofs.lemmas.Int.{to_z-of_z}
use Rattle.std.proofs.lemmas.Nat.{pow_below}
use Rattle.std.proofs.Math.Nat.{pow-le-pow_right, div-eq_of_lt}
use Rattle.std.specs.Int.{w64, int_shr}
use Rattle.tcl_expr.specs.Arithmetic.{in_64_bits, down_quotient, shifted_left, shifted_right}
use Rattle.tcl_expr.proofs.ArithmeticLemmas.{held}

-- a power that 64 bits hold
pub power_fits : (k : ℕ) → k < 63 → FitsSigned w64 (pos (2 ^ k))
power_fits k h = record { sfits = pow_below k 63 h }

neg_big : (x : ℕ) → 2 ^ 63 < x → in_64_bits (neg_ℤ (pos x)) ≡ None
neg_big zero h = absurd (omega arith)
neg_big (suc x) h = grind (arith, nat_tests)

pos_big : (x : ℕ) → 2 ^ 63 ≤ x → in_64_bits (pos x) ≡ None
pos_big x h = grind (arith, nat_tests)

power_big : (j k : ℕ) → j ≤ k → 2 ^ j ≤ 2 ^ k
power_big j k h = pow-le-pow_right {n = 2} (omega arith) h

-- 64 bits don't hold what is shifted too far
pub too_far : (z : ℤ) (k : ℕ) → 63 ≤ k → z ≢ pos 0 → (z ≡ negsuc 0 → k ≢ 63) → in_64_bits (z *ℤ pos (2 ^ k)) ≡ None
too_far (pos zero) k h n m = absurd (n refl)
too_far (pos (suc a)) k h n m = let p : 2 ^ 63 ≤ 2 ^ k = power_big 63 k h in pos_big (suc a * 2 ^ k) (omega arith)
too_far (negsuc zero) k h n m =
    let l : 63 < k = grind (arith, m refl) in
    let p : 2 ^ 64 ≤ 2 ^ k = power_big 64 k l in neg_big (suc zero * 2 ^ k) (omega arith)
too_far (negsuc (suc a)) k h n m = let p : 2 ^ 63 ≤ 2 ^ k = power_big 63 k h in neg_big (suc (suc a) * 2 ^ k) (omega arith)

pub ruleset lefts = (held, power_fits, too_far, to_z-of_z)

small_by : (a k : ℕ) → a < 2 ^ 63 → (k < 63) ⊎ (63 ≤ k) → a / 2 ^ k ≡ a / 2 ^ min k 63
small_by a k h (inl l) = let e : k ≡ min k 63 = omega arith in ap (λ m. a / 2 ^ m) e
small_by a k h (inr l) =
    let p : 2 ^ 63 ≤ 2 ^ k = power_big 63 k l in
    let e : 63 ≡ min k 63 = omega arith in
    let b : a < 2 ^ k = omega arith in
    div-eq_of_lt b ∙ sym (div-eq_of_lt h) ∙ ap (λ m. a / 2 ^ m) e

small : (a k : ℕ) → a < 2 ^ 63 → a / 2 ^ k ≡ a / 2 ^ min k 63
small a k h = small_by a k h (cases_lt k 63)

pub right_is : (z : ℤ) (k : ℕ) → FitsSigned w64 z → int_shr z (min k 63) ≡ down_quotient z (2 ^ k)
right_is (pos a) k f = ap pos (sym (small a k f.sfits))
right_is (negsuc a) k f = ap negsuc (sym (small a k f.sfits))

pub left_count : (a z : ℤ) → pos 0 ≤ℤ z → in_64_bits (a *ℤ pos (2 ^ unsigned_abs z)) ≡ shifted_left a z
left_count a (pos n) h = refl
left_count a (negsuc n) h = absurd h.le

pub right_count : (a z : ℤ) → pos 0 ≤ℤ z → Some (down_quotient a (2 ^ unsigned_abs z)) ≡ shifted_right a z
right_count a (pos n) h = refl
right_count a (negsuc n) h = absurd h.le

pub right_shift : (a z : ℤ) → FitsSigned w64 a → pos 0 ≤ℤ z → Some (int_shr a (min (unsigned_abs z) 63)) ≡ shifted_right a z
right_shift a z f h = ap Some (right_is a (unsigned_abs z) f) ∙ right_count a z h

pub ruleset counts = (left_count, to_z-of_z)

pub ruleset rights = (right_shift, to_z-of_z)
