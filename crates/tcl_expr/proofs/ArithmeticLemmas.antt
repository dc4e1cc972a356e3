-- Lemmas on exact arithmetic.
use Rattle.std.proofs.Common.{◌≡◌, ◌≢◌, ℕ, zero, suc, ◌+◌, ◌-◌, ◌*◌, ◌/◌, ◌%◌, ◌<◌, ◌≤◌, true, false, ℤ, pos, negsuc, ◌+ℤ◌, neg_ℤ, Option, Some, None, SomeIff, FitsSigned, int_div, int_rem, int_lt, ◌-ℤ◌, ◌⊎◌, inl, inr, refl, sym, ap, ◌∙◌, arith, add-one}
use Rattle.std.proofs.lemmas.Nat.{div-add-mod', mod-mul-add, div-mul-add, mod_below}
use Rattle.std.proofs.lemmas.Int.{ints, to_z-of_z}
use Rattle.std.proofs.Math.Nat.{zero-div, zero-mod}
use Rattle.std.proofs.lemmas.Bool.{cases_lt}
use Rattle.std.proofs.lemmas.Bool.Decides.{nat_tests}
use Rattle.std.specs.Int.{w64}
use Rattle.tcl_expr.specs.Arithmetic.{in_64_bits, floor_quotient, floor_remainder}

-- what a test of 64 bits gives
pub held : (r : Option ℤ) (z : ℤ) → SomeIff r (FitsSigned w64 z) z → r ≡ in_64_bits z
held (Some x) (pos n) (fits, e) = grind (arith, nat_tests, fits.sfits)
held None (pos n) h = grind (arith, nat_tests)
held (Some x) (negsuc n) (fits, e) = grind (arith, nat_tests, fits.sfits)
held None (negsuc n) h = grind (arith, nat_tests)

-- one more than a number, divided: there is a whole turn more, or nothing but the remainder grows
data Step (m d : ℕ) : Type 0 where
  turn : suc m % d ≡ 0 → suc m / d ≡ suc (m / d) → m % d + 1 ≡ d → Step m d
  more : suc m % d ≡ suc (m % d) → suc m / d ≡ m / d → m % d + 1 < d → Step m d

step_by : (m d : ℕ) → 0 < d → (m % d + 1 < d) ⊎ (d ≤ m % d + 1) → Step m d
step_by m d h (inr k) =
    let w : m / d * d + m % d ≡ m = div-add-mod' m d in
    let b : m % d < d = mod_below m d h in
    let l : m % d + 1 ≡ d = omega arith in
    let e : suc m ≡ suc (m / d) * d + 0 = omega arith in
    turn (ap (λ x. x % d) e ∙ mod-mul-add (suc (m / d)) d 0 h) (ap (λ x. x / d) e ∙ div-mul-add (suc (m / d)) d 0 h) l
step_by m d h (inl k) =
    let w : m / d * d + m % d ≡ m = div-add-mod' m d in
    let e : suc m ≡ m / d * d + (m % d + 1) = omega arith in
    more (ap (λ x. x % d) e ∙ mod-mul-add (m / d) d (m % d + 1) k ∙ add-one (m % d)) (ap (λ x. x / d) e ∙ div-mul-add (m / d) d (m % d + 1) k) k

step : (m d : ℕ) → 0 < d → Step m d
step m d h = step_by m d h (cases_lt (m % d + 1) d)

-- where the division toward 0 leaves a remainder on the other side of 0, the quotient rounded down is one less
IsUneven : ℤ → ℤ → Type 0
IsUneven a b = (int_rem a b ≢ pos 0) × (int_lt (int_rem a b) (pos 0) ≢ int_lt b (pos 0))

turned_quotient : (m d : ℕ) → suc m % suc d ≢ 0 → Step m (suc d) → negsuc (m / suc d) ≡ neg_ℤ (pos (suc m / suc d)) -ℤ pos 1
turned_quotient m d r (turn z q l) = absurd (r z)
turned_quotient m d r (more z q l) = rw q (omega (arith, ints))

sum_of : (r d : ℕ) (y : ℤ) → y ≡ negsuc d → r + 1 < suc d → neg_ℤ (pos (suc d - 1 - r)) ≡ pos (suc r) +ℤ y
sum_of r d y e l = omega (arith, ints)

turned_remainder : (m d : ℕ) → suc m % suc d ≢ 0 → Step m (suc d) → neg_ℤ (pos (suc d - 1 - m % suc d)) ≡ pos (suc m % suc d) +ℤ negsuc d
turned_remainder m d r (turn z q l) = absurd (r z)
turned_remainder m d r (more z q l) = rw z (sum_of (m % suc d) d (negsuc d) refl l)

turned_other : (m d : ℕ) → suc m % suc d ≢ 0 → Step m (suc d) → pos (suc d - 1 - m % suc d) ≡ neg_ℤ (pos (suc m % suc d)) +ℤ pos (suc d)
turned_other m d r (turn z q l) = absurd (r z)
turned_other m d r (more z q l) = rw z (omega (arith, ints))

not_below : (x : ℕ) → int_lt (pos x) (pos 0) ≡ false
not_below x = grind (arith, nat_tests)

neg_zero : (x : ℕ) → x ≡ 0 → neg_ℤ (pos x) ≡ pos 0
neg_zero x e = ap (λ n. neg_ℤ (pos n)) e

same_side : (x : ℕ) → neg_ℤ (pos x) ≢ pos 0 → int_lt (neg_ℤ (pos x)) (pos 0) ≢ true → ⊥
same_side zero r s = r refl
same_side (suc x) r s = s refl

pub uneven_quotient : (a b : ℤ) → b ≢ pos 0 → int_rem a b ≢ pos 0 → int_lt (int_rem a b) (pos 0) ≢ int_lt b (pos 0) → floor_quotient a b ≡ int_div a b -ℤ pos 1
uneven_quotient (pos a) (pos zero) n r s = absurd (n refl)
uneven_quotient (pos a) (pos (suc d)) n r s = absurd (s (not_below _ ∙ sym (not_below _)))
uneven_quotient (pos zero) (negsuc d) n r s = absurd (r (ap pos (zero-mod (suc d))))
uneven_quotient (pos (suc m)) (negsuc d) n r s = turned_quotient m d (λ z. r (ap pos z)) (step m (suc d) (omega arith))
uneven_quotient (negsuc a) (pos zero) n r s = absurd (n refl)
uneven_quotient (negsuc a) (pos (suc d)) n r s = turned_quotient a d (λ z. r (neg_zero _ z)) (step a (suc d) (omega arith))
uneven_quotient (negsuc a) (negsuc d) n r s = absurd (same_side (suc a % suc d) r s)

pub uneven_remainder : (a b : ℤ) → b ≢ pos 0 → int_rem a b ≢ pos 0 → int_lt (int_rem a b) (pos 0) ≢ int_lt b (pos 0) → floor_remainder a b ≡ int_rem a b +ℤ b
uneven_remainder (pos a) (pos zero) n r s = absurd (n refl)
uneven_remainder (pos a) (pos (suc d)) n r s = absurd (s (not_below _ ∙ sym (not_below _)))
uneven_remainder (pos zero) (negsuc d) n r s = absurd (r (ap pos (zero-mod (suc d))))
uneven_remainder (pos (suc m)) (negsuc d) n r s = turned_remainder m d (λ z. r (ap pos z)) (step m (suc d) (omega arith))
uneven_remainder (negsuc a) (pos zero) n r s = absurd (n refl)
uneven_remainder (negsuc a) (pos (suc d)) n r s = turned_other a d (λ z. r (neg_zero _ z)) (step a (suc d) (omega arith))
uneven_remainder (negsuc a) (negsuc d) n r s = absurd (same_side (suc a % suc d) r s)

whole_by : (m d : ℕ) → suc m % suc d ≡ 0 → Step m (suc d) → negsuc (m / suc d) ≡ neg_ℤ (pos (suc m / suc d))
whole_by m d r (turn z q l) = rw q refl
whole_by m d r (more z q l) = cc

left_by : (m d : ℕ) → suc m % suc d ≡ 0 → Step m (suc d) → neg_ℤ (pos (suc d - 1 - m % suc d)) ≡ pos (suc m % suc d)
left_by m d r (turn z q l) = rw z (omega (arith, ints))
left_by m d r (more z q l) = cc

left_other : (m d : ℕ) → suc m % suc d ≡ 0 → Step m (suc d) → pos (suc d - 1 - m % suc d) ≡ neg_ℤ (pos (suc m % suc d))
left_other m d r (turn z q l) = rw z (omega (arith, ints))
left_other m d r (more z q l) = cc

no_rest : (x d : ℕ) → (neg_ℤ (pos x) ≡ pos 0) ⊎ (int_lt (neg_ℤ (pos x)) (pos 0) ≡ int_lt (pos d) (pos 0)) → x ≡ 0
no_rest zero d h = refl
no_rest (suc x) d (inl e) = cc
no_rest (suc x) d (inr e) = cc (not_below d)

no_more : (x : ℕ) → (pos x ≡ pos 0) ⊎ (int_lt (pos x) (pos 0) ≡ true) → x ≡ 0
no_more zero h = refl
no_more (suc x) (inl e) = cc
no_more (suc x) (inr e) = cc (not_below (suc x))

pub even_quotient : (a b : ℤ) → b ≢ pos 0 → (int_rem a b ≡ pos 0) ⊎ (int_lt (int_rem a b) (pos 0) ≡ int_lt b (pos 0)) → floor_quotient a b ≡ int_div a b
even_quotient (pos a) (pos d) n r = refl
even_quotient (pos zero) (negsuc d) n r = rw (zero-div (suc d)) refl
even_quotient (pos (suc m)) (negsuc d) n r = whole_by m d (no_more _ r) (step m (suc d) (omega arith))
even_quotient (negsuc a) (pos zero) n r = absurd (n refl)
even_quotient (negsuc a) (pos (suc d)) n r = whole_by a d (no_rest _ _ r) (step a (suc d) (omega arith))
even_quotient (negsuc a) (negsuc d) n r = refl

pub even_remainder : (a b : ℤ) → b ≢ pos 0 → (int_rem a b ≡ pos 0) ⊎ (int_lt (int_rem a b) (pos 0) ≡ int_lt b (pos 0)) → floor_remainder a b ≡ int_rem a b
even_remainder (pos a) (pos d) n r = refl
even_remainder (pos zero) (negsuc d) n r = rw (zero-mod (suc d)) refl
even_remainder (pos (suc m)) (negsuc d) n r = left_by m d (no_more _ r) (step m (suc d) (omega arith))
even_remainder (negsuc a) (pos zero) n r = absurd (n refl)
even_remainder (negsuc a) (pos (suc d)) n r = left_other a d (no_rest _ _ r) (step a (suc d) (omega arith))
even_remainder (negsuc a) (negsuc d) n r = refl

pub ruleset quotients = (held, uneven_quotient, even_quotient, to_z-of_z)

pub ruleset remainders = (uneven_remainder, even_remainder, to_z-of_z)
