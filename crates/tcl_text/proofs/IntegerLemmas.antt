-- On numbers that are read digit by digit, and on signs.
use Rattle.std.proofs.Common.{◌≡◌, ℕ, ◌+◌, ◌*◌, ◌^◌, ◌<◌, ◌≤◌, Bool, true, false, List, [], ◌∷◌, Option, Some, None, nat_lt, length, get_or, refl, arith, ap, sym, ◌∙◌, inl, inr}
use Rattle.std.proofs.Math.Nat.{mul-le-mul_left}
use Rattle.std.specs.Char.{digit_value}
use Rattle.std.specs.List.{list_all}
use Rattle.std.proofs.lemmas.Bool.{cases_Bool, le-ltb, lt-ltb, lt-leb, cases_lt, ne_eqb}
use Rattle.tcl_text.specs.Backslash.{is_white}
use Rattle.tcl_text.specs.Readings.{below, number_from, numeral_of, signed, signed_numeral, signed_option}

-- a number from a bound on isn't below it
below_none : (bound n : ℕ) → bound ≤ n → below bound (Some n) ≡ None
below_none bound n past = rw (le-ltb n bound past) refl

pub below_some : (bound n : ℕ) → n < bound → below bound (Some n) ≡ Some n
below_some bound n fits = rw (lt-ltb n bound fits) refl

-- past 64 bits no sign helps
signed_past : (negative : Bool) (n : ℕ) → 2 ^ 64 ≤ n → signed negative n ≡ None
signed_past true n past = rw (lt-leb n (2 ^ 63) (omega arith)) refl
signed_past false n past = rw (le-ltb n (2 ^ 63) (omega arith)) refl

-- digits don't make a number smaller
pub below_number_from : (bound base n : ℕ) (text : List ℕ) → 0 < base → bound ≤ n → below bound (number_from base n text) ≡ None
below_number_from bound base n [] some past = below_none bound n past
below_number_from bound base n (c ∷ cs) some past =
    elim (cases_Bool (nat_lt (digit_value c) base)) [
      | inl e ↦ rw e (below_number_from bound base (n * base + digit_value c) cs some (let one : 1 ≤ base = omega arith in omega (arith, mul-le-mul_left n one)))
      | inr e ↦ rw e (elim (cases_Bool (list_all is_white (c ∷ cs))) [ inl f ↦ rw f (below_none bound n past) | inr f ↦ rw f refl ])
    ]

-- where a digit takes the number to the bound, nothing below it is read
pub overflow_none : (bound base n : ℕ) (text : List ℕ) → 1 ≤ length text → digit_value (get_or text 0 0) < base → bound ≤ n * base + digit_value (get_or text 0 0) → below bound (number_from base n text) ≡ None
overflow_none bound base n [] some digit past = absurd (omega arith)
overflow_none bound base n (c ∷ cs) some digit past =
    rw (lt-ltb (digit_value c) base digit) (below_number_from bound base (n * base + digit_value c) cs (omega arith) past)

-- what fits 64 bits with its sign is below 2 ^ 64
pub signed_option-below : (negative : Bool) (n : Option ℕ) → signed_option negative (below (2 ^ 64) n) ≡ signed_option negative n
signed_option-below negative None = refl
signed_option-below negative (Some n) =
    elim (cases_lt n (2 ^ 64)) [
      | inl fits ↦ ap (signed_option negative) (below_some (2 ^ 64) n fits)
      | inr past ↦ ap (signed_option negative) (below_none (2 ^ 64) n past) ∙ sym (signed_past negative n past)
    ]

-- where neither sign is in front
pub signed_numeral-unsigned : (text others : List ℕ) (first : ℕ) → text ≡ first ∷ others → (first ≡ 45 → ⊥) → (first ≡ 43 → ⊥) → signed_numeral text ≡ signed_option false (numeral_of text)
signed_numeral-unsigned text others first is minus plus =
    rw is (rw (ne_eqb first 45 minus) (rw (ne_eqb first 43 plus) refl))

-- what a text behind its white space spells
pub ruleset signed_reading = (signed_option-below, signed_numeral-unsigned)
