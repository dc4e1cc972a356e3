-- Digits behind a backslash, one by one.
use Rattle.std.proofs.Common.{◌≡◌, ℕ, zero, suc, ◌+◌, ◌-◌, ◌*◌, ◌^◌, ◌<◌, ◌≤◌, List, [], ◌∷◌, length, nat_lt, refl, arith, ap, sym, ◌∙◌, inl, inr, Option, Some, None, unwrap_or, encode_utf8, pow-suc, false}
use Rattle.std.specs.Prelude.{nat_le, nat_eq, ◌&&◌, ◌||◌, MatchOption, SomeIff}
use Rattle.std.specs.Char.{digit_value, len_utf8, IsScalar, OutOfScalarRange, InScalarRange}
use Rattle.std.proofs.lemmas.Bool.{lt-ltb, le-leb, le-ltb, lt-leb, and_right, and_parts, ltb-true, cases_Bool, cond_both}
use Rattle.std.proofs.Math.Nat.{mul-le-mul_left, mul-le-mul_right}
use Rattle.std.proofs.lemmas.Str.{length-encode, len_utf8_bounds}
use Rattle.tcl_text.specs.Backslash.{Digits, Escape, digits_from, character_of, numbered, blanks, escape}

module _ (base bound n : ℕ) where
  -- no room, no text, or no digit that fits
  pub none_left : (left : ℕ) (text : List ℕ) → left ≡ 0 → ((digits_from base bound left n text).value ≡ n) × ((digits_from base bound left n text).count ≡ 0)
  none_left zero text none = (refl, refl)
  none_left (suc left) text none = absurd (omega arith)

  pub no_text : (left : ℕ) (text : List ℕ) → length text ≡ 0 → ((digits_from base bound left n text).value ≡ n) × ((digits_from base bound left n text).count ≡ 0)
  no_text zero text none = (refl, refl)
  no_text (suc left) [] none = (refl, refl)
  no_text (suc left) (c ∷ cs) none = absurd (omega arith)

  pub no_digit : (left c : ℕ) (text cs : List ℕ) → text ≡ c ∷ cs → base ≤ digit_value c → ((digits_from base bound left n text).value ≡ n) × ((digits_from base bound left n text).count ≡ 0)
  no_digit zero c text cs is other = (refl, refl)
  no_digit (suc left) c text cs is other = rw is (rw (le-ltb (digit_value c) base other) (refl, refl))

  pub past_bound : (left c : ℕ) (text cs : List ℕ) → text ≡ c ∷ cs → bound < n * base + digit_value c → ((digits_from base bound left n text).value ≡ n) × ((digits_from base bound left n text).count ≡ 0)
  past_bound zero c text cs is past = (refl, refl)
  past_bound (suc left) c text cs is past =
      rw is (rw (and_right (nat_lt (digit_value c) base) (nat_le (n * base + digit_value c) bound) (lt-leb (n * base + digit_value c) bound past)) (refl, refl))

  -- a digit that fits
  pub one_digit : (left c : ℕ) (text cs : List ℕ) → text ≡ c ∷ cs → 0 < left → digit_value c < base → n * base + digit_value c ≤ bound →
      ((digits_from base bound left n text).value ≡ (digits_from base bound (left - 1) (n * base + digit_value c) cs).value)
      × ((digits_from base bound left n text).count ≡ (digits_from base bound (left - 1) (n * base + digit_value c) cs).count + 1)
  one_digit zero c text cs is some digit fits = absurd (omega arith)
  one_digit (suc left) c text cs is some digit fits =
      let e : suc left - 1 ≡ left = omega arith in
      rw is (rw e (rw (lt-ltb (digit_value c) base digit) (rw (le-leb (n * base + digit_value c) bound fits) (refl, omega arith))))

-- digits are their value and their count
pub same_digits : (d e : Digits) → d.value ≡ e.value → d.count ≡ e.count → d ≡ e
same_digits d e value count =
    let at_value : ℕ → Digits = λ v. record { value = v; count = d.count } in
    let at_count : ℕ → Digits = λ n. record { value = e.value; count = n } in
    ap at_value value ∙ ap at_count count

-- where no digit follows, what was seen is all
pub all_digits : (seen n : ℕ) (rest all : Digits) → (rest.value ≡ n) × (rest.count ≡ 0) → rest.value ≡ all.value → seen + rest.count ≡ all.count → record { value = n; count = seen } ≡ all
all_digits seen n rest all none value count = same_digits _ all (sym none.0 ∙ value) (let zero : rest.count ≡ 0 = none.1 in omega arith)

-- the character of a number, or the replacement character
pub character_found : (found : Option ℕ) (n : ℕ) → n ≤ 0x10FFFF → MatchOption found (OutOfScalarRange n) (λ _. InScalarRange n) → SomeIff found (IsScalar n) n → unwrap_or found 0xFFFD ≡ character_of n
character_found None n most cases is = elim cases [
  | inl surrogate ↦ rw (le-leb 0xD800 n surrogate.0) (rw (le-leb n 0xDFFF surrogate.1) refl)
  | inr past ↦ absurd (omega arith)
]
character_found (Some c) n most cases is = elim cases [
  | inl low ↦ rw (lt-leb 0xD800 n low) is.1
  | inr high ↦ (let above : 0xDFFF < n = omega arith in rw (and_right (nat_le 0xD800 n) (nat_le n 0xDFFF) (lt-leb n 0xDFFF above)) is.1)
]

pub ruleset digit_steps = (none_left, no_text, no_digit, past_bound, one_digit)

-- ── what a backslash takes ──

digits_within : (base bound most n : ℕ) (text : List ℕ) → (digits_from base bound most n text).count ≤ length text
digits_within base bound zero n text = omega arith
digits_within base bound (suc most) n [] = omega arith
digits_within base bound (suc most) n (c ∷ cs) =
    elim (cases_Bool (nat_lt (digit_value c) base && nat_le (n * base + digit_value c) bound)) [
      | inl fits ↦ rw fits (let others : (digits_from base bound most (n * base + digit_value c) cs).count ≤ length cs = digits_within base bound most (n * base + digit_value c) cs in omega arith)
      | inr not ↦ rw not (omega arith)
    ]

numbered_within : (letter before : ℕ) (digits : Digits) (room : ℕ) → 1 ≤ room → before + digits.count ≤ room → (numbered letter before digits).length ≤ room
numbered_within letter before digits room one all = elim (cases_Bool (nat_eq digits.count 0)) [ inl none ↦ rw none one | inr some ↦ rw some all ]

blanks_within : (text : List ℕ) → blanks text ≤ length text
blanks_within [] = omega arith
blanks_within (c ∷ cs) =
    elim (cases_Bool (nat_eq c 32 || nat_eq c 9)) [
      | inl blank ↦ rw blank (let others : blanks cs ≤ length cs = blanks_within cs in omega arith)
      | inr not ↦ rw not (omega arith)
    ]

-- a backslash takes no more than there is
pub escape_within : (text : List ℕ) → (escape text).length ≤ length text
unfolding escape
escape_within [] = omega arith
escape_within (c ∷ cs) =
    cond_both (nat_eq c 10) _ _ within (λ _. let h : blanks cs ≤ length cs = blanks_within cs in omega arith) (λ _.
    cond_both (nat_le 48 c && nat_le c 55) _ _ within (λ _. numbered_within c 0 (digits_from 8 255 3 0 (c ∷ cs)) (length (c ∷ cs)) (omega arith) (let h : (digits_from 8 255 3 0 (c ∷ cs)).count ≤ length (c ∷ cs) = digits_within 8 255 3 0 (c ∷ cs) in omega arith)) (λ _.
    cond_both (nat_eq c 120) _ _ within (λ _. hexadecimal 0xFF 2) (λ _.
    cond_both (nat_eq c 117) _ _ within (λ _. hexadecimal 0xFFFF 4) (λ _.
    cond_both (nat_eq c 85) _ _ within (λ _. hexadecimal 0x10FFFF 8) (λ _. omega arith)))))
  where
    within : Escape → Type 0
    within e = e.length ≤ length (c ∷ cs)

    hexadecimal : (bound most : ℕ) → (numbered c 1 (digits_from 16 bound most 0 cs)).length ≤ length (c ∷ cs)
    hexadecimal bound most = numbered_within c 1 (digits_from 16 bound most 0 cs) (length (c ∷ cs)) (omega arith) (let h : (digits_from 16 bound most 0 cs).count ≤ length cs = digits_within 16 bound most 0 cs in omega arith)

-- ── what a backslash stands for is no longer than it is written ──

-- hexadecimal digits spell a number below a power of 16
value_small : (base bound most n : ℕ) (text : List ℕ) → base ≤ 16 → (digits_from base bound most n text).value < (n + 1) * 16 ^ (digits_from base bound most n text).count
value_small base bound zero n text small = omega arith
value_small base bound (suc most) n [] small = omega arith
value_small base bound (suc most) n (c ∷ cs) small =
    let next : ℕ = n * base + digit_value c in
    elim (cases_Bool (nat_lt (digit_value c) base && nat_le next bound)) [
      | inl fits ↦ (
          let digit : digit_value c < base = ltb-true (digit_value c) base (and_parts (nat_lt (digit_value c) base) (nat_le next bound) fits).0 in
          let more : Digits = digits_from base bound most next cs in
          let below : more.value < (next + 1) * 16 ^ more.count = value_small base bound most next cs small in
          rw fits (grown base n (digit_value c) more.count more.value small digit below))
      | inr not ↦ rw not (omega arith)
    ]
  where
    grown : (base n d k value : ℕ) → base ≤ 16 → d < base → value < (n * base + d + 1) * 16 ^ k → value < (n + 1) * 16 ^ suc k
    grown base n d k value small digit below =
        let wider : n * base ≤ n * 16 = mul-le-mul_left n small in
        let larger : (n * base + d + 1) * 16 ^ k ≤ ((n + 1) * 16) * 16 ^ k = mul-le-mul_right (16 ^ k) (let h : n * base + d + 1 ≤ (n + 1) * 16 = omega arith in h) in
        let same : (n + 1) * 16 ^ suc k ≡ ((n + 1) * 16) * 16 ^ k = rw pow-suc (grind arith) in
        omega arith

-- a character below the surrogates, by its number
length_low : (value : ℕ) → value < 0xD800 → length (encode_utf8 (character_of value)) ≡ len_utf8 value
length_low value low = rw (lt-leb 0xD800 value low) (length-encode value)

one_byte : (value : ℕ) → value < 0x80 → len_utf8 value ≤ 1
one_byte value low = rw (lt-ltb value 0x80 low) (omega arith)

two_bytes : (value : ℕ) → value < 0x800 → len_utf8 value ≤ 2
two_bytes value low = elim (cases_Bool (nat_lt value 0x80)) [ inl e ↦ rw e (omega arith) | inr e ↦ rw e (rw (lt-ltb value 0x800 low) (omega arith)) ]

three_bytes : (value : ℕ) → value < 0x10000 → len_utf8 value ≤ 3
three_bytes value low = elim (cases_Bool (nat_lt value 0x80)) [
  | inl e ↦ rw e (omega arith)
  | inr e ↦ rw e (elim (cases_Bool (nat_lt value 0x800)) [ inl f ↦ rw f (omega arith) | inr f ↦ rw f (rw (lt-ltb value 0x10000 low) (omega arith)) ])
]

-- so their character takes no more bytes than there are digits
character_short : (value count : ℕ) → 0 < count → value < 16 ^ count → length (encode_utf8 (character_of value)) ≤ count
character_short value zero some small = absurd (omega arith)
character_short value (suc zero) some small = omega (arith, length_low value (omega arith), one_byte value (omega arith))
character_short value (suc (suc zero)) some small = omega (arith, length_low value (omega arith), two_bytes value (omega arith))
character_short value (suc (suc (suc zero))) some small = omega (arith, length_low value (omega arith), three_bytes value (omega arith))
character_short value (suc (suc (suc (suc k)))) some small = omega (arith, length-encode (character_of value), len_utf8_bounds (character_of value))

numbered_short : (letter before base bound most : ℕ) (text : List ℕ) → base ≤ 16 → let e : Escape = numbered letter before (digits_from base bound most 0 text) in length e.meaning ≤ e.length + 1
numbered_short letter before base bound most text small =
    let found : Digits = digits_from base bound most 0 text in
    elim (cases_Bool (nat_eq found.count 0)) [
      | inl none ↦ rw none (omega arith)
      | inr some ↦ (
          let one : 0 < found.count = nonzero found.count some in
          let value : found.value < 16 ^ found.count = (let h : found.value < (0 + 1) * 16 ^ found.count = value_small base bound most 0 text small in omega arith) in
          let short : length (encode_utf8 (character_of found.value)) ≤ found.count = character_short found.value found.count one value in
          rw some (omega arith))
    ]
  where
    nonzero : (n : ℕ) → nat_eq n 0 ≡ false → 0 < n
    nonzero zero e = cc
    nonzero (suc n) e = omega arith

pub escape_short : (text : List ℕ) → length (escape text).meaning ≤ (escape text).length + 1
unfolding escape
escape_short [] = omega arith
escape_short (c ∷ cs) =
    cond_both (nat_eq c 10) _ _ Short (λ _. omega arith) (λ _.
    cond_both (nat_le 48 c && nat_le c 55) _ _ Short (λ _. numbered_short c 0 8 255 3 (c ∷ cs) (omega arith)) (λ _.
    cond_both (nat_eq c 120) _ _ Short (λ _. numbered_short c 1 16 0xFF 2 cs (omega arith)) (λ _.
    cond_both (nat_eq c 117) _ _ Short (λ _. numbered_short c 1 16 0xFFFF 4 cs (omega arith)) (λ _.
    cond_both (nat_eq c 85) _ _ Short (λ _. numbered_short c 1 16 0x10FFFF 8 cs (omega arith)) (λ _. omega arith)))))
  where
    Short : Escape → Type 0
    Short e = length e.meaning ≤ e.length + 1
