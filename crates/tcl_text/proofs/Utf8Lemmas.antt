-- Where a text may be cut, and that what a backslash stands for leaves it one.
use Rattle.std.proofs.Common.{◌≡◌, ℕ, zero, suc, ◌+◌, ◌*◌, ◌<◌, ◌≤◌, true, false, List, [], ◌∷◌, ◌++◌, append_assoc, drop, length, get_or, nat_eq, nat_lt, refl, arith, ap, sym, ◌∙◌, subst, inl, inr, IsUtf8, encode_utf8}
use Rattle.std.specs.Prelude.{nat_le, ◌&&◌, ◌||◌}
use Rattle.std.specs.Char.{digit_value, IsScalar}
use Rattle.std.proofs.lemmas.Bool.{cases_Bool, cond_both, eqb-true, and_parts, or_cases, ltb-true, leb-true, cases_lt, leb-false, and_cases, lt-ltb, le-ltb, le-leb}
use Rattle.std.proofs.lemmas.Bool.Decides.{nat_tests}
use Rattle.std.proofs.lemmas.List.{take_at, drop_at, drop-drop, get_or_at, length-append}
use Rattle.std.proofs.lemmas.Str.{IsUtf8-append, IsUtf8-nil, IsUtf8-take, IsUtf8-drop, IsUtf8-from_ascii, IsUtf8-encode, IsCharBoundary-before_ascii, IsCharBoundary-after_ascii}
use Rattle.tcl_text.specs.Backslash.{Digits, Escape, digits_from, character_of, numbered, named, blanks, escape}

-- an ASCII byte may stand in front of a text
pub ascii_before : (b : ℕ) (bs : List ℕ) → b < 128 → IsUtf8 bs → IsUtf8 (b ∷ bs)
ascii_before b bs ascii text = IsUtf8-append (b ∷ []) bs (IsUtf8-from_ascii (b ∷ []) one) text
  where
    one : (i : ℕ) → get_or (b ∷ []) i 0 < 128
    one zero = ascii
    one (suc i) = omega arith

-- a text is one on both sides of an ASCII byte
pub cut_at_ascii : (xs ys : List ℕ) (b : ℕ) → b < 128 → IsUtf8 (xs ++ b ∷ ys) → IsUtf8 xs × IsUtf8 ys
cut_at_ascii xs ys b ascii text =
    let whole = xs ++ b ∷ ys in
    let n = length xs in
    let inside : n < length whole = omega (arith, length-append xs (b ∷ ys)) in
    let at : get_or whole n 0 ≡ b = get_or_at xs b ys 0 n refl in
    let low : get_or whole n 0 < 128 = omega arith in
    let behind : drop (n + 1) whole ≡ ys = ap (drop (n + 1)) (sym (append_assoc xs (b ∷ []) ys)) ∙ drop_at (xs ++ b ∷ []) ys (n + 1) (length-append xs (b ∷ [])) in (
      subst IsUtf8 (take_at xs (b ∷ ys) n refl) (IsUtf8-take whole n text (IsCharBoundary-before_ascii whole n inside low)),
      subst IsUtf8 behind (IsUtf8-drop whole (n + 1) text (IsCharBoundary-after_ascii whole n text inside low)),
    )

pub behind_ascii : (b : ℕ) (bs : List ℕ) → b < 128 → IsUtf8 (b ∷ bs) → IsUtf8 bs
behind_ascii b bs ascii text = (cut_at_ascii [] bs b ascii text).1

-- blanks and digits are ASCII, so a text goes on behind them
behind_blanks : (text : List ℕ) → IsUtf8 text → IsUtf8 (drop (blanks text) text)
behind_blanks [] text = text
behind_blanks (c ∷ cs) text =
    elim (cases_Bool (nat_eq c 32 || nat_eq c 9)) [
      | inl blank ↦ rw blank (behind_blanks cs (behind_ascii c cs (low blank) text))
      | inr not ↦ rw not text
    ]
  where
    low : (nat_eq c 32 || nat_eq c 9) ≡ true → c < 128
    low blank = elim (or_cases (nat_eq c 32) (nat_eq c 9) blank) [ inl e ↦ (let is : c ≡ 32 = eqb-true c 32 e in omega arith) | inr e ↦ (let is : c ≡ 9 = eqb-true c 9 e in omega arith) ]

digit_low : (c : ℕ) → digit_value c < 16 → c < 128
digit_low c digit = grind (arith, nat_tests)

behind_digits : (base bound most n : ℕ) (text : List ℕ) → base ≤ 16 → IsUtf8 text → IsUtf8 (drop (digits_from base bound most n text).count text)
behind_digits base bound zero n text small h = h
behind_digits base bound (suc most) n [] small h = h
behind_digits base bound (suc most) n (c ∷ cs) small h =
    let next : ℕ = n * base + digit_value c in
    elim (cases_Bool (nat_lt (digit_value c) base && nat_le next bound)) [
      | inl fits ↦ (
          let digit : digit_value c < base = ltb-true (digit_value c) base (and_parts (nat_lt (digit_value c) base) (nat_le next bound) fits).0 in
          rw fits (behind_digits base bound most next cs small (behind_ascii c cs (digit_low c (omega arith)) h)))
      | inr not ↦ rw not h
    ]

value_within : (base bound most n : ℕ) (text : List ℕ) → n ≤ bound → (digits_from base bound most n text).value ≤ bound
value_within base bound zero n text h = h
value_within base bound (suc most) n [] h = h
value_within base bound (suc most) n (c ∷ cs) h =
    let next : ℕ = n * base + digit_value c in
    elim (cases_Bool (nat_lt (digit_value c) base && nat_le next bound)) [
      | inl fits ↦ rw fits (value_within base bound most next cs (leb-true next bound (and_parts (nat_lt (digit_value c) base) (nat_le next bound) fits).1))
      | inr not ↦ rw not h
    ]

-- the character of a number is one
is_scalar : (n : ℕ) → n ≤ 0x10FFFF → (nat_le 0xD800 n && nat_le n 0xDFFF) ≡ false → IsScalar n
is_scalar n most outside = elim (cases_lt n 0xD800) [
  | inl low ↦ rw (lt-ltb n 0xD800 low) refl
  | inr high ↦ (
      let above : 0xDFFF < n =
      elim (and_cases (nat_le 0xD800 n) (nat_le n 0xDFFF) outside) [ inl e ↦ (let below : n < 0xD800 = leb-false 0xD800 n e in absurd (omega arith)) | inr e ↦ leb-false n 0xDFFF e ]
      in
      rw (le-ltb n 0xD800 high) (rw (le-leb 0xE000 n (omega arith)) (lt-ltb n 0x110000 (omega arith))))
]

character_utf8 : (n : ℕ) → n ≤ 0x10FFFF → IsUtf8 (encode_utf8 (character_of n))
character_utf8 n most = elim (cases_Bool (nat_le 0xD800 n && nat_le n 0xDFFF)) [
  | inl surrogate ↦ rw surrogate (IsUtf8-encode 0xFFFD refl)
  | inr outside ↦ rw outside (IsUtf8-encode n (is_scalar n most outside))
]

-- what digits stand for and the text behind them
behind_number : (letter base bound most before : ℕ) (text digits : List ℕ) → base ≤ 16 → bound ≤ 0x10FFFF → letter < 128 → IsUtf8 (drop 1 text) → IsUtf8 digits → drop before text ≡ digits →
    let e : Escape = numbered letter before (digits_from base bound most 0 digits) in IsUtf8 (e.meaning ++ drop e.length text)
behind_number letter base bound most before text digits small within ascii one others is =
    let found : Digits = digits_from base bound most 0 digits in
    elim (cases_Bool (nat_eq found.count 0)) [
      | inl none ↦ rw none (ascii_before letter (drop 1 text) ascii one)
      | inr some ↦ (
          let value : found.value ≤ bound = value_within base bound most 0 digits (omega arith) in
          let rest : drop found.count digits ≡ drop (before + found.count) text = ap (drop found.count) (sym is) ∙ drop-drop found.count before text in
          rw some (IsUtf8-append (encode_utf8 (character_of found.value)) (drop (before + found.count) text) (character_utf8 found.value (omega arith)) (subst IsUtf8 rest (behind_digits base bound most 0 digits small others))))
    ]

-- a letter stands for an ASCII byte, and another byte for itself
behind_letter : (c : ℕ) (cs : List ℕ) → IsUtf8 (c ∷ cs) → IsUtf8 (named c ∷ cs)
behind_letter c cs text = elim (cases_lt c 128) [
  | inl ascii ↦ ascii_before (named c) cs (low ascii) (behind_ascii c cs ascii text)
  | inr high ↦ subst (λ b. IsUtf8 (b ∷ cs)) (sym (itself high)) text
]
  where
    low : c < 128 → named c < 128
    low ascii = grind (arith, nat_tests)

    itself : 128 ≤ c → named c ≡ c
    itself high = grind (arith, nat_tests)

-- what a backslash stands for leaves a text a text
pub escape_utf8 : (text : List ℕ) → IsUtf8 text → IsUtf8 ((escape text).meaning ++ drop (escape text).length text)
unfolding escape
escape_utf8 [] text = ascii_before 92 [] (omega arith) IsUtf8-nil
escape_utf8 (c ∷ cs) text =
    cond_both (nat_eq c 10) _ _ Leaves (λ is. ascii_before 32 (drop (blanks cs) cs) (omega arith) (behind_blanks cs (tail 10 (eqb-true c 10 is) (omega arith)))) (λ _.
    cond_both (nat_le 48 c && nat_le c 55) _ _ Leaves (λ is. behind_number c 8 255 3 0 (c ∷ cs) (c ∷ cs) (omega arith) (omega arith) (octal is) (behind_ascii c cs (octal is) text) text refl) (λ _.
    cond_both (nat_eq c 120) _ _ Leaves (λ is. hexadecimal 0xFF 2 (omega arith) 120 (eqb-true c 120 is) (omega arith)) (λ _.
    cond_both (nat_eq c 117) _ _ Leaves (λ is. hexadecimal 0xFFFF 4 (omega arith) 117 (eqb-true c 117 is) (omega arith)) (λ _.
    cond_both (nat_eq c 85) _ _ Leaves (λ is. hexadecimal 0x10FFFF 8 (omega arith) 85 (eqb-true c 85 is) (omega arith)) (λ _. behind_letter c cs text)))))
  where
    Leaves : Escape → Type 0
    Leaves e = IsUtf8 (e.meaning ++ drop e.length (c ∷ cs))

    tail : (n : ℕ) → c ≡ n → n < 128 → IsUtf8 cs
    tail n is ascii = behind_ascii c cs (omega arith) text

    octal : (nat_le 48 c && nat_le c 55) ≡ true → c < 128
    octal is = let most : c ≤ 55 = leb-true c 55 (and_parts (nat_le 48 c) (nat_le c 55) is).1 in omega arith

    hexadecimal : (bound most : ℕ) → bound ≤ 0x10FFFF → (n : ℕ) → c ≡ n → n < 128 → Leaves (numbered c 1 (digits_from 16 bound most 0 cs))
    hexadecimal bound most within n is ascii =
        behind_number c 16 bound most 1 (c ∷ cs) cs (omega arith) within (omega arith) (tail n is ascii) (tail n is ascii) refl
