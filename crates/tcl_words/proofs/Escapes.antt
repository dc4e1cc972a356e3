-- What a backslash, a name and a `$` take: bytes of ASCII, so that a text can be cut behind them.
use Rattle.std.proofs.Common.{◌≡◌, ℕ, zero, suc, ◌+◌, ◌*◌, ◌<◌, ◌≤◌, List, [], ◌∷◌, length, drop, get_or, nat_lt, refl, sym, ap, ◌∙◌, arith, inl, inr, true, false, encode_utf8}
use Rattle.std.specs.Prelude.{nat_le, nat_eq, ◌&&◌, ◌||◌}
use Rattle.std.specs.Char.{digit_value, len_utf8}
use Rattle.std.specs.Str.{IsUtf8, IsCharBoundary}
use Rattle.std.proofs.lemmas.Bool.{ltb-true, ltb-false, le-ltb, lt-leb, and_parts, and_right, cases_Bool, cond_both}
use Rattle.std.proofs.lemmas.Bool.Decides.{nat_tests}
use Rattle.std.proofs.lemmas.List.{get_or-drop}
use Rattle.std.proofs.lemmas.Str.{IsCharBoundary-after_ascii, encode_ascii, length-encode}
use Rattle.tcl_text.specs.Backslash.{Digits, Escape, digits_from, numbered, character_of, named, blanks, escape}

digit_ascii : (c base : ℕ) → base ≤ 16 → digit_value c < base → c < 128
digit_ascii c base small fits = elim (cases_Bool (nat_lt c 128)) [
  | inl e ↦ ltb-true c 128 e
  | inr e ↦ (
      let large : 128 ≤ c = ltb-false c 128 e in
      let value : digit_value c ≡ 36 = rw (le-ltb c 48 (omega arith), le-ltb c 58 (omega arith), le-ltb c 65 (omega arith), le-ltb c 91 (omega arith), le-ltb c 97 (omega arith), le-ltb c 123 (omega arith)) refl in
      absurd (omega arith))
]

one_more : (c n : ℕ) (cs : List ℕ) → c < 128 → ((k : ℕ) → k < n → get_or cs k 0 < 128) → (k : ℕ) → k < suc n → get_or (c ∷ cs) k 0 < 128
one_more c n cs low others zero lt = low
one_more c n cs low others (suc k) lt = others k (omega (arith, lt))

none_below : (n : ℕ) (text : List ℕ) → n ≡ 0 → (k : ℕ) → k < n → get_or text k 0 < 128
none_below n text e k lt = absurd (omega (arith, lt, e))

digits_ascii : (base bound most n : ℕ) (text : List ℕ) → base ≤ 16 → (k : ℕ) → k < (digits_from base bound most n text).count → get_or text k 0 < 128
digits_ascii base bound zero n text small = none_below 0 text refl
digits_ascii base bound (suc most) n [] small = none_below 0 [] refl
digits_ascii base bound (suc most) n (c ∷ cs) small =
    elim (cases_Bool (nat_lt (digit_value c) base && nat_le (n * base + digit_value c) bound)) [
      | inl fits ↦ (
          let digit : c < 128 = digit_ascii c base small (ltb-true (digit_value c) base (and_parts (nat_lt (digit_value c) base) (nat_le (n * base + digit_value c) bound) fits).0) in
          rw fits (one_more c (digits_from base bound most (n * base + digit_value c) cs).count cs digit (digits_ascii base bound most (n * base + digit_value c) cs small)))
      | inr not ↦ rw not (none_below 0 (c ∷ cs) refl)
    ]

low_blank : (c : ℕ) → (nat_eq c 32 || nat_eq c 9) ≡ true → c < 128
low_blank c e = grind (arith, nat_tests)

blanks_ascii : (text : List ℕ) (k : ℕ) → k < blanks text → get_or text k 0 < 128
blanks_ascii [] = none_below 0 [] refl
blanks_ascii (c ∷ cs) =
    elim (cases_Bool (nat_eq c 32 || nat_eq c 9)) [
      | inl blank ↦ rw blank (one_more c (blanks cs) cs (low_blank c blank) (blanks_ascii cs))
      | inr not ↦ rw not (none_below 0 (c ∷ cs) refl)
    ]

-- the bytes that an escape of this length takes
abbrev TakesAscii : List ℕ → Escape → Type 0
TakesAscii text e = (k : ℕ) → k < e.length → get_or text k 0 < 128

one_ascii : (c : ℕ) (cs : List ℕ) → c < 128 → (k : ℕ) → k < 1 → get_or (c ∷ cs) k 0 < 128
one_ascii c cs low = one_more c 0 cs low (none_below 0 cs refl)

octal_ascii : (c : ℕ) (cs : List ℕ) → c < 128 → TakesAscii (c ∷ cs) (numbered c 0 (digits_from 8 255 3 0 (c ∷ cs)))
octal_ascii c cs low = elim (cases_Bool (nat_eq (digits_from 8 255 3 0 (c ∷ cs)).count 0)) [
  | inl none ↦ rw none (one_ascii c cs low)
  | inr some ↦ rw some (λ k lt. digits_ascii 8 255 3 0 (c ∷ cs) (omega arith) k (omega (arith, lt)))
]

hexadecimal_ascii : (c bound most : ℕ) (cs : List ℕ) → c < 128 → TakesAscii (c ∷ cs) (numbered c 1 (digits_from 16 bound most 0 cs))
hexadecimal_ascii c bound most cs low = elim (cases_Bool (nat_eq (digits_from 16 bound most 0 cs).count 0)) [
  | inl none ↦ rw none (one_ascii c cs low)
  | inr some ↦ rw some (λ k lt. one_more c (digits_from 16 bound most 0 cs).count cs low (digits_ascii 16 bound most 0 cs (omega arith)) k (omega (arith, lt)))
]

pub escape_ascii : (text : List ℕ) → get_or text 0 0 < 128 → TakesAscii text (escape text)
unfolding escape
escape_ascii [] low = none_below 0 [] refl
escape_ascii (c ∷ cs) low =
    cond_both (nat_eq c 10) _ _ (TakesAscii (c ∷ cs)) (λ _. one_more c (blanks cs) cs low (blanks_ascii cs)) (λ _.
    cond_both (nat_le 48 c && nat_le c 55) _ _ (TakesAscii (c ∷ cs)) (λ _. octal_ascii c cs low) (λ _.
    cond_both (nat_eq c 120) _ _ (TakesAscii (c ∷ cs)) (λ _. hexadecimal_ascii c 0xFF 2 cs low) (λ _.
    cond_both (nat_eq c 117) _ _ (TakesAscii (c ∷ cs)) (λ _. hexadecimal_ascii c 0xFFFF 4 cs low) (λ _.
    cond_both (nat_eq c 85) _ _ (TakesAscii (c ∷ cs)) (λ _. hexadecimal_ascii c 0x10FFFF 8 cs low) (λ _. one_ascii c cs low)))))

-- a byte past ASCII stands for itself
pub escape_itself : (c : ℕ) (cs : List ℕ) → 128 ≤ c → escape (c ∷ cs) ≡ record { meaning = c ∷ []; length = 1 }
unfolding escape
escape_itself c cs high = rw (differs c 10 high (omega arith), above c 55 high (omega arith), differs c 120 high (omega arith), differs c 117 high (omega arith), differs c 85 high (omega arith), differs c 97 high (omega arith), differs c 98 high (omega arith), differs c 102 high (omega arith), differs c 110 high (omega arith), differs c 114 high (omega arith), differs c 116 high (omega arith), differs c 118 high (omega arith)) refl
  where
    differs : (c n : ℕ) → 128 ≤ c → n < 128 → nat_eq c n ≡ false
    differs c n high low = grind (arith, nat_tests)

    above : (c n : ℕ) → 128 ≤ c → n < 128 → (nat_le 48 c && nat_le c n) ≡ false
    above c n high low = and_right (nat_le 48 c) (nat_le c n) (lt-leb c n (omega arith))

-- one byte that is a character is of ASCII
short_char : (c b : ℕ) → encode_utf8 c ≡ b ∷ [] → b < 128
short_char c b e = elim (cases_Bool (nat_lt c 128)) [
  | inl low ↦ (let h : c < 128 = ltb-true c 128 low in let one : c ∷ [] ≡ b ∷ [] = sym (encode_ascii c h) ∙ e in let same : c ≡ b = cc in omega arith)
  | inr high ↦ (
      let two : 2 ≤ len_utf8 c = rw high (elim (cases_Bool (nat_lt c 0x800)) [ inl f ↦ rw f (omega arith) | inr f ↦ rw f (elim (cases_Bool (nat_lt c 0x10000)) [ inl g ↦ rw g (omega arith) | inr g ↦ rw g (omega arith) ]) ]) in
      let one : length (encode_utf8 c) ≡ 1 = ap length e in
      absurd (omega (arith, length-encode c)))
]

numbered_low : (letter before b : ℕ) (digits : Digits) → letter < 128 → (numbered letter before digits).meaning ≡ b ∷ [] → b < 128
numbered_low letter before b digits low = elim (cases_Bool (nat_eq digits.count 0)) [
  | inl none ↦ rw none (λ e. let same : letter ≡ b = cc in omega arith)
  | inr some ↦ rw some (λ e. short_char (character_of digits.value) b e)
]

named_low : (c b : ℕ) → c < 128 → named c ∷ [] ≡ b ∷ [] → b < 128
named_low c b low e = let same : named c ≡ b = cc in let small : named c < 128 = all in omega arith
  where
    all : named c < 128
    all = grind (arith, nat_tests)

-- what a backslash before ASCII stands for is no byte of a longer character
pub escape_low : (text : List ℕ) (b : ℕ) → get_or text 0 0 < 128 → (escape text).meaning ≡ b ∷ [] → b < 128
unfolding escape
escape_low [] b low = λ e. let same : 92 ≡ b = cc in omega arith
escape_low (c ∷ cs) b low =
    cond_both (nat_eq c 10) _ _ Low (λ _ e. let same : 32 ≡ b = cc in omega arith) (λ _.
    cond_both (nat_le 48 c && nat_le c 55) _ _ Low (λ _. numbered_low c 0 b (digits_from 8 255 3 0 (c ∷ cs)) low) (λ _.
    cond_both (nat_eq c 120) _ _ Low (λ _. numbered_low c 1 b (digits_from 16 0xFF 2 0 cs) low) (λ _.
    cond_both (nat_eq c 117) _ _ Low (λ _. numbered_low c 1 b (digits_from 16 0xFFFF 4 0 cs) low) (λ _.
    cond_both (nat_eq c 85) _ _ Low (λ _. numbered_low c 1 b (digits_from 16 0x10FFFF 8 0 cs) low) (λ _. named_low c b low)))))
  where
    Low : Escape → Type 0
    Low e = e.meaning ≡ b ∷ [] → b < 128

-- past bytes of ASCII a text can be cut
pub cut_past : (s : List ℕ) (from n : ℕ) → IsUtf8 s → IsCharBoundary s from → from + n ≤ length s → ((k : ℕ) → k < n → get_or (drop from s) k 0 < 128) → IsCharBoundary s (from + n)
cut_past s from zero utf8 cut within low = let e : from + 0 ≡ from = omega arith in rw e cut
cut_past s from (suc n) utf8 cut within low =
    let e : from + suc n ≡ from + n + 1 = omega arith in
    let last : get_or s (from + n) 0 < 128 = rw get_or-drop at (low n (omega arith)) in
    rw e (IsCharBoundary-after_ascii s (from + n) utf8 (omega arith) last)
