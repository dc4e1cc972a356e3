-- Lemmas on the cutting of texts and on the numbers and names in them.
use Rattle.std.proofs.Common.{◌≡◌, ◌≢◌, ℕ, zero, suc, ◌<◌, ◌≤◌, ◌^◌, true, ◌&&◌, leb, List, [], ◌∷◌, length, get_or, take, drop, Option, Some, None, option_map, Result, Ok, Err, inl, inr, refl, ap, sym, ◌∙◌, arith}
use Rattle.std.specs.List.{list_all}
use Rattle.std.specs.Str.{IsUtf8, IsAscii, all_ascii_digits}
use Rattle.std.specs.Char.{is_ascii_digit, is_ascii_alphabetic}
use Rattle.std.specs.Int.{is_in_range}
use Rattle.std.specs.Str.Parse.{digits_value, ParsesUnsigned}
use Rattle.std.specs.Result.{OkIff}
use Rattle.std.proofs.lemmas.Str.{IsUtf8-from_ascii}
use Rattle.std.proofs.lemmas.Str.Parse.{IsNumeralModel, numerals_by_value, tells_all_ascii_digits, parse_digits}
use Rattle.std.proofs.lemmas.Fmt.{IsAscii-from_digits}
use Rattle.std.proofs.lemmas.Bool.{false≢true, eq-eqb, ne_eqb, eqb-true, and_parts, lt-leb, leb-true, or_cases}
use Rattle.std.proofs.Math.Bool.{and-false}
use Rattle.memchr.specs.Find.{IsFirstByte, is_byte}
use Rattle.tk_route.specs.Names.{is_name, is_name_byte}
use Rattle.tk_session.specs.Reading.{cut_at, is_numeral, has_plain_front, number_of}

pub cut_at-none : (byte : ℕ) (text : List ℕ) → ((k : ℕ) → k < length text → get_or text k 0 ≢ byte) → cut_at byte text ≡ None
cut_at-none byte [] away = refl
cut_at-none byte (b ∷ bs) away =
    let first : b ≢ byte = away 0 (omega arith) in
    let rest : cut_at byte bs ≡ None = cut_at-none byte bs (λ k h. away (suc k) (omega arith)) in
    rw (ne_eqb b byte first, rest) refl

pub cut_at-some : (byte : ℕ) (text : List ℕ) (i : ℕ) → i < length text → get_or text i 0 ≡ byte → ((k : ℕ) → k < i → get_or text k 0 ≢ byte) → cut_at byte text ≡ Some (take i text, drop (suc i) text)
cut_at-some byte [] i h here away = absurd (omega arith)
cut_at-some byte (b ∷ bs) zero h here away = rw (eq-eqb b byte here) refl
cut_at-some byte (b ∷ bs) (suc i) h here away =
    let first : b ≢ byte = away 0 (omega arith) in
    let rest : cut_at byte bs ≡ Some (take i bs, drop (suc i) bs) = cut_at-some byte bs i (omega arith) here (λ k l. away (suc k) (omega arith)) in
    rw (ne_eqb b byte first, rest) refl

-- the cut that a search for the byte finds
pub cut_at-first : (byte : ℕ) (text : List ℕ) (r : Option ℕ) → IsFirstByte (is_byte byte) text r → cut_at byte text ≡ option_map (λ i. (take i text, drop (suc i) text)) r
cut_at-first byte text None away = cut_at-none byte text (λ k h e. away k (omega arith) h (eq-eqb _ byte e))
cut_at-first byte text (Some i) found =
    cut_at-some byte text i found.0.high (eqb-true _ byte found.1) (λ k h e. found.0.before k (omega arith) h (eq-eqb _ byte e))

-- digits are the digits that std reads
pub list_all-digits : (text : List ℕ) → list_all is_ascii_digit text ≡ all_ascii_digits text
list_all-digits [] = refl
list_all-digits (c ∷ cs) = ap (λ rest. is_ascii_digit c && rest) (list_all-digits cs)

abbrev pub digits_model : IsNumeralModel (λ ds. all_ascii_digits ds ≡ true) (digits_value 10)
digits_model = numerals_by_value _ tells_all_ascii_digits

pub digits_from_numeral : (text : List ℕ) → is_numeral text ≡ true → all_ascii_digits text ≡ true
digits_from_numeral text h = sym (list_all-digits text) ∙ (and_parts _ _ h).0

pub plain_nonempty : (text : List ℕ) → has_plain_front text ≡ true → 0 < length text
plain_nonempty [] h = absurd (false≢true h)
plain_nonempty (c ∷ cs) h = omega arith

pub numeral_nonempty : (text : List ℕ) → is_numeral text ≡ true → 0 < length text
numeral_nonempty text h = plain_nonempty text (and_parts _ _ h).1

pub IsUtf8-numeral : (text : List ℕ) → is_numeral text ≡ true → IsUtf8 text
IsUtf8-numeral text h = IsUtf8-from_ascii text (IsAscii-from_digits text (digits_model.to text (digits_from_numeral text h)))

-- what `parse` answers of digits
pub parse_numeral : {E : Type 0} (text : List ℕ) (r : Result ℕ E) → is_numeral text ≡ true → ParsesUnsigned 64 10 text r → OkIff r (digits_value 10 text < 2 ^ 64) (digits_value 10 text)
parse_numeral {E} text (Ok n) h parsed = let p = parse_digits digits_model {E = E} 64 text (Ok n) parsed (digits_from_numeral text h) in (p.0.1, p.1)
parse_numeral {E} text (Err e) h parsed = let p = parse_digits digits_model {E = E} 64 text (Err e) parsed (digits_from_numeral text h) in λ small. p (numeral_nonempty text h, small)

-- a number past 64 bits is past any limit
pub number_of-large : (least most : ℕ) (text : List ℕ) → most < 2 ^ 64 → ¬ (digits_value 10 text < 2 ^ 64) → number_of least most text ≡ None
number_of-large least most text small large =
    let above : most < digits_value 10 text = omega arith in
    rw (lt-leb (digits_value 10 text) most above, and-false (is_numeral text && leb least (digits_value 10 text))) refl

-- a byte of a range that lies between the first digit and the last letter
within : (low high c : ℕ) → 48 ≤ low → high ≤ 122 → is_in_range low high c ≡ true → (48 ≤ c) × (c ≤ 122)
within low high c above under h =
    (omega (arith, above, leb-true low c (and_parts _ _ h).0), omega (arith, under, leb-true c high (and_parts _ _ h).1))

pub letter_within : (c : ℕ) → is_ascii_alphabetic c ≡ true → (48 ≤ c) × (c ≤ 122)
letter_within c h =
    elim (or_cases _ _ h) [
      | inl upper ↦ within 65 90 c (omega arith) (omega arith) upper
      | inr lower ↦ within 97 122 c (omega arith) (omega arith) lower
    ]

pub name_byte_within : (c : ℕ) → is_name_byte c ≡ true → (48 ≤ c) × (c ≤ 122)
name_byte_within c h =
    elim (or_cases _ _ h) [
      | inl alphanumeric ↦ elim (or_cases _ _ alphanumeric) [
        | inl front ↦ elim (or_cases _ _ front) [
          | inl digit ↦ within 48 57 c (omega arith) (omega arith) digit
          | inr upper ↦ within 65 90 c (omega arith) (omega arith) upper
        ]
        | inr lower ↦ within 97 122 c (omega arith) (omega arith) lower
      ]
      | inr underscore ↦ (omega (arith, eqb-true c 95 underscore), omega (arith, eqb-true c 95 underscore))
    ]

pub IsAscii-name_bytes : (text : List ℕ) → list_all is_name_byte text ≡ true → IsAscii text
IsAscii-name_bytes [] h i = omega arith
IsAscii-name_bytes (c ∷ cs) h zero = omega (arith, (name_byte_within c (and_parts _ _ h).0).1)
IsAscii-name_bytes (c ∷ cs) h (suc i) = IsAscii-name_bytes cs (and_parts _ _ h).1 i

ascii_cons : (c : ℕ) (cs : List ℕ) → c < 128 → IsAscii cs → IsAscii (c ∷ cs)
ascii_cons c cs first others zero = first
ascii_cons c cs first others (suc i) = others i

pub IsAscii-name : (name : List ℕ) → is_name name ≡ true → IsAscii name
IsAscii-name [] h = absurd (false≢true h)
IsAscii-name (c ∷ cs) h =
    let front = and_parts _ _ (and_parts _ _ h).0 in
    ascii_cons c cs (omega (arith, (letter_within c front.0).1)) (IsAscii-name_bytes cs front.1)

pub IsUtf8-name : (name : List ℕ) → is_name name ≡ true → IsUtf8 name
IsUtf8-name name h = IsUtf8-from_ascii name (IsAscii-name name h)
