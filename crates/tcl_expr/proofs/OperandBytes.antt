-- Parts of a text that are UTF-8 as the text is.
use Rattle.std.proofs.Common.{◌≡◌, ℕ, zero, suc, ◌+◌, ◌-◌, ◌≤◌, ◌<◌, ◌⊎◌, inl, inr, Bool, true, false, nat_lt, nat_le, ◌==◌, ◌&&◌, ◌||◌, List, [], ◌∷◌, ◌++◌, length, take, drop, slice_index, get_or, length-drop, Option, Some, None, Result, Ok, Err, refl, sym, ap, subst, ◌∙◌, append_assoc, length-append, eqb-true, arith}
use Rattle.std.proofs.lemmas.Bool.{or_cases, and_parts, cases_lt, ltb-true, leb-true, le-ltb}
use Rattle.std.proofs.lemmas.List.{take_all}
use Rattle.std.specs.Char.{digit_value}
use Rattle.std.specs.Str.{IsUtf8, IsAscii}
use Rattle.std.proofs.lemmas.Str.{IsUtf8-append, IsUtf8-take, IsUtf8-drop, IsUtf8-from_ascii, IsCharBoundary-at_seam, IsCharBoundary-after_ascii}
use Rattle.std.proofs.lemmas.Str.Ascii.{IsAscii-nil}
use Rattle.tcl_text.specs.Readings.{base_named}
use Rattle.tcl_words.specs.Grammar.{AreSpaces, IsBraced}
use Rattle.tcl_words.specs.Grammar.IsBraced.{none, byte, pair, continuation, braces}
use Rattle.tcl_words.proofs.BracesCut.{BraceCut, braces_cut}
use Rattle.tcl_expr.specs.declared.braces.BracePlace.TheVariants.{Plain}
use Rattle.tcl_expr.specs.declared.fault.ExprFault.{ExprFault}
use Rattle.tcl_expr.specs.Faults.{missing_brace}
use Rattle.tcl_expr.specs.Braces.{braced}
use Rattle.tcl_words.specs.Classes.{is_digit, is_alphabetic, is_name_byte}
use Rattle.tcl_words.specs.Kinds.{name_bytes}
use Rattle.tcl_expr.specs.Counts.{digits, based_or, past_zero_by, past_zero, number_length}
use Rattle.tcl_expr.proofs.BracesOfScripts.{braces_read, unclosed_read}
use Rattle.tcl_expr.proofs.ReadLemmas.{at_position}

-- ── ASCII ──

ascii_front : (b : ℕ) (text : List ℕ) → b < 128 → IsAscii text → IsAscii (b ∷ text)
ascii_front b text h rest = λ i. at i
  where
    at : (i : ℕ) → slice_index (b ∷ text) i < 128
    at zero = h
    at (suc i) = rest i

decide : (b : Bool) → (b ≡ true) ⊎ (b ≡ false)
decide true = inl refl
decide false = inr refl

large_digit : (b : ℕ) → 128 ≤ b → digit_value b ≡ 36
large_digit b h =
    let a : nat_lt b 48 ≡ false = le-ltb b 48 (omega (arith, h)) in
    let c : nat_lt b 58 ≡ false = le-ltb b 58 (omega (arith, h)) in
    let d : nat_lt b 65 ≡ false = le-ltb b 65 (omega (arith, h)) in
    let e : nat_lt b 91 ≡ false = le-ltb b 91 (omega (arith, h)) in
    let f : nat_lt b 97 ≡ false = le-ltb b 97 (omega (arith, h)) in
    let g : nat_lt b 123 ≡ false = le-ltb b 123 (omega (arith, h)) in
    rw (a, c, d, e, f, g) refl

digit_ascii : (base b : ℕ) → base ≤ 36 → nat_lt (digit_value b) base ≡ true → b < 128
digit_ascii base b small h = at (cases_lt b 128)
  where
    at : (b < 128) ⊎ (128 ≤ b) → b < 128
    at (inl k) = k
    at (inr large) =
        let below : nat_lt 36 base ≡ true = subst (λ n. nat_lt n base ≡ true) (large_digit b large) h in
        let value : 36 < base = ltb-true 36 base below in
        omega (arith, value, small)

digits_ascii : (base : ℕ) → base ≤ 36 → (text : List ℕ) → IsAscii (take (digits base text) text)
digits_ascii base small [] = IsAscii-nil
digits_ascii base small (b ∷ text) = at (decide (nat_lt (digit_value b) base)) (digits_ascii base small text)
  where
    at : (nat_lt (digit_value b) base ≡ true) ⊎ (nat_lt (digit_value b) base ≡ false) → IsAscii (take (digits base text) text) → IsAscii (take (digits base (b ∷ text)) (b ∷ text))
    at (inl h) rest = rw h (ascii_front b (take (digits base text) text) (digit_ascii base b small h) rest)
    at (inr h) rest = rw h IsAscii-nil

-- the letter of a base, and the base
record Named (letter base : ℕ) : Type 0 where
  ascii : letter < 128
  small : base ≤ 36

one_of : (x y letter : ℕ) → x < 128 → y < 128 → (letter == x || letter == y) ≡ true → letter < 128
one_of x y letter h k e = at (or_cases (letter == x) (letter == y) e)
  where
    at : (letter == x ≡ true) ⊎ (letter == y ≡ true) → letter < 128
    at (inl p) = subst (λ n. n < 128) (sym (eqb-true letter x p)) h
    at (inr p) = subst (λ n. n < 128) (sym (eqb-true letter y p)) k

named : (letter base : ℕ) → base_named letter ≡ Some base → Named letter base
named letter base e = sixteen (decide (letter == 120 || letter == 88))
  where
    is : (n : ℕ) → n ≤ 36 → letter < 128 → Some n ≡ Some base → Named letter base
    is n small ascii f = let same : n ≡ base = cc in record { ascii = ascii; small = subst (λ m. m ≤ 36) same small }

    two : ((letter == 120 || letter == 88) ≡ false) → ((letter == 111 || letter == 79) ≡ false) → ((letter == 98 || letter == 66) ≡ true) ⊎ ((letter == 98 || letter == 66) ≡ false) → Named letter base
    two p q (inl h) = let f : base_named letter ≡ Some 2 = rw (p, q, h) refl in is 2 (omega arith) (one_of 98 66 letter (omega arith) (omega arith) h) (sym f ∙ e)
    two p q (inr h) = let f : base_named letter ≡ None = rw (p, q, h) refl in let g : None ≡ Some base = sym f ∙ e in absurd (cc)

    eight : ((letter == 120 || letter == 88) ≡ false) → ((letter == 111 || letter == 79) ≡ true) ⊎ ((letter == 111 || letter == 79) ≡ false) → Named letter base
    eight p (inl h) = let f : base_named letter ≡ Some 8 = rw (p, h) refl in is 8 (omega arith) (one_of 111 79 letter (omega arith) (omega arith) h) (sym f ∙ e)
    eight p (inr h) = two p h (decide (letter == 98 || letter == 66))

    sixteen : ((letter == 120 || letter == 88) ≡ true) ⊎ ((letter == 120 || letter == 88) ≡ false) → Named letter base
    sixteen (inl h) = let f : base_named letter ≡ Some 16 = rw h refl in is 16 (omega arith) (one_of 120 88 letter (omega arith) (omega arith) h) (sym f ∙ e)
    sixteen (inr h) = eight h (decide (letter == 111 || letter == 79))

octal_ascii : (b : ℕ) (text : List ℕ) → b < 128 → IsAscii (take (suc (digits 8 text)) (b ∷ text))
octal_ascii b text h = ascii_front b (take (digits 8 text) text) h (digits_ascii 8 (omega arith) text)

based_ascii : (b letter : ℕ) (behind : List ℕ) (n : ℕ) → b < 128 → letter < 128 → IsAscii (take n behind) → IsAscii (take (based_or (letter ∷ behind) n) (b ∷ letter ∷ behind))
based_ascii b letter behind zero h k rest = octal_ascii b (letter ∷ behind) h
based_ascii b letter behind (suc n) h k rest =
    let two : suc n + 2 ≡ suc (suc (suc n)) = omega arith in
    subst (λ m. IsAscii (take m (b ∷ letter ∷ behind))) (sym two) (ascii_front b (letter ∷ take (suc n) behind) h (ascii_front letter (take (suc n) behind) k rest))

past_zero_ascii : (b letter : ℕ) (behind : List ℕ) (base : Option ℕ) → b < 128 → base_named letter ≡ base → IsAscii (take (past_zero_by base (letter ∷ behind) behind) (b ∷ letter ∷ behind))
past_zero_ascii b letter behind (Some base) h e =
    let is : Named letter base = named letter base e in based_ascii b letter behind (digits base behind) h is.ascii (digits_ascii base is.small behind)
past_zero_ascii b letter behind None h e = octal_ascii b (letter ∷ behind) h

zero_ascii : (b : ℕ) (behind : List ℕ) → b < 128 → IsAscii (take (past_zero behind) (b ∷ behind))
zero_ascii b [] h = ascii_front b [] h IsAscii-nil
zero_ascii b (letter ∷ behind) h = past_zero_ascii b letter behind (base_named letter) h refl

number_ascii : (text : List ℕ) → IsAscii (take (number_length text) text)
number_ascii [] = IsAscii-nil
number_ascii (b ∷ text) = at (decide (b == 48))
  where
    at : ((b == 48) ≡ true) ⊎ ((b == 48) ≡ false) → IsAscii (take (number_length (b ∷ text)) (b ∷ text))
    at (inl h) = let e : b ≡ 48 = eqb-true b 48 h in rw h (zero_ascii b text (omega (arith, e)))
    at (inr h) = rw h (digits_ascii 10 (omega arith) (b ∷ text))

-- a number is UTF-8
pub number_utf8 : (text : List ℕ) (count : ℕ) → count ≡ number_length text → IsUtf8 (take count text)
number_utf8 text count e = subst (λ n. IsUtf8 (take n text)) (sym e) (IsUtf8-from_ascii (take (number_length text) text) (number_ascii text))

name_ascii : (b : ℕ) → is_name_byte b ≡ true → b < 128
name_ascii b h = at (or_cases (is_alphabetic b || is_digit b) (b == 95) h)
  where
    below : (low high : ℕ) → high < 128 → (nat_le low b && nat_le b high) ≡ true → b < 128
    below low high k e = let parts = and_parts (nat_le low b) (nat_le b high) e in let f : b ≤ high = leb-true b high parts.1 in omega (arith, f, k)

    letter : ((nat_le 97 b && nat_le b 122) ≡ true) ⊎ ((nat_le 65 b && nat_le b 90) ≡ true) → b < 128
    letter (inl e) = below 97 122 (omega arith) e
    letter (inr e) = below 65 90 (omega arith) e

    first : (is_alphabetic b ≡ true) ⊎ (is_digit b ≡ true) → b < 128
    first (inl e) = letter (or_cases (nat_le 97 b && nat_le b 122) (nat_le 65 b && nat_le b 90) e)
    first (inr e) = below 48 57 (omega arith) e

    at : ((is_alphabetic b || is_digit b) ≡ true) ⊎ ((b == 95) ≡ true) → b < 128
    at (inl e) = first (or_cases (is_alphabetic b) (is_digit b) e)
    at (inr e) = let f : b ≡ 95 = eqb-true b 95 e in omega (arith, f)

names_ascii : (text : List ℕ) → IsAscii (take (name_bytes text) text)
names_ascii [] = IsAscii-nil
names_ascii (b ∷ text) = at (decide (is_name_byte b)) (names_ascii text)
  where
    at : (is_name_byte b ≡ true) ⊎ (is_name_byte b ≡ false) → IsAscii (take (name_bytes text) text) → IsAscii (take (name_bytes (b ∷ text)) (b ∷ text))
    at (inl h) rest = rw h (ascii_front b (take (name_bytes text) text) (name_ascii b h) rest)
    at (inr h) rest = rw h IsAscii-nil

-- and so is a word
pub word_utf8 : (text : List ℕ) (count : ℕ) → count ≡ name_bytes text → IsUtf8 (take count text)
word_utf8 text count e = subst (λ n. IsUtf8 (take n text)) (sym e) (IsUtf8-from_ascii (take (name_bytes text) text) (names_ascii text))

-- ── what stands in braces ──

-- a text is cut at an ASCII byte
at_byte : (front : List ℕ) (b : ℕ) (behind : List ℕ) → slice_index (front ++ b ∷ behind) (length front) ≡ b
at_byte [] b behind = refl
at_byte (c ∷ front) b behind = at_byte front b behind

drop_past : (front : List ℕ) (b : ℕ) (behind : List ℕ) → drop (suc (length front)) (front ++ b ∷ behind) ≡ behind
drop_past [] b behind = refl
drop_past (c ∷ front) b behind = drop_past front b behind

take_front : (front behind : List ℕ) → take (length front) (front ++ behind) ≡ front
take_front [] behind = refl
take_front (c ∷ front) behind = ap (λ t. c ∷ t) (take_front front behind)

behind_ascii : (front : List ℕ) (b : ℕ) (behind : List ℕ) → b < 128 → IsUtf8 (front ++ b ∷ behind) → IsUtf8 behind
behind_ascii front b behind h utf8 =
    let whole : List ℕ = front ++ b ∷ behind in
    let within : length front < length whole = omega (arith, length-append front (b ∷ behind)) in
    let here : slice_index whole (length front) < 128 = subst (λ c. c < 128) (sym (at_byte front b behind)) h in
    let next : length front + 1 ≡ suc (length front) = omega arith in
    subst IsUtf8 (ap (λ n. drop n whole) next ∙ drop_past front b behind) (IsUtf8-drop whole (length front + 1) utf8 (IsCharBoundary-after_ascii whole (length front) utf8 within here))

one_ascii : (b : ℕ) → b < 128 → IsUtf8 (b ∷ [])
one_ascii b h = IsUtf8-from_ascii (b ∷ []) (ascii_front b [] h IsAscii-nil)

before_ascii : (front : List ℕ) (b : ℕ) (behind : List ℕ) → b < 128 → IsUtf8 (front ++ b ∷ behind) → IsUtf8 front
before_ascii front b behind h utf8 =
    let whole : List ℕ = front ++ b ∷ behind in
    let rest : IsUtf8 (b ∷ behind) = IsUtf8-append (b ∷ []) behind (one_ascii b h) (behind_ascii front b behind h utf8) in
    subst IsUtf8 (take_front front (b ∷ behind)) (IsUtf8-take whole (length front) utf8 (IsCharBoundary-at_seam whole front (b ∷ behind) refl rest))

-- another ASCII byte in its place
in_place : (front : List ℕ) (b c : ℕ) (behind : List ℕ) → b < 128 → c < 128 → IsUtf8 (front ++ b ∷ behind) → IsUtf8 (front ++ c ∷ behind)
in_place front b c behind h k utf8 =
    IsUtf8-append front (c ∷ behind) (before_ascii front b behind h utf8) (IsUtf8-append (c ∷ []) behind (one_ascii c k) (behind_ascii front b behind h utf8))

-- without it
left_out : (front : List ℕ) (b : ℕ) (behind : List ℕ) → b < 128 → IsUtf8 (front ++ b ∷ behind) → IsUtf8 (front ++ behind)
left_out front b behind h utf8 = IsUtf8-append front behind (before_ascii front b behind h utf8) (behind_ascii front b behind h utf8)

space_ascii : (b : ℕ) → (b == 32 || b == 9) ≡ true → b < 128
space_ascii b e = one_of 32 9 b (omega arith) (omega arith) e

spaces_out : (front spaces behind : List ℕ) → AreSpaces spaces → IsUtf8 (front ++ (spaces ++ behind)) → IsUtf8 (front ++ behind)
spaces_out front [] behind are utf8 = utf8
spaces_out front (b ∷ spaces) behind are utf8 = spaces_out front spaces behind are.1 (left_out front b (spaces ++ behind) (space_ascii b are.0) utf8)

-- one byte more of the front
moved : (front : List ℕ) (b : ℕ) (behind : List ℕ) → front ++ b ∷ behind ≡ (front ++ b ∷ []) ++ behind
moved front b behind = sym (append_assoc front (b ∷ []) behind)

value_utf8 : {own value : List ℕ} → IsBraced own value → (front behind : List ℕ) → IsUtf8 (front ++ (own ++ behind)) → IsUtf8 (front ++ (value ++ behind))
value_utf8 none front behind utf8 = utf8
value_utf8 (byte {b} {text} {value} h k l rest) front behind utf8 =
    subst IsUtf8 (sym (moved front b (value ++ behind))) (value_utf8 rest (front ++ b ∷ []) behind (subst IsUtf8 (moved front b (text ++ behind)) utf8))
value_utf8 (pair {b} {text} {value} h rest) front behind utf8 =
    let two : (t : List ℕ) → front ++ 92 ∷ b ∷ t ≡ (front ++ 92 ∷ b ∷ []) ++ t = λ t. sym (append_assoc front (92 ∷ b ∷ []) t) in
    subst IsUtf8 (sym (two (value ++ behind))) (value_utf8 rest (front ++ 92 ∷ b ∷ []) behind (subst IsUtf8 (two (text ++ behind)) utf8))
value_utf8 (continuation spaces {text} {value} are apart rest) front behind utf8 =
    let one : IsUtf8 (front ++ 92 ∷ 10 ∷ (spaces ++ (text ++ behind))) = subst (λ t. IsUtf8 (front ++ 92 ∷ 10 ∷ t)) (append_assoc spaces text behind) utf8 in
    let blank : IsUtf8 (front ++ 32 ∷ (spaces ++ (text ++ behind))) = in_place front 10 32 (spaces ++ (text ++ behind)) (omega arith) (omega arith) (left_out front 92 (10 ∷ (spaces ++ (text ++ behind))) (omega arith) one) in
    let short : IsUtf8 ((front ++ 32 ∷ []) ++ (text ++ behind)) = spaces_out (front ++ 32 ∷ []) spaces (text ++ behind) are (subst IsUtf8 (moved front 32 (spaces ++ (text ++ behind))) blank) in
    subst IsUtf8 (sym (moved front 32 (value ++ behind))) (value_utf8 rest (front ++ 32 ∷ []) behind short)
value_utf8 (braces own text {inner} {value} first rest) front behind utf8 =
    let open_at : List ℕ = front ++ 123 ∷ [] in
    let one : IsUtf8 (open_at ++ (own ++ 125 ∷ (text ++ behind))) =
    subst IsUtf8 (ap (λ t. front ++ 123 ∷ t) (append_assoc own (125 ∷ text) behind) ∙ moved front 123 (own ++ 125 ∷ (text ++ behind))) utf8 in
    let two : IsUtf8 (open_at ++ (inner ++ 125 ∷ (text ++ behind))) = value_utf8 first open_at (125 ∷ (text ++ behind)) one in
    let shut : (t : List ℕ) → open_at ++ (inner ++ 125 ∷ t) ≡ ((open_at ++ inner) ++ 125 ∷ []) ++ t =
    λ t. sym (append_assoc (open_at ++ inner) (125 ∷ []) t ∙ append_assoc open_at inner (125 ∷ t)) in
    let three : IsUtf8 (((open_at ++ inner) ++ 125 ∷ []) ++ (value ++ behind)) = value_utf8 rest ((open_at ++ inner) ++ 125 ∷ []) behind (subst IsUtf8 (shut (text ++ behind)) two) in
    subst IsUtf8 (sym (ap (λ t. front ++ 123 ∷ t) (append_assoc inner (125 ∷ value) behind) ∙ moved front 123 (inner ++ 125 ∷ (value ++ behind)))) (subst IsUtf8 (sym (shut (value ++ behind))) three)

-- what stands in braces at the front of a text
pub braced_utf8 : (own value rest text : List ℕ) → IsBraced own value → text ≡ own ++ 125 ∷ rest → IsUtf8 text → IsUtf8 value
braced_utf8 own value rest text is cut utf8 = before_ascii value 125 rest (omega arith) (value_utf8 is [] (125 ∷ rest) (subst IsUtf8 cut utf8))

abbrev Found : Type 0
Found = Result (List ℕ × ℕ) ExprFault

found_by : (text value : List ℕ) (n : ℕ) → BraceCut text → braced Plain 0 text ≡ Ok (value, n) → IsUtf8 text → IsUtf8 value
found_by text value n (inl (own, inner, rest, cut, is)) e utf8 =
    let k : ◌≡◌ {A = Found} (Ok (inner, length own)) (Ok (value, n)) = sym (ap (braced Plain 0) cut ∙ braces_read own inner rest is) ∙ e in
    let parts : ◌≡◌ {A = List ℕ × ℕ} (inner, length own) (value, n) = cc in
    subst IsUtf8 (ap (λ p. p.0) parts) (braced_utf8 own inner rest text is cut utf8)
found_by text value n (inr is) e utf8 = let k : ◌≡◌ {A = Found} (Err missing_brace) (Ok (value, n)) = sym (unclosed_read text is) ∙ e in absurd cc

pub found_utf8 : (text value : List ℕ) (n : ℕ) → braced Plain 0 text ≡ Ok (value, n) → IsUtf8 text → IsUtf8 value
found_utf8 text value n e utf8 = found_by text value n (braces_cut text) e utf8

-- ── what stands behind an ASCII byte ──

-- a slice from a place to the end, and what is behind its first byte
abbrev from_there : List ℕ → ℕ → List ℕ
from_there text at = take (length text - at) (drop at text)

abbrev past_first : List ℕ → List ℕ
past_first text = take (length text - 1) (drop 1 text)

abbrev Behind : List ℕ → ℕ → Type 0
Behind text at = get_or (from_there text at) 0 0 < 128 → IsUtf8 (past_first (from_there text at))

from_there_is : (text : List ℕ) (at : ℕ) → at < length text → from_there text at ≡ slice_index text at ∷ drop (at + 1) text
from_there_is text at within = take_all (length text - at) (drop at text) (omega (arith, length-drop at text)) ∙ at_position text at within

past_first_is : (b : ℕ) (behind : List ℕ) → past_first (b ∷ behind) ≡ behind
past_first_is b behind = take_all (suc (length behind) - 1) behind (omega arith)

behind_at : (text : List ℕ) (at : ℕ) → at < length text → IsUtf8 text → Behind text at
behind_at text at within utf8 ascii =
    let cut : from_there text at ≡ slice_index text at ∷ drop (at + 1) text = from_there_is text at within in
    let here : slice_index text at < 128 = subst (λ t. get_or t 0 0 < 128) cut ascii in
    let behind : IsUtf8 (drop (at + 1) text) = IsUtf8-drop text (at + 1) utf8 (IsCharBoundary-after_ascii text at utf8 within here) in
    subst IsUtf8 (sym (ap past_first cut ∙ past_first_is (slice_index text at) (drop (at + 1) text))) behind

pub behind_utf8 : (bytes text : List ℕ) (at : ℕ) → bytes ≡ text → at < length text → IsUtf8 text → Behind bytes at
behind_utf8 bytes text at same within utf8 = subst (λ t. Behind t at) (sym same) (behind_at text at within utf8)
