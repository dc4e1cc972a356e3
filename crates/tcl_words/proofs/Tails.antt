-- What stands in front of a text that ends a word means the same before another one.
use Rattle.std.proofs.Common.{◌≡◌, ℕ, zero, suc, ◌+◌, ◌*◌, ◌<◌, ◌≤◌, ◌⊎◌, inl, inr, Bool, true, false, cond, ◌==◌, nat_eq, nat_lt, List, [], ◌∷◌, ◌++◌, drop, refl, sym, ap, subst, ◌∙◌, eqb-true, arith}
use Rattle.std.specs.Prelude.{nat_le, ◌&&◌, ◌||◌}
use Rattle.std.specs.Char.{digit_value}
use Rattle.std.specs.List.{starts_with}
use Rattle.std.proofs.lemmas.Bool.{cond_both}
use Rattle.std.proofs.lemmas.Bool.Decides.{nat_tests}
use Rattle.tcl_text.specs.Backslash.{Digits, Escape, digits_from, numbered, blanks, escape}
use Rattle.tcl_words.specs.Classes.{class_of, is_blank, is_name_byte}
use Rattle.tcl_words.specs.Grammar.{begins, begins_name_byte, begins_name, begins_space, class_ends, ends_word}
use Rattle.tcl_words.specs.declared.kind.Kind.{Kind}
use Rattle.tcl_words.specs.declared.kind.Kind.TheVariants.{Blank, Newline, Semicolon, Hash, Dollar, Quote, OpenBracket, CloseBracket, OpenBrace, Expansion, CloseBrace, CloseParen, Backslash, Continuation, Other}
use Rattle.tcl_words.proofs.ClassLemmas.{byte_is}

-- no hexadecimal digit is the first
abbrev pub begins_digit : List ℕ → Bool
begins_digit [] = false
begins_digit (b ∷ text) = nat_lt (digit_value b) 16

-- nothing in front of this goes on into it
pub record Inert (left : List ℕ) : Type 0 where
  pub letter : begins_name_byte left ≡ false
  pub paren : begins 40 left ≡ false
  pub brace : begins 123 left ≡ false
  pub colon : starts_with nat_eq left (58 ∷ []) ≡ false
  pub digit : begins_digit left ≡ false

pub inert_none : Inert []
inert_none = record { letter = refl; paren = refl; brace = refl; colon = refl; digit = refl }

abbrev InertByte : ℕ → Type 0
InertByte b = (is_name_byte b ≡ false) × ((b == 40) ≡ false) × ((b == 123) ≡ false) × ((nat_eq 58 b && true) ≡ false) × (nat_lt (digit_value b) 16 ≡ false)

inert_byte : (b : ℕ) (text : List ℕ) → InertByte b → Inert (b ∷ text)
inert_byte b text h = record { letter = h.0; paren = h.1; brace = h.2; colon = h.3; digit = h.4 }

byte_10 : InertByte 10
byte_10 = (refl, refl, refl, refl, refl)

byte_59 : InertByte 59
byte_59 = (refl, refl, refl, refl, refl)

byte_92 : InertByte 92
byte_92 = (refl, refl, refl, refl, refl)

byte_34 : InertByte 34
byte_34 = (refl, refl, refl, refl, refl)

pub inert_quote : (text : List ℕ) → Inert (34 ∷ text)
inert_quote text = inert_byte 34 text byte_34

or_true : (a b : Bool) → (a || b) ≡ true → (a ≡ true) ⊎ (b ≡ true)
or_true true b h = inl refl
or_true false b h = inr h

byte_blank : (b : ℕ) → is_blank b ≡ true → InertByte b
byte_blank b h = elim (or_true (b == 32 || b == 9 || b == 11 || b == 12) (b == 13) h) [
  | inr e ↦ subst InertByte (sym (eqb-true b 13 e)) (refl, refl, refl, refl, refl)
  | inl h4 ↦ elim (or_true (b == 32 || b == 9 || b == 11) (b == 12) h4) [
    | inr e ↦ subst InertByte (sym (eqb-true b 12 e)) (refl, refl, refl, refl, refl)
    | inl h3 ↦ elim (or_true (b == 32 || b == 9) (b == 11) h3) [
      | inr e ↦ subst InertByte (sym (eqb-true b 11 e)) (refl, refl, refl, refl, refl)
      | inl h2 ↦ elim (or_true (b == 32) (b == 9) h2) [
        | inr e ↦ subst InertByte (sym (eqb-true b 9 e)) (refl, refl, refl, refl, refl)
        | inl e ↦ subst InertByte (sym (eqb-true b 32 e)) (refl, refl, refl, refl, refl)
      ]
    ]
  ]
]

inert_class : (kind : Kind) (b : ℕ) (text : List ℕ) → class_of b ≡ kind → class_ends false kind text ≡ true → InertByte b
inert_class Blank b text e h = byte_blank b (byte_is b Blank e)
inert_class Newline b text e h = subst InertByte (sym (byte_is b Newline e)) byte_10
inert_class Semicolon b text e h = subst InertByte (sym (byte_is b Semicolon e)) byte_59
inert_class Backslash b text e h = subst InertByte (sym (byte_is b Backslash e)) byte_92
inert_class CloseBracket b text e h = cc
inert_class Hash b text e h = cc
inert_class Dollar b text e h = cc
inert_class Quote b text e h = cc
inert_class OpenBracket b text e h = cc
inert_class OpenBrace b text e h = cc
inert_class Expansion b text e h = cc
inert_class CloseBrace b text e h = cc
inert_class CloseParen b text e h = cc
inert_class Continuation b text e h = cc
inert_class Other b text e h = cc

pub inert_end : (left : List ℕ) → ends_word false left ≡ true → Inert left
inert_end [] h = inert_none
inert_end (b ∷ text) h = inert_byte b text (inert_class (class_of b) b text refl h)

-- Escapes.

below : (d base : ℕ) → nat_lt d 16 ≡ false → base ≤ 16 → nat_lt d base ≡ false
below d base h k = grind (arith, nat_tests)

digits_then : ℕ → Bool → Digits → Digits
digits_then n t more = cond t (record { value = more.value; count = suc more.count }) (record { value = n; count = 0 })

digits_none : (base bound most n : ℕ) (left : List ℕ) → begins_digit left ≡ false → base ≤ 16 → digits_from base bound (suc most) n left ≡ record { value = n; count = 0 }
digits_none base bound most n [] h small = refl
digits_none base bound most n (c ∷ left) h small = rw (below (digit_value c) base h small) refl

digits_inert : (base bound most n : ℕ) (xs left : List ℕ) → begins_digit left ≡ false → base ≤ 16 → digits_from base bound most n (xs ++ left) ≡ digits_from base bound most n xs
unfolding digits_then
digits_inert base bound zero n xs left h small = refl
digits_inert base bound (suc most) n [] left h small = digits_none base bound most n left h small
digits_inert base bound (suc most) n (x ∷ xs) left h small =
    ap (digits_then n (nat_lt (digit_value x) base && nat_le (n * base + digit_value x) bound)) (digits_inert base bound most (n * base + digit_value x) xs left h small)

blanks_inert : (xs left : List ℕ) → begins_space left ≡ false → blanks (xs ++ left) ≡ blanks xs
blanks_inert [] [] h = refl
blanks_inert [] (b ∷ left) h = rw h refl
blanks_inert (x ∷ xs) left h = ap (λ n. cond (nat_eq x 32 || nat_eq x 9) (suc n) 0) (blanks_inert xs left h)

cond_same : {X : Type 0} (t : Bool) (a a' b b' : X) → (t ≡ true → a ≡ a') → b ≡ b' → cond t a b ≡ cond t a' b'
cond_same true a a' b b' e f = e refl
cond_same false a a' b b' e f = f

pub escape_inert : (x : ℕ) (xs left : List ℕ) → begins_digit left ≡ false → (x ≡ 10 → begins_space left ≡ false) → escape (x ∷ (xs ++ left)) ≡ escape (x ∷ xs)
unfolding escape
escape_inert x xs left h spaces =
    cond_same (nat_eq x 10) _ _ _ _ (λ e. ap (λ n. record { meaning = 32 ∷ []; length = suc n }) (blanks_inert xs left (spaces (eqb-true x 10 e))))
    (cond_same (nat_le 48 x && nat_le x 55) _ _ _ _ (λ e. ap (numbered x 0) (digits_inert 8 255 3 0 (x ∷ xs) left h (omega arith)))
    (cond_same (nat_eq x 120) _ _ _ _ (λ e. ap (numbered x 1) (digits_inert 16 0xFF 2 0 xs left h (omega arith)))
    (cond_same (nat_eq x 117) _ _ _ _ (λ e. ap (numbered x 1) (digits_inert 16 0xFFFF 4 0 xs left h (omega arith)))
    (cond_same (nat_eq x 85) _ _ _ _ (λ e. ap (numbered x 1) (digits_inert 16 0x10FFFF 8 0 xs left h (omega arith))) refl))))

numbered_some : (letter before : ℕ) (digits : Digits) → 0 < (numbered letter before digits).length
numbered_some letter before digits = cond_both (digits.count == 0) _ _ some (λ h. omega arith) (λ h. grind (arith, nat_tests))
  where
    some : Escape → Type 0
    some e = 0 < e.length

-- a backslash takes a byte where there is one
pub escape_some : (c : ℕ) (cs : List ℕ) → 0 < (escape (c ∷ cs)).length
unfolding escape
escape_some c cs =
    cond_both (nat_eq c 10) _ _ some (λ _. omega arith) (λ _.
    cond_both (nat_le 48 c && nat_le c 55) _ _ some (λ _. numbered_some c 0 (digits_from 8 255 3 0 (c ∷ cs))) (λ _.
    cond_both (nat_eq c 120) _ _ some (λ _. numbered_some c 1 (digits_from 16 0xFF 2 0 cs)) (λ _.
    cond_both (nat_eq c 117) _ _ some (λ _. numbered_some c 1 (digits_from 16 0xFFFF 4 0 cs)) (λ _.
    cond_both (nat_eq c 85) _ _ some (λ _. numbered_some c 1 (digits_from 16 0x10FFFF 8 0 cs)) (λ _. omega arith)))))
  where
    some : Escape → Type 0
    some e = 0 < e.length

-- Names.

pub letter_inert : (own left other : List ℕ) → begins_name_byte (own ++ left) ≡ false → Inert other → begins_name_byte (own ++ other) ≡ false
letter_inert [] left other h inert = inert.letter
letter_inert (b ∷ own) left other h inert = h

pub byte_inert : (c : ℕ) (own left other : List ℕ) → begins c (own ++ left) ≡ false → begins c other ≡ false → begins c (own ++ other) ≡ false
byte_inert c [] left other h k = k
byte_inert c (b ∷ own) left other h k = h

or_false : (a b : Bool) → (a || b) ≡ false → (a ≡ false) × (b ≡ false)
or_false true b h = cc
or_false false b h = (refl, h)

and_none : (t : Bool) → (t && false) ≡ false
and_none true = refl
and_none false = refl

and_more : (s t u : Bool) → (s && t) ≡ false → u ≡ false → (s && u) ≡ false
and_more true t u h k = k
and_more false t u h k = refl

colons_none : (left : List ℕ) → Inert left → starts_with nat_eq left (58 ∷ 58 ∷ []) ≡ false
colons_none [] h = refl
colons_none (b ∷ []) h = and_none (nat_eq 58 b)
colons_none (b ∷ c ∷ left) h = go (nat_eq 58 b) h.colon
  where
    go : (t : Bool) → (t && true) ≡ false → (t && (nat_eq 58 c && true)) ≡ false
    go true e = cc
    go false e = refl

one_colon : (b : ℕ) (left : List ℕ) → Inert left → starts_with nat_eq (b ∷ left) (58 ∷ 58 ∷ []) ≡ false
one_colon b [] h = and_none (nat_eq 58 b)
one_colon b (c ∷ left) h = ap (λ t. nat_eq 58 b && t) h.colon ∙ and_none (nat_eq 58 b)

pub name_inert : (own left other : List ℕ) → begins_name (own ++ left) ≡ false → Inert other → begins_name (own ++ other) ≡ false
name_inert [] left other h inert = rw (inert.letter, colons_none other inert) refl
name_inert (b ∷ []) left other h inert =
    let two = or_false (is_name_byte b) (starts_with nat_eq (b ∷ left) (58 ∷ 58 ∷ []) && begins_name_byte (drop 2 (b ∷ left))) h in
    rw (two.0, one_colon b other inert) refl
name_inert (b ∷ c ∷ own) left other h inert =
    let s : Bool = nat_eq 58 b && (nat_eq 58 c && true) in
    let two = or_false (is_name_byte b) (s && begins_name_byte (own ++ left)) h in
    rw (two.0) (go s (begins_name_byte (own ++ left)) two.1 (λ e. letter_inert own left other e inert))
  where
    go : (s t : Bool) → (s && t) ≡ false → (t ≡ false → begins_name_byte (own ++ other) ≡ false) → (s && begins_name_byte (own ++ other)) ≡ false
    go true t h k = k h
    go false t h k = refl
