-- The relation of a text to its integer is the function, both ways.
use Rattle.std.proofs.Common.{◌≡◌, ◌≢◌, ℕ, ◌+◌, ◌*◌, ◌<◌, ◌≤◌, Bool, true, false, cond, List, [], ◌∷◌, ◌++◌, Option, Some, None, nat_lt, nat_eq, ◌⊎◌, refl, arith, ap, sym, ◌∙◌, inl, inr, subst}
use Rattle.std.specs.Prelude.{ℤ, ◌==◌, nat_le, ◌||◌, ◌&&◌}
use Rattle.std.specs.Char.{digit_value}
use Rattle.std.specs.List.{list_all}
use Rattle.std.specs.Str.Parse.{AllDigits, digits_value, digits_value_after}
use Rattle.std.proofs.lemmas.Bool.{cases_Bool, eqb-true, ltb-true, lt-ltb, le-ltb, and_parts, and_from, or_cases, leb-true, false_from_ne_true, ne_eqb}
use Rattle.std.proofs.lemmas.Bool.Decides.{nat_tests}
use Rattle.tcl_text.specs.Backslash.{is_white}
use Rattle.tcl_text.specs.Readings.{IsBlank, base_named, OpensDigits, IsNumeral, IsSign, signed, IsInteger, skip_white, number_from, number_in, behind_zero, zero_numeral, numeral_of, signed_option, signed_numeral, integer_of}

-- ── from the function to the relation ──

-- a text as white space and what stands behind it
skip_white_cut : (text : List ℕ) → (before : List ℕ) × (text ≡ before ++ skip_white text) × IsBlank before
skip_white_cut [] = ([], refl, refl)
skip_white_cut (c ∷ cs) =
    elim (cases_Bool (is_white c)) [
      | inl white ↦ (let h = skip_white_cut cs in (c ∷ h.0, rw white (ap (λ t. c ∷ t) h.1), and_from _ _ white h.2))
      | inr other ↦ ([], rw other refl, refl)
    ]

-- digits and the white space behind them
record NumberCut (base n : ℕ) (text : List ℕ) (m : ℕ) : Type 0 where
  digits : List ℕ
  after : List ℕ
  cut : text ≡ digits ++ after
  each : AllDigits base digits
  value : m ≡ digits_value_after base n digits
  blank : IsBlank after

none_some : {A : Type 0} (x : A) → None ≡ Some x → ⊥
none_some x e = cc

some_same : {A : Type 0} (x y : A) → Some x ≡ Some y → x ≡ y
some_same x y e = cc

number_from_cut : (base n : ℕ) (text : List ℕ) (m : ℕ) → number_from base n text ≡ Some m → NumberCut base n text m
number_from_cut base n [] m e = record { digits = []; after = []; cut = refl; each = tt; value = sym (some_same n m e); blank = refl }
number_from_cut base n (c ∷ cs) m e =
    elim (cases_Bool (nat_lt (digit_value c) base)) [
      | inl digit ↦ (
          let h : NumberCut base (n * base + digit_value c) cs m = number_from_cut base (n * base + digit_value c) cs m (rw digit at e) in
          record { digits = c ∷ h.digits; after = h.after; cut = ap (λ t. c ∷ t) h.cut; each = (ltb-true _ _ digit, h.each); value = h.value; blank = h.blank })
      | inr other ↦ elim (cases_Bool (list_all is_white (c ∷ cs))) [
        | inl white ↦ record { digits = []; after = c ∷ cs; cut = refl; each = tt; value = sym (some_same n m (rw white at (rw other at e))); blank = white }
        | inr more ↦ absurd (none_some m (rw more at (rw other at e)))
      ]
    ]

number_in_cut : (base c : ℕ) (cs : List ℕ) (m : ℕ) → number_in base (c ∷ cs) ≡ Some m → (h : NumberCut base (digit_value c) cs m) × (digit_value c < base)
number_in_cut base c cs m e =
    elim (cases_Bool (nat_lt (digit_value c) base)) [
      | inl digit ↦ (number_from_cut base (digit_value c) cs m (rw digit at e), ltb-true _ _ digit)
      | inr other ↦ absurd (none_some m (rw other at e))
    ]

-- a numeral and the white space behind it
record NumeralCut (text : List ℕ) (m : ℕ) : Type 0 where
  numeral : List ℕ
  after : List ℕ
  cut : text ≡ numeral ++ after
  spells : IsNumeral numeral m
  blank : IsBlank after

cons_some : (c : ℕ) (cs : List ℕ) → c ∷ cs ≢ []
cons_some c cs e = cc

-- the first digit is the number so far
first_digit : (base c : ℕ) (cs : List ℕ) (m : ℕ) → m ≡ digits_value_after base (digit_value c) cs → m ≡ digits_value base (c ∷ cs)
first_digit base c cs m e =
    let start : digit_value c ≡ 0 * base + digit_value c = omega arith in
    e ∙ ap (λ n. digits_value_after base n cs) start

-- digits with nothing in front, the base by the first of them
plain_numeral : (base c : ℕ) (cs : List ℕ) (m : ℕ) → base ≡ cond (nat_eq c 48) 8 10 → digit_value c < base → NumberCut base (digit_value c) cs m → NumeralCut (c ∷ cs) m
plain_numeral base c cs m opened first h =
    record {
      numeral = c ∷ h.digits;
      after = h.after;
      cut = ap (λ t. c ∷ t) h.cut;
      spells = record { base = base; opening = []; digits = c ∷ h.digits; cut = refl; opened = opened; some = cons_some c h.digits; each = (first, h.each); valued = first_digit base c h.digits m h.value };
      blank = h.blank;
    }

zero_numeral_cut : (cs : List ℕ) (m : ℕ) → zero_numeral cs ≡ Some m → NumeralCut (48 ∷ cs) m
zero_numeral_cut [] m e = plain_numeral 8 48 [] m refl (omega arith) (record { digits = []; after = []; cut = refl; each = tt; value = sym (some_same 0 m e); blank = refl })
zero_numeral_cut (letter ∷ ds) m e = at_letter (base_named letter) refl e
  where
    at_letter : (named : Option ℕ) → base_named letter ≡ named → behind_zero named letter ds ≡ Some m → NumeralCut (48 ∷ letter ∷ ds) m
    at_letter None is f = plain_numeral 8 48 (letter ∷ ds) m refl (omega arith) (number_from_cut 8 0 (letter ∷ ds) m f)
    at_letter (Some base) is f = behind ds f
      where
        behind : (ds : List ℕ) → number_in base ds ≡ Some m → NumeralCut (48 ∷ letter ∷ ds) m
        behind [] g = absurd (none_some m g)
        behind (c ∷ cs) g =
            let h = number_in_cut base c cs m g in
            record {
              numeral = 48 ∷ letter ∷ c ∷ h.0.digits;
              after = h.0.after;
              cut = ap (λ t. 48 ∷ letter ∷ c ∷ t) h.0.cut;
              spells = record { base = base; opening = 48 ∷ letter ∷ []; digits = c ∷ h.0.digits; cut = refl; opened = (refl, is); some = cons_some c h.0.digits; each = (h.1, h.0.each); valued = first_digit base c h.0.digits m h.0.value };
              blank = h.0.blank;
            }

numeral_cut : (text : List ℕ) (m : ℕ) → numeral_of text ≡ Some m → NumeralCut text m
numeral_cut [] m e = absurd (none_some m e)
numeral_cut (c ∷ cs) m e =
    elim (cases_Bool (nat_eq c 48)) [
      | inl zero ↦ (let is : 48 ≡ c = sym (eqb-true c 48 zero) in subst (λ d. NumeralCut (d ∷ cs) m) is (zero_numeral_cut cs m (rw zero at e)))
      | inr other ↦ (let h = number_in_cut 10 c cs m (rw other at e) in plain_numeral 10 c cs m (rw other refl) h.1 h.0)
    ]

-- a sign and a numeral with white space behind them
record SignedCut (text : List ℕ) (value : ℤ) : Type 0 where
  sign : List ℕ
  numeral : List ℕ
  after : List ℕ
  negative : Bool
  magnitude : ℕ
  cut : text ≡ sign ++ (numeral ++ after)
  signs : IsSign sign negative
  spells : IsNumeral numeral magnitude
  blank : IsBlank after
  valued : signed negative magnitude ≡ Some value

with_sign : (sign : List ℕ) (negative : Bool) (text rest : List ℕ) (value : ℤ) → IsSign sign negative → text ≡ sign ++ rest → signed_option negative (numeral_of rest) ≡ Some value → SignedCut text value
with_sign sign negative text rest value signs is e = behind (numeral_of rest) refl e
  where
    behind : (n : Option ℕ) → numeral_of rest ≡ n → signed_option negative n ≡ Some value → SignedCut text value
    behind None found f = absurd (none_some value f)
    behind (Some n) found f =
        let h = numeral_cut rest n found in
        record { sign = sign; numeral = h.numeral; after = h.after; negative = negative; magnitude = n; cut = is ∙ ap (λ t. sign ++ t) h.cut; signs = signs; spells = h.spells; blank = h.blank; valued = f }

signed_cut : (text : List ℕ) (value : ℤ) → signed_numeral text ≡ Some value → SignedCut text value
signed_cut [] value e = absurd (none_some value e)
signed_cut (c ∷ cs) value e =
    elim (cases_Bool (nat_eq c 45)) [
      | inl minus ↦ with_sign (c ∷ []) true (c ∷ cs) cs value (inr (eqb-true c 45 minus, refl)) refl (rw minus at e)
      | inr other ↦ elim (cases_Bool (nat_eq c 43)) [
        | inl plus ↦ with_sign (c ∷ []) false (c ∷ cs) cs value (inl (eqb-true c 43 plus, refl)) refl (rw plus at (rw other at e))
        | inr none ↦ with_sign [] false (c ∷ cs) (c ∷ cs) value refl refl (rw none at (rw other at e))
      ]
    ]

-- what the function reads is related
pub IsInteger-from_integer_of : (text : List ℕ) (value : ℤ) → integer_of text ≡ Some value → IsInteger text value
unfolding integer_of
IsInteger-from_integer_of text value e =
    let w = skip_white_cut text in
    let h = signed_cut (skip_white text) value e in
    record {
      before = w.0;
      sign = h.sign;
      numeral = h.numeral;
      after = h.after;
      negative = h.negative;
      magnitude = h.magnitude;
      cut = w.1 ∙ ap (λ t. w.0 ++ t) h.cut;
      blank_before = w.2;
      blank_after = h.blank;
      signs = h.signs;
      spells = h.spells;
      valued = h.valued;
    }

-- ── from the relation to the function ──

-- white space stands below the digits
pub white_low : (c : ℕ) → is_white c ≡ true → c ≤ 32
white_low c white = elim (or_cases (c == 32) (nat_le 9 c && nat_le c 13) white) [
  | inl blank ↦ (let is : c ≡ 32 = eqb-true c 32 blank in omega arith)
  | inr control ↦ (let most : c ≤ 13 = leb-true c 13 (and_parts (nat_le 9 c) (nat_le c 13) control).1 in omega arith)
]

digit_value-white : (c : ℕ) → is_white c ≡ true → digit_value c ≡ 36
digit_value-white c white = let low : c ≤ 32 = white_low c white in rw (lt-ltb c 48 (omega arith)) refl

digit_isn't_white : (base c : ℕ) → base ≤ 36 → digit_value c < base → is_white c ≡ false
digit_isn't_white base c small digit = false_from_ne_true _ (λ white. let e = digit_value-white c white in absurd (omega arith))

number_from_spells : (base n : ℕ) (digits after : List ℕ) → base ≤ 36 → AllDigits base digits → IsBlank after → number_from base n (digits ++ after) ≡ Some (digits_value_after base n digits)
number_from_spells base n [] [] small each blank = refl
number_from_spells base n [] (w ∷ ws) small each blank =
    let e = digit_value-white w (and_parts _ _ blank).0 in
    rw (le-ltb (digit_value w) base (omega arith)) (rw blank refl)
number_from_spells base n (c ∷ cs) after small each blank =
    rw (lt-ltb (digit_value c) base each.0) (number_from_spells base (n * base + digit_value c) cs after small each.1 blank)

number_in_spells : (base c : ℕ) (cs after : List ℕ) → base ≤ 36 → AllDigits base (c ∷ cs) → IsBlank after → number_in base (c ∷ (cs ++ after)) ≡ Some (digits_value base (c ∷ cs))
number_in_spells base c cs after small each blank =
    let start : digit_value c ≡ 0 * base + digit_value c = omega arith in
    rw (lt-ltb (digit_value c) base each.0) (number_from_spells base (digit_value c) cs after small each.1 blank ∙ ap (λ n. Some (digits_value_after base n cs)) start)

base_named_small : (c base : ℕ) → base_named c ≡ Some base → base ≤ 16
base_named_small c base e = grind arith

-- no base is named by a digit below 8, nor by white space
named_letter : (c base : ℕ) → base_named c ≡ Some base → (8 < digit_value c) × (digit_value c < 36)
named_letter c base e =
    elim (cases_Bool (nat_eq c 120 || nat_eq c 88)) [
      | inl x ↦ elim (or_cases _ _ x) [ inl is ↦ at 120 (eqb-true c 120 is) (omega arith, omega arith) | inr is ↦ at 88 (eqb-true c 88 is) (omega arith, omega arith) ]
      | inr not_x ↦ elim (cases_Bool (nat_eq c 111 || nat_eq c 79)) [
        | inl o ↦ elim (or_cases _ _ o) [ inl is ↦ at 111 (eqb-true c 111 is) (omega arith, omega arith) | inr is ↦ at 79 (eqb-true c 79 is) (omega arith, omega arith) ]
        | inr not_o ↦ elim (cases_Bool (nat_eq c 98 || nat_eq c 66)) [
          | inl b ↦ elim (or_cases _ _ b) [ inl is ↦ at 98 (eqb-true c 98 is) (omega arith, omega arith) | inr is ↦ at 66 (eqb-true c 66 is) (omega arith, omega arith) ]
          | inr none ↦ absurd (none_some base (rw none at (rw not_o at (rw not_x at e))))
        ]
      ]
    ]
  where
    at : (letter : ℕ) → c ≡ letter → (8 < digit_value letter) × (digit_value letter < 36) → (8 < digit_value c) × (digit_value c < 36)
    at letter is h = subst (λ d. (8 < digit_value d) × (digit_value d < 36)) (sym is) h

unnamed : (c : ℕ) → (digit_value c < 8) ⊎ (digit_value c ≡ 36) → base_named c ≡ None
unnamed c h = at (base_named c) refl
  where
    at : (named : Option ℕ) → base_named c ≡ named → base_named c ≡ None
    at None is = is
    at (Some base) is = let found = named_letter c base is in elim h [ inl low ↦ absurd (omega arith) | inr white ↦ absurd (omega arith) ]

-- digits and the white space behind them, with nothing in front
plain_spells : (base c : ℕ) (cs after : List ℕ) → base ≡ cond (nat_eq c 48) 8 10 → AllDigits base (c ∷ cs) → IsBlank after → numeral_of (c ∷ (cs ++ after)) ≡ Some (digits_value base (c ∷ cs))
plain_spells base c cs after opened each blank =
    elim (cases_Bool (nat_eq c 48)) [
      | inl zero ↦ (
          let octal : base ≡ 8 = opened ∙ ap (λ b. cond b 8 10) zero in
          rw zero (subst (λ b. zero_numeral (cs ++ after) ≡ Some (digits_value b (c ∷ cs))) (sym octal)
          (subst (λ d. zero_numeral (cs ++ after) ≡ Some (digits_value 8 (d ∷ cs))) (sym (eqb-true c 48 zero)) (zero_spells cs after (subst (λ b. AllDigits b cs) octal each.1) blank))))
      | inr other ↦ (
          let decimal : base ≡ 10 = opened ∙ ap (λ b. cond b 8 10) other in
          rw other (subst (λ b. number_in 10 (c ∷ (cs ++ after)) ≡ Some (digits_value b (c ∷ cs))) (sym decimal)
          (number_in_spells 10 c cs after (omega arith) (subst (λ b. AllDigits b (c ∷ cs)) decimal each) blank)))
    ]
  where
    zero_spells : (cs after : List ℕ) → AllDigits 8 cs → IsBlank after → zero_numeral (cs ++ after) ≡ Some (digits_value 8 (48 ∷ cs))
    zero_spells [] [] each blank = refl
    zero_spells [] (w ∷ ws) each blank =
        ap (λ named. behind_zero named w ws) (unnamed w (inr (digit_value-white w (and_parts _ _ blank).0))) ∙ (number_from_spells 8 0 [] (w ∷ ws) (omega arith) tt blank)
    zero_spells (c ∷ cs) after each blank =
        ap (λ named. behind_zero named c (cs ++ after)) (unnamed c (inl each.0)) ∙ (number_from_spells 8 0 (c ∷ cs) after (omega arith) each blank)

numeral_spells : (numeral after : List ℕ) (n : ℕ) → IsNumeral numeral n → IsBlank after → numeral_of (numeral ++ after) ≡ Some n
numeral_spells numeral after n h blank =
    subst (λ text. numeral_of (text ++ after) ≡ Some n) (sym h.cut) (subst (λ m. numeral_of ((h.opening ++ h.digits) ++ after) ≡ Some m) (sym h.valued) (opened h.opening h.digits h.opened h.some h.each))
  where
    opened : (opening digits : List ℕ) → OpensDigits opening digits h.base → digits ≢ [] → AllDigits h.base digits → numeral_of ((opening ++ digits) ++ after) ≡ Some (digits_value h.base digits)
    opened [] [] o some each = absurd o
    opened [] (c ∷ cs) o some each = plain_spells h.base c cs after o each blank
    opened (z ∷ []) digits o some each = absurd o
    opened (z ∷ letter ∷ []) [] o some each = absurd (some refl)
    opened (z ∷ letter ∷ []) (c ∷ cs) o some each =
        subst (λ d. numeral_of (d ∷ letter ∷ c ∷ (cs ++ after)) ≡ Some (digits_value h.base (c ∷ cs))) (sym o.0)
        (ap (λ named. behind_zero named letter (c ∷ (cs ++ after))) o.1
        ∙ number_in_spells h.base c cs after (let small = base_named_small letter h.base o.1 in omega arith) each blank)
    opened (z ∷ letter ∷ e ∷ es) digits o some each = absurd o

-- a text that is no white space in front is itself behind it
abbrev BeginsBlack : List ℕ → Type 0
BeginsBlack [] = ⊥
BeginsBlack (c ∷ cs) = is_white c ≡ false

skip_white-black : (text rest : List ℕ) → BeginsBlack text → skip_white (text ++ rest) ≡ text ++ rest
skip_white-black [] rest black = absurd black
skip_white-black (c ∷ cs) rest black = rw black refl

skip_white-blank : (before rest : List ℕ) → IsBlank before → skip_white (before ++ rest) ≡ skip_white rest
skip_white-blank [] rest blank = refl
skip_white-blank (c ∷ cs) rest blank =
    let parts = and_parts (is_white c) (list_all is_white cs) blank in rw parts.0 (skip_white-blank cs rest parts.1)

-- the first character of a numeral is a digit
record DigitFirst (numeral : List ℕ) : Type 0 where
  first : ℕ
  others : List ℕ
  cut : numeral ≡ first ∷ others
  digit : digit_value first < 36

digit_first : (numeral : List ℕ) (n : ℕ) → IsNumeral numeral n → DigitFirst numeral
digit_first numeral n h = at h.opening h.digits h.cut h.opened h.some h.each
  where
    at : (opening digits : List ℕ) → numeral ≡ opening ++ digits → OpensDigits opening digits h.base → digits ≢ [] → AllDigits h.base digits → DigitFirst numeral
    at [] [] is o some each = absurd o
    at [] (c ∷ cs) is o some each = record { first = c; others = cs; cut = is; digit = small (nat_eq c 48) o each.0 }
      where
        small : (zero : Bool) → h.base ≡ cond zero 8 10 → digit_value c < h.base → digit_value c < 36
        small true e d = omega arith
        small false e d = omega arith
    at (z ∷ []) digits is o some each = absurd o
    at (z ∷ letter ∷ []) digits is o some each =
        record { first = z; others = letter ∷ digits; cut = is; digit = subst (λ d. digit_value d < 36) (sym o.0) (omega arith) }
    at (z ∷ letter ∷ e ∷ es) digits is o some each = absurd o

-- no digit is a sign or white space
digit_black : (c : ℕ) → digit_value c < 36 → (is_white c ≡ false) × (nat_eq c 45 ≡ false) × (nat_eq c 43 ≡ false)
digit_black c digit = (
  digit_isn't_white 36 c (omega arith) digit,
  ne_eqb c 45 (λ is. let e : digit_value c ≡ 36 = ap digit_value is in omega arith),
  ne_eqb c 43 (λ is. let e : digit_value c ≡ 36 = ap digit_value is in omega arith),
)

signed_spells : (sign numeral after : List ℕ) (negative : Bool) (n : ℕ) → IsSign sign negative → IsNumeral numeral n → IsBlank after → signed_numeral (skip_white (sign ++ (numeral ++ after))) ≡ signed negative n
signed_spells [] numeral after negative n s h blank =
    let first = digit_first numeral n h in
    let black = digit_black first.first first.digit in
    let plain : signed_numeral (skip_white (numeral ++ after)) ≡ signed_option false (numeral_of (numeral ++ after)) =
    subst (λ text. signed_numeral (skip_white (text ++ after)) ≡ signed_option false (numeral_of (text ++ after))) (sym first.cut)
    (ap signed_numeral (skip_white-black (first.first ∷ first.others) after black.0) ∙ (rw black.1 (rw black.2 refl)))
    in plain ∙ ap (signed_option false) (numeral_spells numeral after n h blank) ∙ ap (λ b. signed b n) (sym s)
signed_spells (c ∷ []) numeral after negative n s h blank = elim s [
  | inl plus ↦ rw plus.0 (ap (signed_option false) (numeral_spells numeral after n h blank) ∙ ap (λ b. signed b n) (sym plus.1))
  | inr minus ↦ rw minus.0 (ap (signed_option true) (numeral_spells numeral after n h blank) ∙ ap (λ b. signed b n) (sym minus.1))
]
signed_spells (c ∷ d ∷ cs) numeral after negative n s h blank = absurd s

-- what is related the function reads
pub integer_of-from_IsInteger : (text : List ℕ) (value : ℤ) → IsInteger text value → integer_of text ≡ Some value
unfolding integer_of
integer_of-from_IsInteger text value h =
    ap (λ t. signed_numeral (skip_white t)) h.cut ∙ ap signed_numeral (skip_white-blank h.before (h.sign ++ (h.numeral ++ h.after)) h.blank_before)
    ∙ signed_spells h.sign h.numeral h.after h.negative h.magnitude h.signs h.spells h.blank_after ∙ h.valued

-- a text that begins with a letter is no integer
pub integer_of-letter : (c : ℕ) (cs : List ℕ) → 58 ≤ c → integer_of (c ∷ cs) ≡ None
unfolding integer_of
integer_of-letter c cs letter =
    rw (not_white, ne_eqb c 45 (λ is. omega arith), ne_eqb c 43 (λ is. omega arith), ne_eqb c 48 (λ is. omega arith), le-ltb (digit_value c) 10 not_digit) refl
  where
    not_white : is_white c ≡ false
    not_white = false_from_ne_true (is_white c) (λ white. let low : c ≤ 32 = white_low c white in omega arith)

    not_digit : 10 ≤ digit_value c
    not_digit = grind (arith, nat_tests)
