-- What `parse` answers of a text, as a test.
use Rattle.std.proofs.Common.{◌≡◌, ℕ, ◌<◌, ◌^◌, Bool, true, false, cond, not, eqb, ltb, ◌&&◌, List, [], ◌∷◌, length, Option, Some, None, refl, ap, sym, ◌∙◌, ⊎_elim, arith}
use Rattle.std.proofs.lemmas.Bool.{and_parts, cases_Bool, false≢true, lt-ltb, ltb-true, ne_eqb}
use Rattle.std.proofs.lemmas.Str.Parse.{IsNumeralModel, numerals_by_value, tells_all_ascii_digits}
use Rattle.std.specs.Str.{all_ascii_digits}
use Rattle.std.specs.Str.Parse.{IsNumeral, digits_value, without_leading_plus}
use Rattle.panels_film.specs.Numbers.{is_number, number_in, number_of}

abbrev digits_model : IsNumeralModel (λ ds. all_ascii_digits ds ≡ true) (digits_value 10)
digits_model = numerals_by_value _ tells_all_ascii_digits

-- a text of digits passes the test
is_number-from : (digits : List ℕ) → IsNumeral 10 digits → digits_value 10 digits < 2 ^ 64 → is_number digits ≡ true
is_number-from digits numeral small =
    let some : eqb (length digits) 0 ≡ false = ne_eqb (length digits) 0 (λ none. omega (arith, numeral.0)) in
    let low : ltb (digits_value 10 digits) (2 ^ 64) ≡ true = lt-ltb (digits_value 10 digits) (2 ^ 64) small in
    rw (some, digits_model.from digits numeral.1, low) refl

some_digits : (digits : List ℕ) → not (eqb (length digits) 0) ≡ true → 0 < length digits
some_digits [] h = absurd (false≢true h)
some_digits (digit ∷ digits) h = omega arith

-- what passes the test is a text of digits
is_number-to : (digits : List ℕ) → is_number digits ≡ true → IsNumeral 10 digits × (digits_value 10 digits < 2 ^ 64)
is_number-to digits is =
    let parts = and_parts _ _ is in
    let more = and_parts _ _ parts.1 in
    ((some_digits digits parts.0, digits_model.to digits more.0), ltb-true _ _ more.1)

pub number_parsed : (text : List ℕ) (n : ℕ) → (IsNumeral 10 (without_leading_plus text) × (digits_value 10 (without_leading_plus text) < 2 ^ 64)) × (n ≡ digits_value 10 (without_leading_plus text))
    → Some n ≡ number_in text
number_parsed text n parsed = rw (is_number-from (without_leading_plus text) parsed.0.0 parsed.0.1) (ap Some parsed.1)

pub number_refused : (text : List ℕ) → ¬ (IsNumeral 10 (without_leading_plus text) × (digits_value 10 (without_leading_plus text) < 2 ^ 64)) → None ≡ number_in text
number_refused text refused =
    ⊎_elim (λ is. absurd (refused (is_number-to (without_leading_plus text) is))) (λ isnt. rw isnt refl) (cases_Bool (is_number (without_leading_plus text)))
