-- A written integer reads as itself.
use Rattle.std.proofs.Common.{◌≡◌, ℕ, zero, suc, ◌^◌, ◌<◌, ◌≤◌, true, false, List, [], ◌∷◌, get_or, Some, refl, arith, sym, ap, subst, inr, ◌∙◌, append-nil, ℤ, pos, negsuc}
use Rattle.std.specs.Prelude.{FitsSigned}
use Rattle.std.specs.Fmt.{decimal, signed_decimal}
use Rattle.std.specs.Int.{w64}
use Rattle.std.specs.Str.Parse as parse
use Rattle.std.proofs.lemmas.Bool.{ne_eqb, lt-ltb, le-leb}
use Rattle.std.proofs.lemmas.Fmt.{decimal_is_IsNumeral, decimal_digit, first_decimal}
use Rattle.tcl_text.specs.Readings.{IsInteger, IsNumeral, integer_of}
use Rattle.tcl_text.proofs.IntegerReading.{integer_of-from_IsInteger}

-- digits that don't begin with 0 are a decimal numeral
decimal_numeral : (digits : List ℕ) (n : ℕ) → 48 < get_or digits 0 0 → parse.IsNumeral 10 digits → parse.digits_value 10 digits ≡ n → IsNumeral digits n
decimal_numeral [] n first h value = absurd (omega arith)
decimal_numeral (d ∷ ds) n first h value =
    record {
      base = 10;
      opening = [];
      digits = d ∷ ds;
      cut = refl;
      opened = rw (ne_eqb d 48 (λ is. omega arith)) refl;
      some = λ e. cc;
      each = h.1;
      valued = sym value;
    }

decimal_reads : (n : ℕ) → n < 2 ^ 64 → IsNumeral (decimal n) n
decimal_reads zero small = subst (λ text. IsNumeral text 0) (sym (decimal_digit 0 (omega arith))) (record {
  base = 8;
  opening = [];
  digits = 48 ∷ [];
  cut = refl;
  opened = refl;
  some = λ e. cc;
  each = (omega arith, tt);
  valued = refl;
})
decimal_reads (suc n) small =
    let h = decimal_is_IsNumeral (suc n) small in
    decimal_numeral (decimal (suc n)) (suc n) (first_decimal (suc n) (omega arith) small) h.0 h.1

pub signed_decimal_reads : (n : ℤ) → FitsSigned w64 n → IsInteger (signed_decimal n) n
signed_decimal_reads (pos n) fits =
    let small : n < 2 ^ 63 = omega arith in
    record {
      before = [];
      sign = [];
      numeral = decimal n;
      after = [];
      negative = false;
      magnitude = n;
      cut = sym (append-nil (decimal n));
      blank_before = refl;
      blank_after = refl;
      signs = refl;
      spells = decimal_reads n (omega arith);
      valued = rw (lt-ltb n (2 ^ 63) small) refl;
    }
signed_decimal_reads (negsuc n) fits =
    let small : suc n ≤ 2 ^ 63 = omega arith in
    record {
      before = [];
      sign = 45 ∷ [];
      numeral = decimal (suc n);
      after = [];
      negative = true;
      magnitude = suc n;
      cut = ap (λ xs. 45 ∷ xs) (sym (append-nil (decimal (suc n))));
      blank_before = refl;
      blank_after = refl;
      signs = inr (refl, refl);
      spells = decimal_reads (suc n) (omega arith);
      valued = rw (le-leb (suc n) (2 ^ 63) small) refl;
    }

-- so it is the integer that is read in its digits
pub written_integer : (text : List ℕ) (n : ℤ) → text ≡ signed_decimal n → FitsSigned w64 n → integer_of text ≡ Some n
written_integer text n is fits = ap integer_of is ∙ integer_of-from_IsInteger (signed_decimal n) n (signed_decimal_reads n fits)
