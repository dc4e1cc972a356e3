-- Steps. How many bytes in front of a text are those of a number.
use Rattle.std.specs.Prelude.{ℕ, zero, suc, ◌+◌, ◌==◌, nat_lt, if◌then◌else◌, List, [], ◌∷◌, Option, Some, None}
use Rattle.std.specs.Char.{digit_value}
use Rattle.tcl_text.specs.Bytes.{digit_zero}
use Rattle.tcl_text.specs.Readings.{base_named}

-- how many digits of a base stand in front
abbrev pub digits : ℕ → List ℕ → ℕ
digits base [] = 0
digits base (b ∷ text) = if nat_lt (digit_value b) base then suc (digits base text) else 0

-- `0` and the letter of a base with at least one digit, or else octal digits
abbrev pub based_or : List ℕ → ℕ → ℕ
based_or text zero = suc (digits 8 text)
based_or text (suc n) = suc n + 2

abbrev pub past_zero_by : Option ℕ → List ℕ → List ℕ → ℕ
past_zero_by (Some base) text behind = based_or text (digits base behind)
past_zero_by None text behind = suc (digits 8 text)

abbrev pub past_zero : List ℕ → ℕ
past_zero [] = 1
past_zero (b ∷ behind) = past_zero_by (base_named b) (b ∷ behind) behind

-- how long the number in front of a text is that begins with a digit: as long as can be
abbrev pub number_length : List ℕ → ℕ
number_length [] = 0
number_length (b ∷ text) = if b == digit_zero then past_zero text else digits 10 (b ∷ text)
