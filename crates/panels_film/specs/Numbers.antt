-- Meaning. Whole numbers as texts spell them.
use Rattle.std.specs.Prelude.{ℕ, Bool, not, ◌==◌, ◌&&◌, ◌^◌, nat_lt, if◌then◌else◌, List, length, Option, Some, None}
use Rattle.std.specs.Str.{all_ascii_digits}
use Rattle.std.specs.Str.Parse.{digits_value, without_leading_plus}

-- digits alone, one or more, that spell a number of 64 bits
abbrev pub is_number : List ℕ → Bool
is_number digits = not (length digits == 0) && (all_ascii_digits digits && nat_lt (digits_value 10 digits) (2 ^ 64))

abbrev pub number_of : List ℕ → Option ℕ
number_of digits = if is_number digits then Some (digits_value 10 digits) else None

-- the number that a text spells, with a plus in front or none
abbrev pub number_in : List ℕ → Option ℕ
number_in text = number_of (without_leading_plus text)
