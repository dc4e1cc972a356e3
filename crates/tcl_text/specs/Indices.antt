-- Meaning. Indices of list(n) and string(n): an integer, `end` or `end-N`.
use Rattle.std.specs.Prelude.{ℕ, ◌+◌, ◌-◌, min, ℤ, pos, negsuc, Bool, false, not, ◌&&◌, nat_le, if◌then◌else◌, List, [], ◌∷◌, length, take, drop, slice_index, Option, Some, None, option_map, Result, Ok, codes}
use Rattle.std.specs.Str.{bytes_eq}
use Rattle.tcl_text.specs.Backslash.{is_white}
use Rattle.tcl_text.specs.Bytes.{digit_zero, digit_nine}
use Rattle.tcl_text.specs.Readings.{integer_of}
use Rattle.tcl_text.specs.Answers.{bad_index}
use Rattle.tcl_text.specs.declared.commands.indices.Index.{Index}
use Rattle.tcl_text.specs.declared.commands.indices.Index.TheVariants.{FromStart, FromEnd}

-- the number, or 0 where it is below
abbrev pub from_zero : ℤ → ℕ
from_zero (pos n) = n
from_zero (negsuc n) = 0

-- the text begins with a decimal digit and doesn't end with white space
abbrev pub stands_alone : List ℕ → Bool
stands_alone [] = false
stands_alone (c ∷ cs) = nat_le digit_zero c && (nat_le c digit_nine && not (is_white (slice_index (c ∷ cs) (length cs))))

-- the index so many places before the last, where the text spells an unsigned integer
abbrev pub index_from_end : List ℕ → Option Index
index_from_end text = if stands_alone text then option_map (λ n. FromEnd (from_zero n)) (integer_of text) else None

-- the index that the text spells, if any
unfoldable pub index_of : List ℕ → Option Index
index_of text =
    if bytes_eq text (codes "end") then Some (FromEnd 0)
    else (if not (bytes_eq (take 4 text) (codes "end-")) then option_map FromStart (integer_of text)
    else index_from_end (drop 4 text))

abbrev pub index_or_error : List ℕ → Option Index → Result Index (List ℕ)
index_or_error text (Some index) = Ok index
index_or_error text None = bad_index text

unfoldable pub index_in : List ℕ → Result Index (List ℕ)
index_in text = index_or_error text (index_of text)

-- how many of so many items stand before the index
abbrev pub before : Index → ℕ → ℕ
before (FromStart n) count = min (from_zero n) count
before (FromEnd n) count = count - 1 - n

-- and how many up to it and with it
abbrev pub through : Index → ℕ → ℕ
through (FromStart (pos n)) count = min (n + 1) count
through (FromStart (negsuc n)) count = 0
through (FromEnd n) count = count - n

-- how many stand before what is put in at the index, where `end` is behind the last
abbrev pub before_inserted : Index → ℕ → ℕ
before_inserted (FromStart n) count = min (from_zero n) count
before_inserted (FromEnd n) count = count - n

-- the items from the first index to the last, as far as they are there
abbrev pub part : {X : Type 0} → Index → Index → List X → List X
part first last items = drop (before first (length items)) (take (through last (length items)) items)
