-- Meaning. Indices of listbox(n): an integer, `active` or `end`. They are cut to what there is.
use Rattle.std.specs.Prelude.{ℕ, ◌+◌, ◌-◌, min, ℤ, pos, negsuc, if◌then◌else◌, List, Option, Some, option_map, codes}
use Rattle.std.specs.Str.{bytes_eq}
use Rattle.tcl_text.specs.Indices.{from_zero}
use Rattle.tcl_text.specs.Readings.{integer_of}
use Rattle.tk_widgets.specs.declared.item_index.ItemIndex.{ItemIndex}
use Rattle.tk_widgets.specs.declared.item_index.ItemIndex.TheVariants.{Number, Active, End}

abbrev pub number_in : List ℕ → Option ItemIndex
number_in word = option_map Number (integer_of word)

unfoldable pub index_in : List ℕ → Option ItemIndex
index_in word =
    if bytes_eq word (codes "active") then Some Active
    else (if bytes_eq word (codes "end") then Some End
    else number_in word)

-- how many items stand up to the one of a number and with it
abbrev pub through_number : ℤ → ℕ
through_number (pos n) = n + 1
through_number (negsuc n) = 0

-- how many of so many items stand before an index, where one is active
abbrev pub before : ItemIndex → ℕ → ℕ → ℕ
before (Number n) size active = min (from_zero n) size
before Active size active = active
before End size active = size - 1

-- how many of them stand up to it and with it
abbrev pub through : ItemIndex → ℕ → ℕ → ℕ
through (Number n) size active = min (through_number n) size
through Active size active = min (active + 1) size
through End size active = size

-- how many of them stand before what is inserted at it, where `end` is behind the last
abbrev pub before_inserted : ItemIndex → ℕ → ℕ → ℕ
before_inserted (Number n) size active = min (from_zero n) size
before_inserted Active size active = active
before_inserted End size active = size
