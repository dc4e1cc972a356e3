-- Steps. A list as it is kept: the string of its form, with a blank before each item's form, and where each item's form ends.
use Rattle.std.specs.Prelude.{◌≡◌, ℕ, ◌+◌, ◌≤◌, List, [], ◌∷◌, length, Result, Ok, Err}
use Rattle.tcl_text.specs.ListForm.{others_form}
use Rattle.tcl_text.specs.Limits.{most_string}
use Rattle.tcl_text.specs.Readings.{element_form, list_of}
use Rattle.tcl_text.specs.declared.fault.ListFault.{ListFault}

-- where the form of each item ends, behind a place
abbrev pub ends_behind : ℕ → List (List ℕ) → List ℕ
ends_behind place [] = []
ends_behind place (x ∷ xs) = (place + 1 + length (element_form x)) ∷ ends_behind (place + 1 + length (element_form x)) xs

-- the items of what is read as a list
abbrev pub items_read : Result (List (List ℕ)) ListFault → List (List ℕ)
items_read (Ok items) = items
items_read (Err fault) = []

-- and of a string
abbrev pub items_kept : List ℕ → List (List ℕ)
items_kept string = items_read (list_of string)

-- a string and places keep these items
pub record KeepsList (string ends : List ℕ) (items : List (List ℕ)) : Type 0 where
  pub forms : string ≡ others_form items
  pub places : ends ≡ ends_behind 0 items
  pub short : length string ≤ most_string

-- the places are where the forms of items end, of which those behind another place end soon enough
pub record AreEnds (from to : ℕ) (ends : List ℕ) : Type 0 where
  pub items : List (List ℕ)
  pub places : ends ≡ ends_behind from items
  pub short : to + length (others_form items) ≤ most_string
