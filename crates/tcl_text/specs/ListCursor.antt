-- Steps. A place of a text from which on it is a list, and what taking an item leaves.
use Rattle.std.specs.Prelude.{◌≡◌, ℕ, ◌<◌, ◌≤◌, IsUtf8, false, List, [], ◌∷◌, drop, length, slice_index, Option, Some, None, Ok}
use Rattle.tcl_text.specs.Backslash.{is_white}
use Rattle.tcl_text.specs.ListString.{items_kept}
use Rattle.tcl_text.specs.Readings.{list_of}

-- from this place on the text is a list, and no white space stands there
pub record IsListFrom (text : List ℕ) (place : ℕ) : Type 0 where
  pub within : place ≤ length text
  pub utf8 : IsUtf8 (drop place text)
  pub read : list_of (drop place text) ≡ Ok (items_kept (drop place text))
  pub black : 0 < length (drop place text) → is_white (slice_index (drop place text) 0) ≡ false

-- the first item is taken, if there is one
abbrev pub TakesFirst : List (List ℕ) → Option (List ℕ) → List (List ℕ) → Type 0
TakesFirst old (Some item) new = old ≡ item ∷ new
TakesFirst old None new = (old ≡ []) × (new ≡ [])
