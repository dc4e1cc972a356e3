-- Steps. The list of all items that is kept beside them.
use Rattle.std.specs.Prelude.{◌≡◌, ℕ, ◌-◌, ◌<◌, ◌≤◌, List, ◌++◌, length}
use Rattle.tcl_text.specs.Readings.{list_form}
use Rattle.tk_widgets.specs.Items.{texts}
use Rattle.tk_widgets.specs.declared.items.Item.{Item}
use Rattle.tcl_text.specs.Limits.{most_bytes}

-- what is kept is the list of all items, and the active place is that of an item, or 0 where there is none
pub record IsKept (items : List Item) (list : List ℕ) (active : ℕ) : Type 0 where
  pub list_is : list ≡ list_form (texts items)
  pub active_is : active ≤ length items - 1

-- a list with more elements behind it, and one that has no room for them
abbrev pub IsLengthened : List (List ℕ) → List ℕ → List ℕ → Type 0
IsLengthened more old new = (all : List (List ℕ)) → old ≡ list_form all → (new ≡ list_form (all ++ more)) × (length (list_form (all ++ more)) ≤ most_bytes)

abbrev pub IsFull : List (List ℕ) → List ℕ → Type 0
IsFull more old = (all : List (List ℕ)) → old ≡ list_form all → most_bytes < length (list_form (all ++ more))
