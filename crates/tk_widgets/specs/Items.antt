-- Meaning. The items of a listbox.
use Rattle.std.specs.Prelude.{ℕ, suc, false, List, [], ◌∷◌, map, if◌then◌else◌}
use Rattle.tk_widgets.specs.declared.items.Item.{Item}

-- what items say
abbrev pub texts : List Item → List (List ℕ)
texts items = map (λ item. item.text) items

-- items that were never selected
abbrev pub new_item : List ℕ → Item
new_item text = record { text = text; selected = false }

abbrev pub new_items : List (List ℕ) → List Item
new_items all = map new_item all

-- the places of those that are selected, where the first stands at a place
abbrev pub selected_from : ℕ → List Item → List ℕ
selected_from place [] = []
selected_from place (item ∷ items) = if item.selected then place ∷ selected_from (suc place) items else selected_from (suc place) items
