-- Meaning. A listbox of listbox(n): its items, and what its commands make of them. Places count from 0.
use Rattle.std.specs.Prelude.{ℕ, ◌+◌, ◌-◌, ◌/◌, min, max, ℤ, Bool, not, ◌&&◌, ◌||◌, ◌==◌, nat_le, nat_lt, if◌then◌else◌, List, [], ◌∷◌, ◌++◌, length, map, take, drop}
use Rattle.std.specs.List.{enumerate_from, list_any}
use Rattle.tcl_text.specs.Indices.{from_zero}
use Rattle.tk_widgets.specs.Items.{new_items}
use Rattle.tk_widgets.specs.declared.items.Item.{Item}
use Rattle.tk_widgets.specs.declared.choice.Choice.{Choice}
use Rattle.tk_widgets.specs.declared.choice.Choice.TheVariants.{Set, Clear, Alone, Toggle}

-- items, and the place of the active one
pub record ListboxState : Type 0 where
  pub items : List Item
  pub active : ℕ

-- the items from a place on and before another
abbrev pub part : ℕ → ℕ → List Item → List Item
part from to items = drop from (take to items)

-- `insert index text ..`: new items stand before the one at a place; the active one, if there is one, stays active
abbrev pub active_inserted : ℕ → ℕ → ℕ → ℕ → ℕ
active_inserted at count size active = if nat_lt active size && nat_le at active then active + count else active

abbrev pub inserted : ℕ → List (List ℕ) → ListboxState → ListboxState
inserted at new box = record {
  items = take at box.items ++ (new_items new ++ drop at box.items);
  active = active_inserted at (length new) (length box.items) box.active;
}

-- `delete first last`: those from a place on and before another are gone. The active one stays active; if it is gone, the one at the
-- first deleted place is then, or else the last
abbrev pub active_deleted : ℕ → ℕ → ℕ → ℕ
active_deleted from to active = if nat_le to active then active - (to - from) else min active from

abbrev pub kept : ℕ → ℕ → List Item → List Item
kept from to items = take from items ++ drop (max from to) items

abbrev pub deleted : ℕ → ℕ → ListboxState → ListboxState
deleted from to box = record {
  items = kept from to box.items;
  active = min (active_deleted from to box.active) (length (kept from to box.items) - 1);
}

-- `activate index`: the item at a place, or the last
abbrev pub activated : ℕ → ListboxState → ListboxState
activated place box = record box { active = min place (length box.items - 1) }

-- whether the item at a place is selected after a choice
abbrev pub is_between : ℕ → ℕ → ℕ → Bool
is_between from to place = nat_le from place && nat_lt place to

abbrev pub choice : Choice → ℕ → Bool → Bool
choice (Set from to) place was = is_between from to place || was
choice (Clear from to) place was = not (is_between from to place) && was
choice (Alone only) place was = place == only
choice (Toggle only) place was = if place == only then not was else was

-- an item after it, with its place
abbrev pub chosen : Choice → ℕ × Item → Item
chosen how numbered = record numbered.1 { selected = choice how numbered.0 numbered.1.selected }

-- the items after it
abbrev pub selected_by : Choice → List Item → List Item
selected_by how items = map (chosen how) (enumerate_from 0 items)

abbrev pub selected : Choice → ListboxState → ListboxState
selected how box = record box { items = selected_by how box.items }

-- whether some of them are selected
abbrev pub has_selected : List Item → Bool
has_selected items = list_any (λ item. item.selected) items

-- the place of the row of 16 pixels at a height, inside a border, cut to the items
abbrev pub row_at : ℤ → ℕ → ℕ → ℕ
row_at y border size = min ((from_zero y - border) / 16) (size - 1)
