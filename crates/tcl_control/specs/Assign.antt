-- Meaning. Variables that are set one after another.
use Rattle.std.specs.Prelude.{ℕ, List, [], ◌∷◌, drop, Option, Some, None, Result, Ok, Err}
use Rattle.tcl_vars.specs.Store.{Store, with_variable}
use Rattle.tcl_text.specs.declared.fault.SetFault.{SetFault}
use Rattle.tcl_commands.specs.declared.groups.Group.{Group}
use Rattle.tcl_table.specs.Texts.{cannot_set_text}

-- the variables then, and the text of the first refusal, which leaves what was set before
pub record Assigned : Type 0 where
  pub store : Store
  pub refused : Option (List ℕ)

abbrev pub done : Store → Assigned
done store = record { store = store; refused = None }

abbrev pub on_set : List ℕ → Store → (Store → Assigned) → Result Store SetFault → Assigned
on_set name store rest (Ok changed) = rest changed
on_set name store rest (Err fault) = record { store = store; refused = Some (cannot_set_text name fault) }

abbrev pub first_item : List (List ℕ) → List ℕ
first_item [] = []
first_item (item ∷ items) = item

-- names are given items in turn; missing items are empty
abbrev pub assigned : ℕ → List (List ℕ) → List (List ℕ) → Store → Assigned
assigned frame [] items store = done store
assigned frame (name ∷ names) items store = on_set name store (assigned frame names (drop 1 items)) (with_variable store frame name (first_item items))

abbrev pub behind_assigned : (Store → Assigned) → Assigned → Option (List ℕ) → Assigned
behind_assigned rest assigned None = rest assigned.store
behind_assigned rest assigned (Some text) = assigned

abbrev pub on_assigned : (Store → Assigned) → Assigned → Assigned
on_assigned rest assigned = behind_assigned rest assigned assigned.refused

-- the names of groups are given the first of the items that are left
abbrev pub groups_assigned : ℕ → List Group → Store → Assigned
groups_assigned frame [] store = done store
groups_assigned frame (group ∷ groups) store = on_assigned (groups_assigned frame groups) (assigned frame group.names group.items store)
