-- Meaning. The words of `foreach`: lists of names, each with a list of items, and the items that are left behind an iteration.
use Rattle.std.specs.Prelude.{ℕ, ◌%◌, ◌==◌, nat_lt, Bool, List, [], ◌∷◌, length, drop, Option, Some, None, Result, Ok, Err, codes}
use Rattle.tcl_text.specs.Readings.{list_of}
use Rattle.tcl_text.specs.FaultTexts.{list_text}
use Rattle.tcl_text.specs.declared.fault.ListFault.{ListFault}
use Rattle.tcl_commands.specs.declared.groups.Group.{Group}
use Rattle.tcl_text.specs.Answers.{message}

abbrev pub group_named : List (List ℕ) → Result (List (List ℕ)) ListFault → Result Group (List ℕ)
group_named names (Ok items) = Ok (record { names = names; items = items })
group_named names (Err fault) = Err (message (list_text fault))

abbrev pub no_names_text : List ℕ
no_names_text = codes "foreach varlist is empty"

-- a list of names, which isn't empty, and a list of items
abbrev pub group_of : Result (List (List ℕ)) ListFault → Result (List (List ℕ)) ListFault → Result Group (List ℕ)
group_of (Ok []) items = Err no_names_text
group_of (Ok (name ∷ names)) items = group_named (name ∷ names) items
group_of (Err fault) items = Err (message (list_text fault))

abbrev pub behind_group : Result Group (List ℕ) → Result (List Group) (List ℕ) → Result (List Group) (List ℕ)
behind_group (Ok group) (Ok groups) = Ok (group ∷ groups)
behind_group (Ok group) (Err text) = Err text
behind_group (Err text) groups = Err text

-- names and items in turn, behind names or not
abbrev pub groups_from : Option (List ℕ) → List (List ℕ) → Result (List Group) (List ℕ)
groups_from None [] = Ok []
groups_from None (names ∷ words) = groups_from (Some names) words
groups_from (Some names) [] = Ok []
groups_from (Some names) (items ∷ words) = behind_group (group_of (list_of names) (list_of items)) (groups_from None words)

-- names and items in turn, up to a last word alone; or the first fault's text
unfoldable pub groups_of : List (List ℕ) → Result (List Group) (List ℕ)
groups_of words = groups_from None words

-- so many words have a body behind names and items
abbrev pub has_body : List (List ℕ) → Bool
has_body words = length words % 2 == 1

-- One iteration took its items: one for each name, or all that were left.
abbrev pub advanced : Group → Group
advanced group = record group { items = drop (length group.names) group.items }

-- there are items left
abbrev pub has_more : Group → Bool
has_more group = nat_lt 0 (length group.items)
