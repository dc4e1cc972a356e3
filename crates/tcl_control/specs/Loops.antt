-- Meaning. The tests of loops over lists.
use Rattle.std.specs.Prelude.{ℕ, Bool, true, false, List, map, if◌then◌else◌, Option, Some, None}
use Rattle.std.specs.List.{list_any}
use Rattle.tcl_commands.specs.Groups.{advanced, has_more}
use Rattle.tcl_commands.specs.declared.groups.Group.{Group}
use Rattle.tcl_control.specs.Assign.{Assigned, groups_assigned}
use Rattle.tcl_vars.specs.Store.{Store}

-- what a test comes to, and the variables then: another iteration, and the items that are left behind it; none; or an error's text
pub data Tested : Type 0 where
  More : Store → List Group → Tested
  NoMore : Store → Tested
  Fails : Store → List ℕ → Tested

abbrev pub by_assigned : List Group → Store → Option (List ℕ) → Tested
by_assigned groups store None = More store (map advanced groups)
by_assigned groups store (Some text) = Fails store text

abbrev pub after_assigned : List Group → Assigned → Tested
after_assigned groups assigned = by_assigned groups assigned.store assigned.refused

-- names are given their items, where some are left and variables are those of a level
abbrev pub items_tested : ℕ → List Group → Store → Tested
items_tested frame groups store = if list_any has_more groups then after_assigned groups (groups_assigned frame groups store) else NoMore store
