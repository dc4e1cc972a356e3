use Rattle.std.proofs.Common.{◌≡◌, ◌++◌, length, map, take, drop}
use Rattle.tcl_commands.specs.Groups.{advanced}
use Rattle.tcl_control.specs.Assign.{groups_assigned}
use Rattle.tcl_control.proofs.assign.assign_groups.Given as goal

-- those before the place have given their items, and the others are as they were
abbrev pub invariant-loop-group : goal.invariant-loop-group
invariant-loop-group l = record {
  same : groups_assigned l.frame (drop l.group-index l.fn.groups) l.scopes ≡ groups_assigned l.frame l.fn.groups l.fn.scopes;
  left : l.groups ≡ map advanced (take l.group-index l.fn.groups) ++ drop l.group-index l.fn.groups;
  levels : length l.scopes ≡ length l.fn.scopes;
}
