use Rattle.std.proofs.Common.{◌≡◌, length, drop}
use Rattle.tcl_control.specs.Assign.{assigned}
use Rattle.tcl_control.proofs.assign.assign_read.Given as goal

-- the names that are left give the items that are left what all names give all items
abbrev pub invariant-loop-rest : goal.invariant-loop-rest
invariant-loop-rest l = record {
  same : assigned l.frame l.rest l.items l.scopes ≡ assigned l.frame l.fn.names l.fn.items l.fn.scopes;
  left : drop (length l.rest) l.items ≡ drop (length l.fn.names) l.fn.items;
  levels : length l.scopes ≡ length l.fn.scopes;
}

abbrev pub decreases-loop-rest : goal.decreases-loop-rest
decreases-loop-rest l = length l.rest
