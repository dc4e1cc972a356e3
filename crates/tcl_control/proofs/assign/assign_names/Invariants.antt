use Rattle.std.proofs.Common.{◌≡◌, length, drop}
use Rattle.tcl_control.specs.Assign.{assigned}
use Rattle.tcl_control.proofs.assign.assign_names.Given as goal

abbrev pub invariant-loop-name : goal.invariant-loop-name
invariant-loop-name l = record {
  same : assigned l.frame (drop l.name-index l.names) l.items l.scopes ≡ assigned l.frame l.names l.fn.items l.fn.scopes;
  left : l.items ≡ drop l.name-index l.fn.items;
  levels : length l.scopes ≡ length l.fn.scopes;
}
