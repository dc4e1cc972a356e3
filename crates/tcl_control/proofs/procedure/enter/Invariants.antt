use Rattle.std.proofs.Common.{◌≡◌, length}
use Rattle.tcl_control.specs.Procedures.{entered}
use Rattle.tcl_control.proofs.procedure.enter.Given as goal

abbrev pub invariant-parameters : goal.invariant-parameters
invariant-parameters l = record {
  same : entered l.frame l.left l.rest l.scopes ≡ entered l.frame l.parameters l.words l.fn.scopes;
  levels : length l.scopes ≡ length l.fn.scopes;
}

abbrev pub decreases-parameters : goal.decreases-parameters
decreases-parameters l = length l.left
