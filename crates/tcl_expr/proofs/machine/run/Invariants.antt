use Rattle.std.proofs.Common.{◌≡◌, ◌≤◌, ◌-◌, length, drop}
use Rattle.tcl_expr.specs.Steps.{execute}
use Rattle.tcl_expr.proofs.machine.run.Given as goal

abbrev pub invariant-loop-place : goal.invariant-loop-place
invariant-loop-place l = record {
  on : l.start ≤ l.place;
  runs : execute 0 (drop l.place l.steps) l.stack ≡ execute 0 (drop l.start l.steps) l.initial.stack;
}

abbrev pub decreases-loop-place : goal.decreases-loop-place
decreases-loop-place l = length l.steps - l.place
