use Rattle.std.proofs.Common.{◌≡◌, ◌+◌, ◌-◌, ◌≤◌, drop}
use Rattle.tcl_control.specs.Arms.{paired}
use Rattle.tcl_control.specs.Choices.{arm_for}
use Rattle.tcl_control.proofs.choices.arm_in.Given as goal

abbrev pub invariant-arms : goal.invariant-arms
invariant-arms l = record {
  same : arm_for l.matching l.value (paired (drop (l.arm + l.arm) l.list)) ≡ arm_for l.matching l.value (paired l.list);
  within : l.arm ≤ l.count;
}

abbrev pub decreases-arms : goal.decreases-arms
decreases-arms l = l.count - l.arm
