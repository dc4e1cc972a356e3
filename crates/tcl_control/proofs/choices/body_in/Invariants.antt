use Rattle.std.proofs.Common.{◌≡◌, ◌+◌, ◌-◌, ◌≤◌, drop}
use Rattle.tcl_control.specs.Arms.{paired}
use Rattle.tcl_control.specs.Choices.{body_of}
use Rattle.tcl_control.proofs.choices.body_in.Given as goal

abbrev pub invariant-arms : goal.invariant-arms
invariant-arms l = record {
  same : body_of (paired (drop (l.arm + l.arm) l.list)) ≡ body_of (paired (drop (l.from + l.from) l.list));
  within : l.arm ≤ l.count;
}

abbrev pub decreases-arms : goal.decreases-arms
decreases-arms l = l.count - l.arm
