use Rattle.std.proofs.Common.{◌≡◌, length}
use Rattle.tcl_control.specs.Choices.{arm_for}
use Rattle.tcl_control.proofs.choices.arm_for.Given as goal

abbrev pub invariant-arms : goal.invariant-arms
invariant-arms l = arm_for l.matching l.value l.rest ≡ arm_for l.matching l.value l.arms

abbrev pub decreases-arms : goal.decreases-arms
decreases-arms l = length l.rest
