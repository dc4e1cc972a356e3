use Rattle.std.proofs.Common.{◌≡◌, drop}
use Rattle.tcl_control.specs.Choices.{body_of}
use Rattle.tcl_control.proofs.choices.body_of.Given as goal

abbrev pub invariant-loop-arm : goal.invariant-loop-arm
invariant-loop-arm l = body_of (drop l.arm-index l.arms) ≡ body_of l.arms
