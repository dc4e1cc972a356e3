use Rattle.std.proofs.Common.{◌≢◌}
use Rattle.tk_host.specs.declared.phase.Phase.TheVariants.{Adding}
use Rattle.test_host.proofs.calls.go_on.Given as goal

-- the host goes on
abbrev pub invariant-loop-place : goal.invariant-loop-place
invariant-loop-place l = l.host.held.phase ≢ Adding
