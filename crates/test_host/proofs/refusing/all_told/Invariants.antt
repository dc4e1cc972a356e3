use Rattle.std.proofs.Common.{◌≢◌}
use Rattle.tk_host.specs.declared.phase.Phase.TheVariants.{Adding}
use Rattle.test_host.proofs.refusing.all_told.Given as goal

-- the host goes on
abbrev pub invariant-loop-call : goal.invariant-loop-call
invariant-loop-call g l = l.host.held.phase ≢ Adding
