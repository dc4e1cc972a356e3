use Rattle.std.proofs.Common.{◌≡◌, length}
use Rattle.tk_host.specs.Spec.{is_served}
use Rattle.tk_host.proofs.host.is_served.Given as goal

-- what is left decides
abbrev pub invariant-loop-rest : goal.invariant-loop-rest
invariant-loop-rest g l = is_served l.name l.rest ≡ is_served l.name l.fn.aliases

abbrev pub decreases-loop-rest : goal.decreases-loop-rest
decreases-loop-rest g l = length l.rest
