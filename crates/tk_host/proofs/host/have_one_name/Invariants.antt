use Rattle.std.proofs.Common.{◌≡◌, length}
use Rattle.tk_host.specs.Spec.{have_one_name}
use Rattle.tk_host.proofs.host.have_one_name.Given as goal

-- what is left decides
abbrev pub invariant-loop-rest : goal.invariant-loop-rest
invariant-loop-rest g l = have_one_name l.rest ≡ have_one_name l.fn.aliases

abbrev pub decreases-loop-rest : goal.decreases-loop-rest
decreases-loop-rest g l = length l.rest
