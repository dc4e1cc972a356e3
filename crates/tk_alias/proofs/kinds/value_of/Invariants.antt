use Rattle.std.proofs.Common.{◌≡◌, length}
use Rattle.tk_alias.specs.Services as spec
use Rattle.tk_alias.proofs.kinds.value_of.Given as goal

abbrev pub invariant-loop-rest : goal.invariant-loop-rest
invariant-loop-rest l = spec.value_of l.key l.rest ≡ spec.value_of l.key l.items

abbrev pub decreases-loop-rest : goal.decreases-loop-rest
decreases-loop-rest l = length l.rest
