use Rattle.std.proofs.Common.{◌≡◌, length}
use Rattle.tk_patterns.specs.Same.{same_patterns}
use Rattle.tk_patterns.proofs.same.same_patterns.Given as goal

abbrev pub invariant-loop-pattern : goal.invariant-loop-pattern
invariant-loop-pattern l = same_patterns l.rest l.other_rest ≡ same_patterns l.patterns l.others

abbrev pub decreases-loop-pattern : goal.decreases-loop-pattern
decreases-loop-pattern l = length l.rest
