use Rattle.std.proofs.Common.{◌≡◌, length, fold}
use Rattle.tk_patterns.specs.Filing.{with_pattern}
use Rattle.tk_patterns.proofs.filing.patterns_number.Given as goal

abbrev pub invariant-loop-pattern : goal.invariant-loop-pattern
invariant-loop-pattern l = fold with_pattern l.number l.rest ≡ fold with_pattern 0 l.patterns

abbrev pub decreases-loop-pattern : goal.decreases-loop-pattern
decreases-loop-pattern l = length l.rest
