use Rattle.std.proofs.Common.{◌≡◌, length, fold}
use Rattle.tk_patterns.specs.Filing.{mixed}
use Rattle.tk_patterns.proofs.filing.filing_number.Given as goal

abbrev pub invariant-loop-byte : goal.invariant-loop-byte
invariant-loop-byte l = fold mixed l.number l.rest ≡ fold mixed l.class l.tag

abbrev pub decreases-loop-byte : goal.decreases-loop-byte
decreases-loop-byte l = length l.rest
