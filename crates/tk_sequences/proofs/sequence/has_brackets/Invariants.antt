use Rattle.std.proofs.Common.{◌≡◌, length}
use Rattle.tk_sequences.specs.Reading.{has_brackets}
use Rattle.tk_sequences.proofs.sequence.has_brackets.Given as goal

abbrev pub invariant-loop-rest : goal.invariant-loop-rest
invariant-loop-rest l = has_brackets l.rest ≡ has_brackets l.text

abbrev pub decreases-loop-rest : goal.decreases-loop-rest
decreases-loop-rest l = length l.rest
