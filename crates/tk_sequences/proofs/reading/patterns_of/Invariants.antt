use Rattle.std.proofs.Common.{length}
use Rattle.tk_sequences.proofs.PieceLemmas.{IsRead}
use Rattle.tk_sequences.proofs.reading.patterns_of.Given as goal

abbrev pub invariant-loop-rest : goal.invariant-loop-rest
invariant-loop-rest l = IsRead l.whole l.patterns.items l.room l.rest

abbrev pub decreases-loop-rest : goal.decreases-loop-rest
decreases-loop-rest l = length l.rest
