use Rattle.std.proofs.Common.{◌≡◌, ◌+◌, drop}
use Rattle.tk_sequences.specs.Patterns.{count_of}
use Rattle.tk_patterns.proofs.copies.count_of.Given as goal

abbrev pub invariant-loop-pattern : goal.invariant-loop-pattern
invariant-loop-pattern l = l.count + count_of (drop l.pattern-index l.patterns) ≡ count_of l.patterns
