use Rattle.std.proofs.Common.{◌≡◌}
use Rattle.panels.specs.Words.{after}
use Rattle.panels.proofs.words.after.Given as goal

abbrev pub invariant-words : goal.invariant-words
invariant-words l = l.rest ≡ after l._skipped l.line
