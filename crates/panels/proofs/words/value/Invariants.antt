use Rattle.std.proofs.Common.{◌≡◌, drop}
use Rattle.panels.specs.Words.{value_behind}
use Rattle.panels.proofs.words.value.Given as goal

abbrev pub invariant-loop-digit : goal.invariant-loop-digit
invariant-loop-digit l = value_behind l.number (drop l.digit-index l.digits) ≡ value_behind 0 l.digits
