use Rattle.std.proofs.Common.{◌≡◌, drop}
use Rattle.tk_patterns.specs.Copies.{all_copies}
use Rattle.tk_patterns.specs.Specific.{by_modifiers}
use Rattle.tk_patterns.proofs.candidate.by_modifiers.Given as goal

abbrev pub invariant-loop-place : goal.invariant-loop-place
invariant-loop-place l = by_modifiers (drop l.place (all_copies l.patterns)) (drop l.place (all_copies l.others)) ≡ by_modifiers (all_copies l.patterns) (all_copies l.others)
