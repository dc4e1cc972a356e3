use Rattle.std.proofs.Common.{◌≡◌, ◌++◌, drop, map}
use Rattle.panels_text.specs.Scripts.{inner_of_cases, passage_of}
use Rattle.panels_text.proofs.calls.push_cases.Given as goal

-- what was added, and what is left, is all
abbrev pub invariant-loop-index : goal.invariant-loop-index
invariant-loop-index l = map passage_of l.bodies.items ++ inner_of_cases l.index (passage_of l.outer) (drop l.index l.words) ≡ map passage_of l.initial.bodies.items ++ inner_of_cases 0 (passage_of l.outer) l.words
