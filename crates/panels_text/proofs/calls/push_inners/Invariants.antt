use Rattle.std.proofs.Common.{◌≡◌, ◌++◌, drop, map}
use Rattle.panels_text.specs.Roles.{texts_of}
use Rattle.panels_text.specs.Scripts.{inner_of_words, passage_of}
use Rattle.panels_text.proofs.calls.push_inners.Given as goal

-- what was added, and what is left, is all
abbrev pub invariant-loop-index : goal.invariant-loop-index
invariant-loop-index l = map passage_of l.bodies.items ++ inner_of_words (texts_of l.texts) l.index (passage_of l.outer) (drop l.index l.words) ≡ map passage_of l.initial.bodies.items ++ inner_of_words (texts_of l.texts) 0 (passage_of l.outer) l.words
