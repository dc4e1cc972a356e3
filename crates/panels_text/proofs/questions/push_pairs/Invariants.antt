use Rattle.std.proofs.Common.{◌≡◌, ◌++◌, ◌-◌, drop, length, map, string_bytes}
use Rattle.panels_text.specs.Asking.{asks, pairs}
use Rattle.panels_text.specs.Roles.{texts_of}
use Rattle.panels_text.specs.Scripts.{said}
use Rattle.panels_text.proofs.questions.push_pairs.Given as goal

-- what was added, and what is left, is all
abbrev pub invariant-loop-place : goal.invariant-loop-place
invariant-loop-place l = map asks l.questions.items ++ pairs (said l.call) (map string_bytes l.front) (drop l.place (texts_of l.call.words.items)) ≡ map asks l.initial.questions.items ++ pairs (said l.call) (map string_bytes l.front) (drop l.at (texts_of l.call.words.items))

abbrev pub decreases-loop-place : goal.decreases-loop-place
decreases-loop-place l = length l.call.words.items - l.place
