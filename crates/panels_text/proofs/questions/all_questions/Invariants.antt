use Rattle.std.proofs.Common.{◌≡◌, ◌++◌, drop, map, string_bytes}
use Rattle.std.specs.Prelude.{flat_map}
use Rattle.panels_text.specs.Asking.{asks, questions_of_call, window}
use Rattle.panels_text.specs.Scripts.{said}
use Rattle.panels_text.proofs.questions.all_questions.Given as goal

-- what was added, and what is left, is all
abbrev pub invariant-loop-call : goal.invariant-loop-call
invariant-loop-call l = map asks l.questions.items ++ flat_map (questions_of_call (map string_bytes l.procedures) (map window l.windows)) (map said (drop l.call-index l.calls)) ≡ flat_map (questions_of_call (map string_bytes l.procedures) (map window l.windows)) (map said l.calls)
