use Rattle.std.proofs.Common.{[], drop, map}
use Rattle.panels_bench.proofs.ValueLemmas.{Left}
use Rattle.panels_bench.specs.Gestures.{held_for}
use Rattle.panels_bench.specs.Values.{all_said}
use Rattle.panels_bench.proofs.typing.held_for.Given as goal

-- the keys so far, and those of what is left, are all
abbrev pub invariant-loop-word : goal.invariant-loop-word
invariant-loop-word l = Left l.held.items (all_said (map (λ word. held_for word.now) (drop l.word-index l.words))) [] (all_said (map (λ word. held_for word.now) l.words))
