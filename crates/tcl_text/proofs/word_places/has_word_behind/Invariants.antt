use Rattle.std.proofs.Common.{ℕ, ◌<◌, ◌≤◌}
use Rattle.tcl_text.specs.SearchSteps.{IsWordAt}
use Rattle.tcl_text.proofs.word_places.has_word_behind.Given as goal

abbrev pub invariant-loop-at : goal.invariant-loop-at
invariant-loop-at l = (at : ℕ) → l.from ≤ at → at < l.at → IsWordAt l.words l.item at → ⊥
