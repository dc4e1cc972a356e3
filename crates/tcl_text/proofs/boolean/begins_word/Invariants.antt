use Rattle.std.proofs.Common.{◌≡◌, length}
use Rattle.tcl_text.specs.Readings.{begins_word}
use Rattle.tcl_text.proofs.boolean.begins_word.Given as goal

-- what is left of the text begins what is left of the word where the whole text begins the whole word
abbrev pub invariant-loop-first : goal.invariant-loop-first
invariant-loop-first l = begins_word l.text l.word ≡ begins_word l.fn.text l.fn.word

abbrev pub decreases-loop-first : goal.decreases-loop-first
decreases-loop-first l = length l.text
