use Rattle.std.proofs.Common.{◌≡◌, ◌++◌, drop}
use Rattle.panels_text.specs.Meant.{likely_in, plain}
use Rattle.panels_text.specs.Words.{words_of}
use Rattle.panels_text.proofs.meant.take_all.Given as goal

-- what was found, and what is found in what is left, is all
abbrev pub invariant-loop-candidate : goal.invariant-loop-candidate
invariant-loop-candidate l = plain l.found.items ++ likely_in l.word (words_of (drop l.candidate-index l.candidates)) ≡ plain l.initial.found.items ++ likely_in l.word (words_of l.candidates)
