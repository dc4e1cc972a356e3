use Rattle.std.proofs.Common.{◌≡◌, ◌++◌, drop, map, string_bytes}
use Rattle.panels_text.specs.Words.{words_of}
use Rattle.panels_text.proofs.questions.copies.Given as goal

-- the copies, and what is left, are all
abbrev pub invariant-loop-word : goal.invariant-loop-word
invariant-loop-word l = map string_bytes l.copies.items ++ words_of (drop l.word-index l.words) ≡ words_of l.words
