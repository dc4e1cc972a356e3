use Rattle.std.proofs.Common.{◌≡◌, ◌++◌, drop, map, string_bytes}
use Rattle.panels_text.proofs.questions.copied.Given as goal

-- the copies, and what is left, are all
abbrev pub invariant-loop-word : goal.invariant-loop-word
invariant-loop-word l = map string_bytes l.copies.items ++ map string_bytes (drop l.word-index l.words) ≡ map string_bytes l.words
