use Rattle.std.proofs.Common.{◌≡◌, drop, map, string_bytes}
use Rattle.panels_text.specs.Refusals.{number_with, words_asked}
use Rattle.panels_text.proofs.refusals.index_of.Given as goal

-- none before has it
abbrev pub invariant-loop-index : goal.invariant-loop-index
invariant-loop-index l = number_with l.index l.first l.wanted (map string_bytes (drop l.index l.question.words.items)) ≡ number_with 0 l.first l.wanted (words_asked l.question)
