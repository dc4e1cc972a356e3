use Rattle.std.proofs.Common.{◌≡◌, ◌++◌, length, map}
use Rattle.std.specs.Prelude.{filter}
use Rattle.panels.specs.Words.{has_word, lines_of}
use Rattle.panels.proofs.words.lines_with.Given as goal

abbrev pub decreases-loop-rest : goal.decreases-loop-rest
decreases-loop-rest l = length l.rest

-- those that were found, and those that are left, are all
abbrev pub invariant-loop-rest : goal.invariant-loop-rest
invariant-loop-rest l = map (λ line. line.now) l.lines.items ++ filter (has_word l.first) (lines_of l.rest) ≡ filter (has_word l.first) (lines_of l.text)
