use Rattle.std.proofs.Common.{◌≡◌, ◌++◌, length, map}
use Rattle.panels.specs.Verdict.{sections_from, sections_in}
use Rattle.panels.specs.Words.{lines_of}
use Rattle.panels.proofs.verdict.sections_of.Given as goal

abbrev pub decreases-loop-rest : goal.decreases-loop-rest
decreases-loop-rest l = length l.rest

-- those that were cut out, and those of what is left, are all
abbrev pub invariant-loop-rest : goal.invariant-loop-rest
invariant-loop-rest l = map (λ section. section.items) l.sections.items ++ sections_from l.section.items (lines_of l.rest) ≡ sections_in l.output
