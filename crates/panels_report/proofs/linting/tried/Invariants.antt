use Rattle.std.proofs.Common.{drop}
use Rattle.panels_report.proofs.Questioned.{AreTriedSoFar}
use Rattle.panels_text.specs.Refusals.{words_asked}
use Rattle.panels_text.specs.Words.{words_of}
use Rattle.panels_report.proofs.linting.tried.Given as goal

abbrev pub invariant-loop-other : goal.invariant-loop-other
invariant-loop-other l = AreTriedSoFar l.number (words_asked l.question) (l.part, l.index) (words_of l.words) (words_of (drop l.other-index l.words)) l.found.items
