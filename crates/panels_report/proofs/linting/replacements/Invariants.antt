use Rattle.std.proofs.Common.{drop, map, string_bytes}
use Rattle.panels_report.proofs.Questioned.{AreOthersSoFar}
use Rattle.panels_report.proofs.linting.replacements.Given as goal

abbrev pub invariant-loop-number : goal.invariant-loop-number
invariant-loop-number l =
    AreOthersSoFar (map string_bytes l.own) (map string_bytes l.answers) l.questions l.number (drop l.number l.questions) l.others.items
