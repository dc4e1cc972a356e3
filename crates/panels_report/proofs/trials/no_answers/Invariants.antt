use Rattle.std.proofs.Common.{◌≡◌, [], map, replicate, string_bytes}
use Rattle.panels_report.proofs.trials.no_answers.Given as goal

abbrev pub invariant-answers : goal.invariant-answers
invariant-answers l = map string_bytes l.answers.items ≡ replicate l._number []
