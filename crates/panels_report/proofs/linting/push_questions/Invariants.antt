use Rattle.std.proofs.Common.{◌≡◌, ◌++◌, drop, map, string_bytes}
use Rattle.panels_report.specs.Lint.{questions_told, told}
use Rattle.panels_report.proofs.linting.push_questions.Given as goal

abbrev pub invariant-loop-number : goal.invariant-loop-number
invariant-loop-number l =
    map told l.wrong.items ++ questions_told (map string_bytes l.own) (map string_bytes l.answers) l.others (map string_bytes l.tried) l.number (drop l.number l.questions)
    ≡ map told l.fn.wrong.items ++ questions_told (map string_bytes l.own) (map string_bytes l.answers) l.others (map string_bytes l.tried) 0 l.questions
