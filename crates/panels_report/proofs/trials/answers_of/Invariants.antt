use Rattle.std.proofs.Common.{◌≡◌, drop, map, string_bytes}
use Rattle.panels_report.specs.Trials.{answers_from, answers_of}
use Rattle.panels_report.proofs.trials.answers_of.Given as goal

abbrev pub invariant-loop-number : goal.invariant-loop-number
invariant-loop-number l =
    answers_from l.number (string_bytes l.commands) (map (λ words. map string_bytes words.now) (drop l.number l.asks)) (map string_bytes l.answers.items)
    ≡ answers_of (map (λ words. map string_bytes words.now) l.asks)
