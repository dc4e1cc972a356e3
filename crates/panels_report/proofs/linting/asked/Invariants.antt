use Rattle.std.proofs.Common.{◌≡◌, map, string_bytes, take}
use Rattle.panels_text.specs.Refusals.{words_asked}
use Rattle.panels_report.proofs.linting.asked.Given as goal

abbrev pub invariant-loop-question : goal.invariant-loop-question
invariant-loop-question l = map (λ words. map string_bytes words.now) l.asks.items ≡ map words_asked (take l.question-index l.questions)
