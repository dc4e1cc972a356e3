use Rattle.std.proofs.Common.{◌≡◌, map, string_bytes, take}
use Rattle.panels_report.specs.declared.linting.Replacement.{Replacement}
use Rattle.panels_text.specs.Refusals.{words_asked}
use Rattle.panels_report.proofs.linting.asked_instead.Given as goal

abbrev pub invariant-loop-other : goal.invariant-loop-other
invariant-loop-other l =
    map (λ words. map string_bytes words.now) l.asks.items ≡ map (λ (other : Replacement). words_asked other.question) (take l.other-index l.others)
