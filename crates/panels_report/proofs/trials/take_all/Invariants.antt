use Rattle.std.proofs.Common.{◌≡◌, drop, map, string_bytes}
use Rattle.panels_report.specs.Trials.{with_sections}
use Rattle.panels_report.proofs.trials.take_all.Given as goal

abbrev pub invariant-loop-section : goal.invariant-loop-section
invariant-loop-section l =
    with_sections (map (λ section. section.items) (drop l.section-index l.sections)) (map string_bytes l.answers.items)
    ≡ with_sections (map (λ section. section.items) l.sections) (map string_bytes l.fn.answers.items)
