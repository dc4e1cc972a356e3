use Rattle.std.proofs.Common.{◌≡◌, drop, length, map, string_bytes}
use Rattle.panels_report.specs.Trials.{with_lines}
use Rattle.panels_text.specs.Texts.{lines_of}
use Rattle.panels_report.proofs.trials.take.Given as goal

abbrev pub invariant-loop-line : goal.invariant-loop-line
invariant-loop-line l =
    with_lines (drop (length l.yielded) (lines_of l.section)) (map string_bytes l.answers.items) ≡ with_lines (lines_of l.section) (map string_bytes l.fn.answers.items)
