use Rattle.std.proofs.Common.{◌≡◌, ◌++◌, not, length, map, drop}
use Rattle.std.specs.Prelude.{filter}
use Rattle.panels_text.specs.Texts.{has_line, lines_of, lines_without}
use Rattle.panels_text.proofs.texts.without.Given as goal

-- those that were found, and those that are left, are all
abbrev pub invariant-loop-line : goal.invariant-loop-line
invariant-loop-line l =
    map (λ line. line.now) l.lines.items ++ filter (λ line. not (has_line (lines_of l.other) line)) (drop (length l.yielded) (lines_of l.text)) ≡ lines_without l.text l.other
