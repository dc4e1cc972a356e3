use Rattle.std.proofs.Common.{◌≡◌, ◌++◌, length, map, drop}
use Rattle.panels_text.specs.Texts.{lines_of, plain_line}
use Rattle.panels_text.proofs.files.plain_lines.Given as goal

-- those that stand there, and those that are left, are all
abbrev pub invariant-loop-line : goal.invariant-loop-line
invariant-loop-line l = map (λ line. line.now) l.lines.items ++ map plain_line (drop (length l.yielded) (lines_of l.text)) ≡ map plain_line (lines_of l.text)
