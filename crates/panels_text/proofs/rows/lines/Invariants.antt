use Rattle.std.proofs.Common.{◌≡◌, ◌++◌, drop, length, map}
use Rattle.panels_text.specs.Texts.{lines_of}
use Rattle.panels_text.proofs.rows.lines.Given as goal

-- those that were copied, and those that are left, are all
abbrev pub invariant-loop-line : goal.invariant-loop-line
invariant-loop-line l = map (λ row. row.items) l.rows.items ++ drop (length l.yielded) (lines_of l.text) ≡ lines_of l.text
