use Rattle.std.proofs.Common.{◌≡◌, ◌++◌, drop}
use Rattle.panels.specs.Picture.{rows_text}
use Rattle.panels.proofs.drawing.push_rows.Given as goal

abbrev pub invariant-loop-row : goal.invariant-loop-row
invariant-loop-row l = l.text.items ++ rows_text l.x l.y (drop l.row-index l.rows) ≡ l.fn.text.items ++ rows_text l.x l.fn.y l.rows
