use Rattle.std.proofs.Common.{◌≡◌, drop}
use Rattle.panels_text.specs.Meant.{beside, rows_of}
use Rattle.panels_text.proofs.meant.beside.Given as goal

-- none of those before is of the word
abbrev pub invariant-loop-row : goal.invariant-loop-row
invariant-loop-row l = beside l.word (rows_of (drop l.row-index l.rows)) ≡ beside l.word (rows_of l.rows)
