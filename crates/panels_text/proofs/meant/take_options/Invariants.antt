use Rattle.std.proofs.Common.{◌≡◌, ◌++◌, drop, map}
use Rattle.panels_text.specs.Meant.{likely_in, plain}
use Rattle.tk_options.specs.Names.{name_of}
use Rattle.panels_text.proofs.meant.take_options.Given as goal

-- what was found, and what is found in what is left, is all
abbrev pub invariant-loop-row : goal.invariant-loop-row
invariant-loop-row l = plain l.found.items ++ likely_in l.word (map (λ row. name_of row.0) (drop l.row-index l.rows)) ≡ plain l.initial.found.items ++ likely_in l.word (map (λ row. name_of row.0) l.rows)
