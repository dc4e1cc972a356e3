use Rattle.std.proofs.Common.{◌≡◌, ◌++◌, drop, map, string_bytes}
use Rattle.std.specs.Fmt.{decimal}
use Rattle.std.specs.Prelude.{codes}
use Rattle.panels_text.specs.Texts.{behind_each}
use Rattle.panels_bench.proofs.messages.push_numbers.Given as goal

-- what was added, and what is left, is all
abbrev pub invariant-loop-row : goal.invariant-loop-row
invariant-loop-row l =
    string_bytes l.words ++ behind_each (codes ", ") (map decimal (drop l.row-index l.rows)) ≡ string_bytes l.initial.words ++ behind_each (codes ", ") (map decimal l.rows)
