use Rattle.std.proofs.Common.{◌≡◌, [], map, drop}
use Rattle.tk_options.specs.Rows.{row as row_of}
use Rattle.tk_options.proofs.Entries.{with_options}
use Rattle.tk_options.proofs.table.OptionTable.new.Given as goal

-- with the options of the rows that are left
abbrev pub invariant-loop-row : goal.invariant-loop-row
invariant-loop-row l =
    with_options l.table (map (λ row. row_of row.0 row.1 row.2.now) (drop l.row-index l.rows)) ≡ with_options [] (map (λ row. row_of row.0 row.1 row.2.now) l.rows)
