use Rattle.std.proofs.Common.{◌≡◌, ℕ, map, drop, length, IfSome}
use Rattle.std.specs.Prelude.{slice_get}
use Rattle.toml.specs.View.{items_view, table_view}
use Rattle.panels_text.specs.Tables.{IsEntry, tables_in, tables_onto}
use Rattle.panels_text.proofs.table.Part.entries.Given as goal

-- the tables before are those of the entries, each with its number
abbrev pub invariant-loop-index : goal.invariant-loop-index
invariant-loop-index l = record {
  tables : tables_onto (map (λ part. table_view part.table.now) l.parts.items) (tables_in (items_view (drop l.index l.values))) ≡ tables_in (items_view l.values);
  places : (index : ℕ) → IfSome (slice_get l.parts.items index) (IsEntry l.self l.array index);
  count : length l.parts.items ≡ l.index;
}
