-- Meaning. What the table of a bench says of the bench.
use Rattle.std.specs.Prelude.{◌≡◌, ℕ, max, List, codes, length, map, Option, Some, None, unwrap_or}
use Rattle.toml.specs.Data.{Members, get_member}
use Rattle.toml.specs.Parse.{parse_document}
use Rattle.toml.specs.View.{table_view}
use Rattle.panels_bench.specs.declared.reading.Read.{Read}
use Rattle.panels_bench.specs.Entries.{AreEntries, most_moment}
use Rattle.panels_bench.specs.Panels.{ArePanels}
use Rattle.panels_text.specs.Tables.{number_in, tables_of, value_of, values_of}
use Rattle.panels_text.specs.declared.table.Part.{Part}

-- how many steps a panel takes before the next has its turn: one at least, and 64 where the bench doesn't say
abbrev pub slice_of : Option ℕ → ℕ
slice_of said = max (unwrap_or said 64) 1

-- the panels of a bench, and what is said of them beside: table by table
abbrev pub PanelsOf : Members → Read → Type 0
PanelsOf members read =
    (parts : List Part) × (tables_of (values_of (get_member (codes "panel") members)) ≡ Some (map (λ part. table_view part.table.now) parts))
    × ArePanels parts read.bench.panels.items read.sides.items

-- what the table of a bench says
pub record IsRead (root : Part) (read : Read) : Type 0 where
  pub end : number_in most_moment (value_of root (codes "end")) ≡ Some read.bench.end
  pub slice : slice_of (number_in 10000000 (value_of root (codes "slice"))) ≡ read.slice
  pub panels : PanelsOf (table_view root.table.now) read
  pub lines : length read.lines.items ≡ length read.bench.entries.items
  pub entries : AreEntries root read.bench.panels.items read.bench.end read.lines.items read.bench.entries.items

-- what a text says that is TOML
abbrev pub IsReadOf : List ℕ → Read → Type 0
IsReadOf text read = (root : Part) × (root.bench.now ≡ text) × (parse_document text ≡ Some (table_view root.table.now)) × IsRead root read
