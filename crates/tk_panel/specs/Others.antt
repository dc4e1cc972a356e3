-- Steps. What a view of one application leaves alone, as one value. What each call leaves alone, `LeavesOthers` says.
use Rattle.std.specs.Prelude.{ℕ, List, ◌==◌, filter, map, not}
use Rattle.std.specs.Borrow.{GName}
use Rattle.std.specs.List.{range_with_len}
use Rattle.tk_panel.specs.declared.tables.Tables.{Tables}
use Rattle.tk_panel.specs.Panel.{Panel}
use Rattle.tk_panel.specs.Shared.{panel_of}

-- what each of the 16 slots but one has
unfoldable pub others_of : ℕ → Tables → List Panel
others_of slot tables = map (λ other. panel_of other tables) (filter (λ other. not (other == slot)) (range_with_len 0 16))

-- what the calls of one application leave alone: which one it is, the tables that it is in, the moment, and what the others have
pub record LeftAlone : Type 0 where
  pub slot : ℕ
  pub name : GName
  pub moment : ℕ
  pub others : List Panel

abbrev pub left_of : ℕ → GName → Tables → LeftAlone
left_of slot name tables = record { slot = slot; name = name; moment = tables.clock; others = others_of slot tables }
