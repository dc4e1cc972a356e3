-- Steps. What all applications have on the screen, and one's part of it.
use Rattle.std.specs.Prelude.{◌≡◌, ◌≢◌, ◌<◌, ℕ, nat_eq, []}
use Rattle.std.specs.HashMap.{get, spare}
use Rattle.std.specs.Option.{option_map_or, IsSomeAnd}
use Rattle.tk_packer.specs.Shared.{own_of as packs_of}
use Rattle.tk_tree.specs.Shared.{own_of as tree_of}
use Rattle.tk_screen.specs.Own.{Windowing}
use Rattle.tk_screen.specs.Widgets.{OwnWidgets}
use Rattle.tk_screen.specs.declared.screen.Screen.{Screen}
use Rattle.tk_screen.specs.declared.widgets.Widgets.{Widgets}

-- the widgets of an application in a table
abbrev pub widgets_of : ℕ → Widgets → OwnWidgets
widgets_of owner table = option_map_or (λ row. row.entries) (get nat_eq table.rows owner) []

-- every application but one has the widgets that it had
abbrev pub LeavesOtherWidgets : ℕ → Widgets → Widgets → Type 0
LeavesOtherWidgets owner old new = (other : ℕ) → other ≢ owner → widgets_of other new ≡ widgets_of other old

-- one more widget of an application can be put without memory
abbrev pub HasRoom : ℕ → Widgets → Type 0
HasRoom owner table = IsSomeAnd (get nat_eq table.rows owner) (λ row. 0 < spare row)

-- an application's part
abbrev pub own_of : ℕ → Screen → Windowing
own_of slot screen = record {
  tree = tree_of slot screen.windows;
  widgets = widgets_of slot screen.widgets;
  packs = packs_of slot screen.packs;
  toplevel = get nat_eq screen.toplevels slot;
}

-- every other application's part is as before
abbrev pub LeavesOthers : ℕ → Screen → Screen → Type 0
LeavesOthers slot old new = (other : ℕ) → other ≢ slot → own_of other new ≡ own_of other old
