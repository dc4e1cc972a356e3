-- Meaning. What the windows of an application ask for, and what laying them out changes.
use Rattle.std.specs.Prelude.{ℕ, nat_eq, List, [], Option}
use Rattle.std.specs.Map.{lookup}
use Rattle.std.specs.Option.{option_map_or}
use Rattle.tcl_vars.specs.Store.{Store}
use Rattle.tk_packer.specs.Asked.{sizes_asked}
use Rattle.tk_packer.specs.Changes.{changes_of}
use Rattle.tk_packer.specs.declared.changes.PlaceChange.{PlaceChange}
use Rattle.tk_packer.specs.Layout.{layout}
use Rattle.tk_packer.specs.Packs.{slaves_of}
use Rattle.tk_screen.specs.Placing.{with_changes}
use Rattle.tk_screen.specs.Own.{Windowing}
use Rattle.tk_screen.specs.Shapes.{shapes}

-- what the window with a number asks for, with what is packed in it
unfoldable pub size_asked : Windowing → Store → ℕ → Option (ℕ × ℕ)
size_asked own store number = lookup (nat_eq number) (sizes_asked (λ master. slaves_of master own.packs.packs) (shapes own store))

-- the width and height of the application's rectangle
abbrev pub size_of : Windowing → ℕ × ℕ
size_of own = option_map_or (λ toplevel. toplevel.size) own.toplevel (0, 0)

-- what a layout from nothing would change, in the order of the windows
unfoldable pub changes_due : Windowing → Store → List PlaceChange
changes_due own store = changes_of (shapes own store) (layout (size_of own) own.packs.packs (shapes own store))

-- the windows where the layout says
unfoldable pub laid_out_windowing : Windowing → Store → Windowing
laid_out_windowing own store = record own { tree = with_changes (changes_due own store) own.tree }
