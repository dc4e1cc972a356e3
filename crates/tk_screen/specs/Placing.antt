-- Meaning. An application's windows after what a layout changes.
use Rattle.std.specs.Prelude.{ℕ, Bool, true, false, List, [], ◌∷◌, Option, None, Some, IsSome}
use Rattle.tk_base.specs.declared.rect.Rect.{Rect}
use Rattle.tk_packer.specs.declared.changes.PlaceChange.{PlaceChange}
use Rattle.tk_packer.specs.declared.changes.PlaceChange.TheVariants.{Unmap, Configure, Map}
use Rattle.tk_tree.specs.Change.{with_place}
use Rattle.tk_tree.specs.Own.{Tree, window_at, with_change}
use Rattle.tk_tree.specs.declared.window.Window.{Window}

-- the window with a number, if it is there, mapped or not, at the rectangle that it has
abbrev pub mapped_as : ℕ → Bool → Option Window → Tree → Tree
mapped_as number mapped None own = own
mapped_as number mapped (Some window) own = with_change number (with_place window.rectangle mapped) own

abbrev pub with_mapped : ℕ → Bool → Tree → Tree
with_mapped number mapped own = mapped_as number mapped (window_at number own) own

-- the window with a number, if it is there, at another rectangle, mapped as it is
abbrev pub placed_at : ℕ → Rect → Option Window → Tree → Tree
placed_at number place None own = own
placed_at number place (Some window) own = with_change number (with_place place window.mapped) own

abbrev pub with_rect : ℕ → Rect → Tree → Tree
with_rect number place own = placed_at number place (window_at number own) own

-- one change
abbrev pub with_changed : PlaceChange → Tree → Tree
with_changed (Unmap number) own = with_mapped number false own
with_changed (Configure number place) own = with_rect number place own
with_changed (Map number) own = with_mapped number true own

-- one change after another
unfoldable pub with_changes : List PlaceChange → Tree → Tree
with_changes [] own = own
with_changes (change ∷ changes) own = with_changes changes (with_changed change own)

-- the window that a change is of is there
abbrev pub IsThere : PlaceChange → Tree → Type 0
IsThere (Unmap number) own = IsSome (window_at number own)
IsThere (Configure number place) own = IsSome (window_at number own)
IsThere (Map number) own = IsSome (window_at number own)

unfoldable pub AreThere : List PlaceChange → Tree → Type 0
AreThere [] own = Unit {0}
AreThere (change ∷ changes) own = IsThere change own × AreThere changes own
