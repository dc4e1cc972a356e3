-- Meaning. The windows of an application lie near one another, whatever its scripts do: each ends within the greatest side of a rectangle, from its parent's
-- corner. So no place of a window is too far off to be told (*Told*).
use Rattle.std.specs.Prelude.{◌+◌, ◌*◌, ◌≤◌, ℕ, List}
use Rattle.std.specs.List.{AllByRecursion}
use Rattle.tk_base.specs.Rect.{most_pixels}
use Rattle.tk_base.specs.declared.local_event.LocalEvent.{LocalEvent}
use Rattle.tk_screen.specs.Layout.{size_of}
use Rattle.tk_screen.specs.Own.{Windowing}
use Rattle.tk_tree.specs.Corners.{corner}
use Rattle.tk_tree.specs.declared.window.Window.{Window}
use Rattle.tk_tree.specs.Own.{IsSound, Tree, most_windows}
use Rattle.tk_app.specs.Application.{Application, fresh}
use Rattle.tk_app.specs.Commands.{Update}
use Rattle.tk_app.specs.Dispatch.{Action}
use Rattle.tk_app.specs.InOrder.{ItemsKeep, ScriptsKeep}
use Rattle.tk_app.specs.Moments.{delivered, settled_by, started_by}
use Rattle.tk_app.specs.Ranges.{IsEventInRange, IsSize}
use Rattle.tk_app.specs.Seen.{Meaning}
use Rattle.tk_app.specs.Settle.{IsSettle, IsUpdate}
use Rattle.tk_app.specs.Sound.{RunsWith}
use Rattle.tk_app.specs.Spec.{Spec}

-- a window ends within the greatest side of a rectangle, from its parent's corner
abbrev pub EndsNear : Window → Type 0
EndsNear window = (window.rectangle.x + window.rectangle.width ≤ most_pixels) × (window.rectangle.y + window.rectangle.height ≤ most_pixels)

-- the windows are numbered as they were made, and each ends so, in a rectangle of this size
pub record IsNear (tree : Tree) (size : ℕ × ℕ) : Type 0 where
  pub sound : IsSound tree
  pub size_fits : IsSize size.0 size.1
  pub near : AllByRecursion EndsNear tree.windows

abbrev pub AreNear : Windowing → Type 0
AreNear own = IsNear own.tree (size_of own)

-- ── whatever is done ──

-- a script at global level leaves them so
abbrev pub ScriptsKeepNear : Type 0
ScriptsKeepNear = ScriptsKeep AreNear

-- and so does each item of what is to be done at a moment
abbrev pub ItemsKeepNear : Type 0
ItemsKeepNear = ItemsKeep AreNear

-- the windows of an application lie so while it runs
abbrev pub RunsNear : {M : Type 0} → Application M → Type 0
RunsNear application = RunsWith AreNear application

module _ {M : Type 0} (answer : M → Meaning) where
  module _ (update : Update) (settle : Action) where
    -- They do at first, where its rectangle has a size, once its script has run, once it was given an event in range, and once it has settled.
    pub record StaysNear : Type 0 where
      pub fresh : (spec : Spec M) → IsSize spec.width spec.height → RunsNear (fresh spec)
      pub started : (moment : ℕ) (script : List ℕ) (application : Application M) → AreNear application.windowing
          → RunsNear (started_by answer update settle moment script application)
      pub delivered : (event : LocalEvent) (application : Application M) → IsEventInRange event → RunsNear application → RunsNear (delivered event application)
      pub settled : (moment : ℕ) (application : Application M) → RunsNear application → RunsNear (settled_by answer settle moment application)

  -- by whatever meets the equations of `update` and *Settle*
  abbrev pub NearStays : Type 0
  NearStays = (update : Update) → IsUpdate update → (settle : Action) → IsSettle update settle → StaysNear update settle

-- ── corners ──

-- from the corner of the application's rectangle a window begins within as many such sides as there can be windows
abbrev pub CornersNear : Type 0
CornersNear = (own : Windowing) (number : ℕ) → AreNear own
    → ((corner number own.tree).x ≤ most_pixels * most_windows) × ((corner number own.tree).y ≤ most_pixels * most_windows)
