-- Meaning. In an application each window that is packed is packed in its parent, and once. So it stands once, behind its master, and the layout is by masters
-- (*Places*), whatever its scripts do.
use Rattle.std.specs.Prelude.{◌≡◌, ◌≤◌, ◌==◌, ℕ, List, [], ◌∷◌, filter, length, Option, Some, option_and_then}
use Rattle.tcl_interp.specs.Evaluation.{State, Outcome}
use Rattle.tcl_vars.specs.Store.{Store}
use Rattle.tk_packer.specs.declared.packed.Packed.{Packed}
use Rattle.tk_packer.specs.Asked.{sizes_asked}
use Rattle.tk_packer.specs.Layout.{layout}
use Rattle.tk_packer.specs.Packs.{slaves_of}
use Rattle.tk_screen.specs.Layout.{size_of}
use Rattle.tk_screen.specs.Own.{Windowing}
use Rattle.tk_screen.specs.Shapes.{shapes}
use Rattle.tk_tree.specs.Own.{IsSound, Tree, window_at}
use Rattle.tk_app.specs.Commands.{Update, scripts_in}
use Rattle.tk_app.specs.Dispatch.{Action, global_meaning}
use Rattle.tk_app.specs.Items.{first_item}
use Rattle.tk_app.specs.Places.{IsByMasters, StandInOrder}
use Rattle.tk_app.specs.Seen.{Meaning, Seen}
use Rattle.tk_app.specs.Settle.{IsSettle, IsUpdate}
use Rattle.tk_app.specs.Sound.{EndsWith, StaysWith}

-- the parent of the window with a number
abbrev pub parent_of : ℕ → Tree → Option ℕ
parent_of number tree = option_and_then (λ window. window.parent) (window_at number tree)

-- each window that is packed is there, and its parent is its master
abbrev pub ArePackedInParents : Tree → List Packed → Type 0
ArePackedInParents tree [] = Unit {0}
ArePackedInParents tree (packed ∷ packs) = (parent_of packed.number tree ≡ Some packed.master) × ArePackedInParents tree packs

-- how often a window is packed
abbrev pub times_packed : ℕ → List Packed → ℕ
times_packed number packs = length (filter (λ packed. packed.number == number) packs)

-- the windows are numbered as they were made, and what is packed is packed so, each once
pub record IsInOrder (tree : Tree) (packs : List Packed) : Type 0 where
  pub sound : IsSound tree
  pub parents : ArePackedInParents tree packs
  pub once : (number : ℕ) → times_packed number packs ≤ 1

abbrev pub AreInOrder : Windowing → Type 0
AreInOrder own = IsInOrder own.tree own.packs.packs

-- ── whatever is done ──

-- a script at global level leaves windows as they were in this, by whatever meets the equation of `update`
abbrev pub ScriptsKeep : (Windowing → Type 0) → Type 0
ScriptsKeep Holds = (update : Update) → IsUpdate update → (room : ℕ) (script : List ℕ) (state : State Seen) → Holds state.shows.panel.windowing
    → EndsWith Holds (global_meaning (scripts_in update room) script state)

-- and so does each item of what is to be done at a moment: *Dispatch* of an event, a timer, a layout, a round of idle scripts
abbrev pub ItemsKeep : (Windowing → Type 0) → Type 0
ItemsKeep Holds = (update : Update) → IsUpdate update → (room : ℕ) (state : State Seen) (item : Outcome Seen) → Holds state.shows.panel.windowing
    → first_item (scripts_in update room) state ≡ Some item → EndsWith Holds item

abbrev pub ScriptsKeepOrder : Type 0
ScriptsKeepOrder = ScriptsKeep AreInOrder

abbrev pub ItemsKeepOrder : Type 0
ItemsKeepOrder = ItemsKeep AreInOrder

-- so they are in an application from its beginning on, while it runs
abbrev pub StaysInOrder : {M : Type 0} → (M → Meaning) → Type 0
StaysInOrder answer = (update : Update) → IsUpdate update → (settle : Action) → IsSettle update settle → StaysWith answer update settle AreInOrder

-- ── where windows lie ──

-- windows stand as the equations on the tree want it, so their layout is by these
pub record LiesInOrder : Type 0 where
  pub stand : (own : Windowing) (store : Store) → AreInOrder own → StandInOrder (λ master. slaves_of master own.packs.packs) (shapes own store)
  pub lies :
      (own : Windowing) (store : Store) → AreInOrder own
      → IsByMasters (λ master. slaves_of master own.packs.packs) (shapes own store) (size_of own)
      (sizes_asked (λ master. slaves_of master own.packs.packs) (shapes own store))
      (layout (size_of own) own.packs.packs (shapes own store))
