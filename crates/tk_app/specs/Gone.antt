-- Meaning. What *Destroy* leaves: none of the windows that its path means. So each had no children left when it was its turn to go.
use Rattle.std.specs.Prelude.{◌≡◌, ℕ, List, [], ◌∷◌, Option, Some, None}
use Rattle.tcl_interp.specs.Evaluation.{State, Outcome, Ended, OutOfSteps}
use Rattle.tk_tree.specs.declared.window.Window.{Window}
use Rattle.tk_tree.specs.Own.{Tree, window_at}
use Rattle.tk_panel.specs.Panel.{Panel}
use Rattle.tk_panel.specs.Removal.{doomed_by, marked, without_path}
use Rattle.tk_app.specs.Commands.{Update, scripts_in}
use Rattle.tk_app.specs.Destroy.{destroy_dispatched, destroy_meaning}
use Rattle.tk_app.specs.Dispatch.{Action, RunsScripts, ends_there, followed_by, with_whole_panel}
use Rattle.tk_app.specs.Seen.{Seen}
use Rattle.tk_app.specs.Settle.{IsSoundIn, IsUpdate}

-- no window has one of these numbers
abbrev pub AreGone : List ℕ → Tree → Type 0
AreGone [] tree = Unit {0}
AreGone (number ∷ numbers) tree = (window_at number tree ≡ None) × AreGone numbers tree

-- where something has ended
abbrev pub LeavesNone : List ℕ → Outcome Seen → Type 0
LeavesNone numbers (Ended state code text) = AreGone numbers state.shows.panel.windowing.tree
LeavesNone numbers (OutOfSteps state) = Unit {0}

-- The window that a path means, and all below it, are gone once *Destroy* of it has ended, whatever its scripts did.
abbrev pub DestroysAll : Type 0
DestroysAll = (update : Update) → IsUpdate update → (room : ℕ) (path : List ℕ) (state : State Seen) → IsSoundIn state
    → LeavesNone (doomed_by path state.shows.panel) (destroy_meaning (scripts_in update room) (path ∷ []) state)

-- ── removal without a test ──

-- a window goes, with its widget, its packing and its bindings, whether it has children or not
abbrev pub untested_at : ℕ → Panel → Option Window → Panel
untested_at number panel None = panel
untested_at number panel (Some window) = without_path number window.path panel

abbrev pub removed_untested : ℕ → Panel → Panel
removed_untested number panel = untested_at number panel (window_at number panel.windowing.tree)

module _ (run : RunsScripts) where
  -- the windows of a path, where each goes so
  abbrev pub windows_untested : List ℕ → Action
  windows_untested [] state = ends_there state
  windows_untested (number ∷ numbers) state =
      followed_by (destroy_dispatched run (window_at number state.shows.panel.windowing.tree) state)
      (λ left. windows_untested numbers (with_whole_panel (removed_untested number left.shows.panel) left))

  -- *Destroy* of one path after another
  abbrev pub destroy_untested : List (List ℕ) → Action
  destroy_untested [] state = ends_there state
  destroy_untested (path ∷ paths) state =
      (let numbers : List ℕ = doomed_by path state.shows.panel in followed_by (windows_untested numbers (with_whole_panel (marked numbers state.shows.panel) state)) (destroy_untested paths))

-- *Destroy* comes to the same so, be there steps for all of it or not: no removal is refused.
abbrev pub DestroysUntested : Type 0
DestroysUntested = (update : Update) → IsUpdate update → (room : ℕ) (paths : List (List ℕ)) (state : State Seen) → IsSoundIn state
    → destroy_meaning (scripts_in update room) paths state ≡ destroy_untested (scripts_in update room) paths state
