-- Meaning. *Destroy* (destroy(n)): the window that a path means and all below it, those that were dying already too, in post-order. Each that is
-- still there has *Dispatch* of the event Destroy, and then it is removed with its bindings, if it is there still.
use Rattle.std.specs.Prelude.{ℕ, List, [], ◌∷◌, Option, Some, None}
use Rattle.tk_tree.specs.declared.window.Window.{Window}
use Rattle.tk_tree.specs.Own.{window_at}
use Rattle.tk_panel.specs.Removal.{destroy_event, doomed_by, marked, removed}
use Rattle.tk_app.specs.Dispatch.{Action, RunsScripts, dispatch_meaning, ends_there, followed_by, with_whole_panel}

-- How scripts are run is given.
module _ (run : RunsScripts) where
  -- a window that is still there has its Destroy event dispatched
  abbrev pub destroy_dispatched : Option Window → Action
  destroy_dispatched None state = ends_there state
  destroy_dispatched (Some window) state = dispatch_meaning run (destroy_event window state.shows.panel.moment) state

  -- and then it goes, with its bindings, if it is there still; so do the others, in their order
  abbrev pub windows_destroyed : List ℕ → Action
  windows_destroyed [] state = ends_there state
  windows_destroyed (number ∷ numbers) state =
      followed_by (destroy_dispatched (window_at number state.shows.panel.windowing.tree) state)
      (λ left. windows_destroyed numbers (with_whole_panel (removed number left.shows.panel) left))

  -- *Destroy* of one path after another. Its windows are dying from then on; a path that names no window, or one that is dying, is passed over.
  abbrev pub destroy_meaning : List (List ℕ) → Action
  destroy_meaning [] state = ends_there state
  destroy_meaning (path ∷ paths) state =
      (let numbers : List ℕ = doomed_by path state.shows.panel in followed_by (windows_destroyed numbers (with_whole_panel (marked numbers state.shows.panel) state)) (destroy_meaning paths))
