-- What events without scripts and layout leave: the moment, the timers and the windows that are there.
use Rattle.std.proofs.Common.{◌≡◌, ℕ, List, [], ◌∷◌, refl, ◌∙◌}
use Rattle.std.specs.Prelude.{Option, Some, None, Ok, Err}
use Rattle.tcl_vars.specs.Store.{Store}
use Rattle.tk_dispatch.specs.Dispatch.{Chosen}
use Rattle.tk_sequences.specs.declared.event.Event.{Event}
use Rattle.tk_packer.specs.declared.changes.PlaceChange.{PlaceChange}
use Rattle.tk_screen.specs.Layout.{changes_due, laid_out_windowing}
use Rattle.tk_tree.specs.declared.window.Window.{Window}
use Rattle.tk_tree.specs.Own.{window_at}
use Rattle.tk_panel.specs.Changes.{laid_out, number_of, queued_at, with_events_of}
use Rattle.tk_panel.specs.Choice.{chosen, chosen_at, on_scripts, scripts_of}
use Rattle.tk_panel.specs.Panel.{Panel}
use Rattle.tk_panel.specs.Settle.{drained, or_later, with_queue}
use Rattle.tk_panel.proofs.Choices.{chosen_queue}

-- the moment, and the timers
pub record LeavesTimers (old new : Panel) : Type 0 where
  pub moment : new.moment ≡ old.moment
  pub timers : new.timers ≡ old.timers

same : (panel : Panel) → LeavesTimers panel panel
same panel = record { moment = refl; timers = refl }

pub then : {first next last : Panel} → LeavesTimers first next → LeavesTimers next last → LeavesTimers first last
then one other = record { moment = other.moment ∙ one.moment; timers = other.timers ∙ one.timers }

-- ── a choice ──

by_scripts : (event : Event) (panel : Panel) (scripts : Chosen) → LeavesTimers panel (on_scripts event panel scripts).0
by_scripts event panel (Ok scripts) = record { moment = refl; timers = refl }
by_scripts event panel (Err text) = record { moment = refl; timers = refl }

by_window : (event : Event) (panel : Panel) (window : Option Window) → LeavesTimers panel (chosen_at event panel window).0
by_window event panel None = same panel
by_window event panel (Some window) = by_scripts event panel (scripts_of event panel)

chosen_leaves : (event : Event) (panel : Panel) → LeavesTimers panel (chosen event panel).0
unfolding chosen
chosen_leaves event panel = by_window event panel (window_at event.number panel.windowing.tree)

-- ── events, one after another ──

pub drained_leaves : (events : List Event) (panel : Panel) → LeavesTimers panel (drained events panel).0
unfolding drained
drained_leaves [] panel = same panel
drained_leaves (event ∷ events) panel =
    let there : Panel × List (List ℕ) = chosen event (with_queue events panel) in
    let left = chosen_leaves event (with_queue events panel) in
    by there.1 there.0 (record { moment = left.moment; timers = left.timers }) (drained_leaves events there.0)
  where
    by : (scripts : List (List ℕ)) (after : Panel) → LeavesTimers panel after → LeavesTimers after (drained events after).0 → LeavesTimers panel (or_later (drained events) after scripts).0
    by [] after one later = then one later
    by (script ∷ scripts) after one later = one

-- where none has scripts, none is left
pub drained_out : (events : List Event) (panel : Panel) → panel.queue ≡ events → (drained events panel).1 ≡ [] → (drained events panel).0.queue ≡ []
unfolding drained
drained_out [] panel is none = is
drained_out (event ∷ events) panel is none =
    let there : Panel × List (List ℕ) = chosen event (with_queue events panel) in
    by there.1 there.0 (λ none. drained_out events there.0 (chosen_queue event (with_queue events panel)) none) none
  where
    by : (scripts : List (List ℕ)) (after : Panel) → ((drained events after).1 ≡ [] → (drained events after).0.queue ≡ [])
        → (or_later (drained events) after scripts).1 ≡ [] → (or_later (drained events) after scripts).0.queue ≡ []
    by [] after later none = later none
    by (script ∷ scripts) after later none = cc

-- ── layout ──

by_change : (change : PlaceChange) (panel : Panel) (window : Option Window) → LeavesTimers panel (queued_at change panel window)
by_change change panel None = same panel
by_change change panel (Some window) = record { moment = refl; timers = refl }

changes_leave : (changes : List PlaceChange) (panel : Panel) → LeavesTimers panel (with_events_of changes panel)
unfolding with_events_of
changes_leave [] panel = same panel
changes_leave (change ∷ changes) panel =
    then (by_change change panel (window_at (number_of change) panel.windowing.tree)) (changes_leave changes (queued_at change panel (window_at (number_of change) panel.windowing.tree)))

pub layout_leaves : (store : Store) (panel : Panel) → LeavesTimers panel (laid_out store panel)
unfolding laid_out
layout_leaves store panel =
    let left = changes_leave (changes_due panel.windowing store) (record panel { windowing = laid_out_windowing panel.windowing store }) in record { moment = left.moment; timers = left.timers }
