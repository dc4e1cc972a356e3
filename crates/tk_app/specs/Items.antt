-- Meaning. What there is to do at a moment (after(n), update(n); the order is this host's own): the first that exists of a queued event, a due timer,
-- a layout that changes something, and a round of the idle scripts that wait.
use Rattle.std.specs.Prelude.{ℕ, List, [], ◌∷◌, Option, Some, None, if◌then◌else◌}
use Rattle.std.specs.Option.{option_or}
use Rattle.tcl_interp.specs.Evaluation.{State, Outcome, and_then, with_step}
use Rattle.tcl_interp.specs.Scripts.{out_of_global}
use Rattle.tk_after.specs.declared.waiting.WaitingScript.{WaitingScript}
use Rattle.tk_after.specs.Timers.{entry_with, first_due, idle_ids, without}
use Rattle.tk_packer.specs.declared.changes.PlaceChange.{PlaceChange}
use Rattle.tk_sequences.specs.declared.event.Event.{Event}
use Rattle.tk_screen.specs.Layout.{changes_due}
use Rattle.tk_panel.specs.Changes.{laid_out}
use Rattle.tk_panel.specs.Panel.{Panel, is_closed, with_queue}
use Rattle.tk_commands.specs.Ends.{with_end}
use Rattle.tk_app.specs.Dispatch.{Action, RunsScripts, dispatch_meaning, ends_there, followed_by, global_meaning, with_whole_panel}
use Rattle.tk_app.specs.Seen.{Seen}

-- a timer or an idle script leaves its table
abbrev pub waiting_taken : ℕ → Panel → Panel
waiting_taken id panel = record panel { timers = without id panel.timers }

-- a layout
abbrev pub with_layout : Action
with_layout state = ends_there (with_whole_panel (laid_out state.store state.shows.panel) state)

-- a layout that changes something: one act, without a step
abbrev pub layout_item : List PlaceChange → State Seen → Option (Outcome Seen)
layout_item [] state = None
layout_item (change ∷ changes) state = Some (with_layout state)

-- an item is done, and then what is done again; with no item all is done
abbrev pub done_and : Option (Outcome Seen) → Action → Action
done_and None again state = ends_there state
done_and (Some item) again state = followed_by item again

-- How scripts are run is given.
module _ (run : RunsScripts) where
  -- a timer or an idle script whose step is taken leaves its table and runs at global level; an error is told
  abbrev pub waiting_meaning : ℕ → List ℕ → Action
  waiting_meaning id script state =
      and_then (global_meaning run script (with_whole_panel (waiting_taken id state.shows.panel) state))
      (λ left code text. ends_there (with_whole_panel (with_end (out_of_global code) text left.shows.panel) left))

  -- an idle script of a round, if it still waits
  abbrev pub idle_meaning : ℕ → Option WaitingScript → Action
  idle_meaning id None state = ends_there state
  idle_meaning id (Some entry) state = with_step state (waiting_meaning id entry.script)

  -- a round: of the idle scripts with these numbers those that still wait, one after another
  abbrev pub round_meaning : List ℕ → Action
  round_meaning [] state = ends_there state
  round_meaning (id ∷ ids) state = followed_by (idle_meaning id (entry_with id state.shows.panel.timers.entries) state) (round_meaning ids)

  -- ── what there is to do ──

  -- the first of the events that are queued
  abbrev pub event_item : List Event → State Seen → Option (Outcome Seen)
  event_item [] state = None
  event_item (event ∷ events) state = Some (dispatch_meaning run event (with_whole_panel (with_queue events state.shows.panel) state))

  -- the timer that is due, the one that was due first
  abbrev pub timer_item : Option WaitingScript → State Seen → Option (Outcome Seen)
  timer_item None state = None
  timer_item (Some entry) state = Some (with_step state (waiting_meaning entry.id entry.script))

  -- a round of the idle scripts that wait
  abbrev pub round_item : List ℕ → State Seen → Option (Outcome Seen)
  round_item [] state = None
  round_item (id ∷ ids) state = Some (round_meaning (id ∷ ids) state)

  -- the first item that exists
  abbrev pub first_item : State Seen → Option (Outcome Seen)
  first_item state =
      (let panel : Panel = state.shows.panel in
      option_or (event_item panel.queue state)
      (option_or (timer_item (first_due panel.moment panel.timers.entries) state)
      (option_or (layout_item (changes_due panel.windowing state.store) state) (round_item (idle_ids panel.timers.entries) state))))

  abbrev pub item_meaning : Action → Action
  item_meaning again state = done_and (first_item state) again state

  -- Where there is no main window nothing more is done, and what waits stays listed; the application is closed then (`state_after`).
  abbrev pub settle_item : Action → Action
  settle_item again state = if is_closed state.shows.panel then ends_there state else item_meaning again state

  -- ── `update idletasks` ──

  -- a layout, a round of the idle scripts that wait then, and a layout
  abbrev pub idle_tasks_meaning : Action
  idle_tasks_meaning state =
      (let first : Panel = laid_out state.store state.shows.panel in followed_by (round_meaning (idle_ids first.timers.entries) (with_whole_panel first state)) with_layout)
