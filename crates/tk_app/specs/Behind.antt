-- Steps. *Dispatch*, a round, *Destroy* and what there is to do at a moment as jobs do them: each with what is behind it. Behind is "and then" (`behind_is_then`).
use Rattle.std.specs.Prelude.{◌≡◌, ℕ, List, [], ◌∷◌, Option, Some, None, if◌then◌else◌}
use Rattle.tcl_control.specs.declared.code.Code.{Code}
use Rattle.tcl_control.specs.declared.code.Code.TheVariants.{Normal, Error, Return, Break, Continue}
use Rattle.tcl_interp.specs.Evaluation.{State, Outcome, Ended, OutOfSteps, and_then, with_step}
use Rattle.tcl_interp.specs.Scripts.{out_of_global}
use Rattle.tk_after.specs.declared.waiting.WaitingScript.{WaitingScript}
use Rattle.tk_after.specs.Timers.{entry_with, first_due, idle_ids}
use Rattle.tk_packer.specs.declared.changes.PlaceChange.{PlaceChange}
use Rattle.tk_sequences.specs.declared.event.Event.{Event}
use Rattle.tk_tree.specs.declared.window.Window.{Window}
use Rattle.tk_tree.specs.Own.{window_at}
use Rattle.tk_screen.specs.Layout.{changes_due}
use Rattle.tk_panel.specs.declared.transcript.Stream.TheVariants.{Err as Errors}
use Rattle.tk_panel.specs.Changes.{laid_out}
use Rattle.tk_panel.specs.Choice.{chosen}
use Rattle.tk_panel.specs.Panel.{Panel, is_closed, with_queue}
use Rattle.tk_panel.specs.Removal.{destroy_event, doomed_by, marked, removed}
use Rattle.tk_panel.specs.Reports.{with_line}
use Rattle.tk_commands.specs.Ends.{with_end}
use Rattle.tk_app.specs.Destroy.{destroy_dispatched, windows_destroyed}
use Rattle.tk_app.specs.Dispatch.{Action, RunsScripts, dispatch_meaning, followed_by, global_meaning, with_whole_panel}
use Rattle.tk_app.specs.Items.{round_meaning, waiting_taken, with_layout}
use Rattle.tk_app.specs.Seen.{Seen}

-- How scripts are run is given.
module _ (run : RunsScripts) where
  -- ── *Dispatch* ──

  abbrev pub after_bound_behind : Action → Action → State Seen → Code → List ℕ → Outcome Seen
  after_bound_behind others behind state Normal text = others state
  after_bound_behind others behind state Error text = behind (with_whole_panel (with_line Errors text state.shows.panel) state)
  after_bound_behind others behind state (Return code) text = others state
  after_bound_behind others behind state Break text = behind state
  after_bound_behind others behind state Continue text = others state

  abbrev pub bound_behind : List (List ℕ) → Action → Action
  bound_behind [] behind state = behind state
  bound_behind (script ∷ scripts) behind state =
      with_step state (λ begun. and_then (global_meaning run script begun) (λ left code text. after_bound_behind (bound_behind scripts behind) behind left (out_of_global code) text))

  abbrev pub dispatch_behind : Event → Action → Action
  dispatch_behind event behind state = (let there : Panel × List (List ℕ) = chosen event state.shows.panel in bound_behind there.1 behind (with_whole_panel there.0 state))

  -- ── a timer, a round ──

  abbrev pub waiting_behind : ℕ → List ℕ → Action → Action
  waiting_behind id script behind state =
      and_then (global_meaning run script (with_whole_panel (waiting_taken id state.shows.panel) state))
      (λ left code text. behind (with_whole_panel (with_end (out_of_global code) text left.shows.panel) left))

  abbrev pub idle_behind : ℕ → Option WaitingScript → Action → Action
  idle_behind id None behind state = behind state
  idle_behind id (Some entry) behind state = with_step state (waiting_behind id entry.script behind)

  abbrev pub round_behind : List ℕ → Action → Action
  round_behind [] behind state = behind state
  round_behind (id ∷ ids) behind state = idle_behind id (entry_with id state.shows.panel.timers.entries) (round_behind ids behind) state

  -- ── the first item that exists ──

  abbrev pub round_or_behind : List ℕ → Action → Action
  round_or_behind [] again state = Ended state Normal []
  round_or_behind (id ∷ ids) again state = round_behind (id ∷ ids) again state

  abbrev pub layout_or_behind : List PlaceChange → Action → Action
  layout_or_behind [] again state = round_or_behind (idle_ids state.shows.panel.timers.entries) again state
  layout_or_behind (change ∷ changes) again state = again (with_whole_panel (laid_out state.store state.shows.panel) state)

  abbrev pub timer_or_behind : Option WaitingScript → Action → Action
  timer_or_behind None again state = layout_or_behind (changes_due state.shows.panel.windowing state.store) again state
  timer_or_behind (Some entry) again state = with_step state (waiting_behind entry.id entry.script again)

  abbrev pub queued_or_behind : List Event → Action → Action
  queued_or_behind [] again state = timer_or_behind (first_due state.shows.panel.moment state.shows.panel.timers.entries) again state
  queued_or_behind (event ∷ events) again state = dispatch_behind event again (with_whole_panel (with_queue events state.shows.panel) state)

  abbrev pub item_behind : Action → Action
  item_behind again state = queued_or_behind state.shows.panel.queue again state

  abbrev pub settle_item_behind : Action → Action
  settle_item_behind again state = if is_closed state.shows.panel then Ended state Normal [] else item_behind again state

  -- ── `update idletasks` ──

  abbrev pub idle_tasks_behind : Action
  idle_tasks_behind state =
      (let first : Panel = laid_out state.store state.shows.panel in round_behind (idle_ids first.timers.entries) with_layout (with_whole_panel first state))

  -- ── *Destroy* ──

  abbrev pub destroyed_behind : Option Window → Action → Action
  destroyed_behind None behind state = behind state
  destroyed_behind (Some window) behind state = dispatch_behind (destroy_event window state.shows.panel.moment) behind state

  abbrev pub windows_behind : List ℕ → Action → Action
  windows_behind [] behind state = behind state
  windows_behind (number ∷ numbers) behind state =
      destroyed_behind (window_at number state.shows.panel.windowing.tree)
      (λ left. windows_behind numbers behind (with_whole_panel (removed number left.shows.panel) left)) state

  abbrev pub destroy_behind : List (List ℕ) → Action
  destroy_behind [] state = Ended state Normal []
  destroy_behind (path ∷ paths) state =
      (let numbers : List ℕ = doomed_by path state.shows.panel in windows_behind numbers (destroy_behind paths) (with_whole_panel (marked numbers state.shows.panel) state))

-- ── behind is "and then" ──

-- where something has ended, it did so normally, with the empty text
abbrev pub EndsEmpty : Outcome Seen → Type 0
EndsEmpty (Ended state code text) = (code ≡ Normal) × (text ≡ [])
EndsEmpty (OutOfSteps state) = Unit {0}

-- the whole is this first, and then, where that has ended, what is behind it
abbrev pub IsThen : Outcome Seen → Action → Outcome Seen → Type 0
IsThen first behind whole = (whole ≡ followed_by first behind) × EndsEmpty first

-- so it is with all that may be behind something
abbrev pub BehindIsThen : (Action → Action) → Action → Type 0
BehindIsThen with_behind meaning = (behind : Action) (state : State Seen) → IsThen (meaning state) behind (with_behind behind state)

-- however scripts are run
abbrev pub DispatchThen : Type 0
DispatchThen = (run : RunsScripts) (event : Event) → BehindIsThen (dispatch_behind run event) (dispatch_meaning run event)

abbrev pub RoundThen : Type 0
RoundThen = (run : RunsScripts) (ids : List ℕ) → BehindIsThen (round_behind run ids) (round_meaning run ids)

abbrev pub WindowsThen : Type 0
WindowsThen = (run : RunsScripts) (numbers : List ℕ) → BehindIsThen (windows_behind run numbers) (windows_destroyed run numbers)
