-- What is behind *Dispatch*, a round, *Destroy* and what there is to do is done once they have ended: so jobs do what the definitions say.
use Rattle.std.proofs.Common.{◌≡◌, ℕ, zero, suc, cond, List, [], ◌∷◌, Option, Some, None, refl, sym, ap, ◌∙◌}
use Rattle.std.proofs.Math.Path.{fun_ext}
use Rattle.std.specs.Option.{option_or}
use Rattle.tcl_control.specs.declared.code.Code.{Code}
use Rattle.tcl_control.specs.declared.code.Code.TheVariants.{Normal, Error, Return, Break, Continue}
use Rattle.tcl_interp.specs.Evaluation.{State, Outcome, Ended, OutOfSteps, and_then, stepped}
use Rattle.tcl_interp.specs.Scripts.{out_of_global}
use Rattle.tk_after.specs.declared.waiting.WaitingScript.{WaitingScript}
use Rattle.tk_after.specs.Timers.{entry_with, first_due, idle_ids}
use Rattle.tk_packer.specs.declared.changes.PlaceChange.{PlaceChange}
use Rattle.tk_sequences.specs.declared.event.Event.{Event}
use Rattle.tk_tree.specs.declared.window.Window.{Window}
use Rattle.tk_tree.specs.Own.{window_at}
use Rattle.tk_screen.specs.Layout.{changes_due}
use Rattle.tk_panel.specs.declared.transcript.Stream.TheVariants.{Err as Errors}
use Rattle.tk_panel.specs.Changes.{laid_out}
use Rattle.tk_panel.specs.Choice.{chosen}
use Rattle.tk_panel.specs.Panel.{Panel, is_closed, with_queue}
use Rattle.tk_panel.specs.Removal.{destroy_event, doomed_by, marked, removed}
use Rattle.tk_panel.specs.Reports.{with_line}
use Rattle.tk_commands.specs.Ends.{with_end}
use Rattle.tk_app.specs.Behind.{DispatchThen, EndsEmpty, IsThen, RoundThen, WindowsThen, after_bound_behind, bound_behind, destroy_behind, destroyed_behind, dispatch_behind, idle_behind, idle_tasks_behind, item_behind, layout_or_behind, queued_or_behind, round_behind, round_or_behind, settle_item_behind, timer_or_behind, waiting_behind, windows_behind}
use Rattle.tk_app.specs.Destroy.{destroy_dispatched, destroy_meaning, windows_destroyed}
use Rattle.tk_app.specs.Dispatch.{Action, RunsScripts, after_bound, bound_meaning, dispatch_meaning, ends_there, followed_by, global_meaning, with_whole_panel}
use Rattle.tk_app.specs.Items.{done_and, event_item, idle_meaning, idle_tasks_meaning, item_meaning, layout_item, round_item, round_meaning, settle_item, timer_item, waiting_meaning, waiting_taken, with_layout}
use Rattle.tk_app.specs.Seen.{Seen}

-- ── one thing and another ──

-- behind nothing it is done at once
at_once : (behind : Action) (state : State Seen) → IsThen (ends_there state) behind (behind state)
at_once behind state = (refl, (refl, refl))

then_stepped : (behind first whole : Action) → ((begun : State Seen) → IsThen (first begun) behind (whole begun))
    → (steps : ℕ) (state : State Seen) → IsThen (stepped steps state first) behind (stepped steps state whole)
then_stepped behind first whole rest zero state = (refl, tt)
then_stepped behind first whole rest (suc left) state = rest (record state { steps = left })

then_run : (behind : Action) (first whole : State Seen → Code → List ℕ → Outcome Seen)
    → ((left : State Seen) (code : Code) (text : List ℕ) → IsThen (first left code text) behind (whole left code text))
    → (o : Outcome Seen) → IsThen (and_then o first) behind (and_then o whole)
then_run behind first whole rest (Ended left code text) = rest left code text
then_run behind first whole rest (OutOfSteps left) = (refl, tt)

-- what is behind something is itself done first, and then what is behind that
then_on : (behind next nexts : Action) → ((left : State Seen) → IsThen (next left) behind (nexts left))
    → (first whole : Outcome Seen) → whole ≡ followed_by first nexts → IsThen (followed_by first next) behind whole
then_on behind next nexts rest (Ended left code text) whole is = (is ∙ (rest left).0, (rest left).1)
then_on behind next nexts rest (OutOfSteps left) whole is = (is, tt)

-- with nothing behind it, it is all
alone : (first : Outcome Seen) → EndsEmpty first → followed_by first ends_there ≡ first
alone (Ended left code text) (normal, empty) = ap (λ c. Ended left c []) (sym normal) ∙ ap (λ t. Ended left code t) (sym empty)
alone (OutOfSteps left) ends = refl

module _ (run : RunsScripts) where
  -- ── an event's scripts ──

  then_bound : (behind : Action) (scripts : List (List ℕ)) (state : State Seen) → IsThen (bound_meaning run scripts state) behind (bound_behind run scripts behind state)
  then_bound behind [] state = at_once behind state
  then_bound behind (script ∷ scripts) state =
      then_stepped behind
      (λ begun. and_then (global_meaning run script begun) (λ left code text. after_bound run (bound_meaning run scripts) left (out_of_global code) text))
      (λ begun. and_then (global_meaning run script begun) (λ left code text. after_bound_behind run (bound_behind run scripts behind) behind left (out_of_global code) text))
      (λ begun. then_run behind
      (λ left code text. after_bound run (bound_meaning run scripts) left (out_of_global code) text)
      (λ left code text. after_bound_behind run (bound_behind run scripts behind) behind left (out_of_global code) text)
      (λ left code text. by (then_bound behind scripts) left (out_of_global code) text) (global_meaning run script begun)) state.steps state
    where
      by : ((left : State Seen) → IsThen (bound_meaning run scripts left) behind (bound_behind run scripts behind left)) → (left : State Seen) (code : Code) (text : List ℕ)
          → IsThen (after_bound run (bound_meaning run scripts) left code text) behind (after_bound_behind run (bound_behind run scripts behind) behind left code text)
      by others left Normal text = others left
      by others left Error text = at_once behind (with_whole_panel (with_line Errors text left.shows.panel) left)
      by others left (Return code) text = others left
      by others left Break text = at_once behind left
      by others left Continue text = others left

  pub then_dispatched : (event : Event) (behind : Action) (state : State Seen) → IsThen (dispatch_meaning run event state) behind (dispatch_behind run event behind state)
  then_dispatched event behind state = let there : Panel × List (List ℕ) = chosen event state.shows.panel in then_bound behind there.1 (with_whole_panel there.0 state)

  pub dispatch_is : (event : Event) (state : State Seen) → dispatch_behind run event ends_there state ≡ dispatch_meaning run event state
  dispatch_is event state = let whole = then_dispatched event ends_there state in whole.0 ∙ alone (dispatch_meaning run event state) whole.1

  -- ── timers and idle scripts ──

  then_waiting : (id : ℕ) (script : List ℕ) (behind : Action) (state : State Seen) → IsThen (waiting_meaning run id script state) behind (waiting_behind run id script behind state)
  then_waiting id script behind state =
      then_run behind
      (λ left code text. ends_there (with_whole_panel (with_end (out_of_global code) text left.shows.panel) left))
      (λ left code text. behind (with_whole_panel (with_end (out_of_global code) text left.shows.panel) left))
      (λ left code text. at_once behind (with_whole_panel (with_end (out_of_global code) text left.shows.panel) left)) (global_meaning run script (with_whole_panel (waiting_taken id state.shows.panel) state))

  then_taken : (entry : WaitingScript) (behind : Action) (state : State Seen)
      → IsThen (stepped state.steps state (waiting_meaning run entry.id entry.script)) behind (stepped state.steps state (waiting_behind run entry.id entry.script behind))
  then_taken entry behind state =
      then_stepped behind (waiting_meaning run entry.id entry.script) (waiting_behind run entry.id entry.script behind) (λ begun. then_waiting entry.id entry.script behind begun) state.steps state

  then_idle : (id : ℕ) (entry : Option WaitingScript) (behind : Action) (state : State Seen) → IsThen (idle_meaning run id entry state) behind (idle_behind run id entry behind state)
  then_idle id None behind state = at_once behind state
  then_idle id (Some entry) behind state =
      then_stepped behind (waiting_meaning run id entry.script) (waiting_behind run id entry.script behind) (λ begun. then_waiting id entry.script behind begun) state.steps state

  then_round : (behind : Action) (ids : List ℕ) (state : State Seen) → IsThen (round_meaning run ids state) behind (round_behind run ids behind state)
  then_round behind [] state = at_once behind state
  then_round behind (id ∷ ids) state =
      let entry : Option WaitingScript = entry_with id state.shows.panel.timers.entries in
      then_on behind (round_meaning run ids) (round_behind run ids behind) (then_round behind ids) (idle_meaning run id entry state) (idle_behind run id entry (round_behind run ids behind) state)
      (then_idle id entry (round_behind run ids behind) state).0

  pub idle_tasks_are : (state : State Seen) → idle_tasks_behind run state ≡ idle_tasks_meaning run state
  idle_tasks_are state =
      let first : Panel = laid_out state.store state.shows.panel in (then_round with_layout (idle_ids first.timers.entries) (with_whole_panel first state)).0

  -- ── *Destroy* ──

  then_destroyed : (window : Option Window) (behind : Action) (state : State Seen) → IsThen (destroy_dispatched run window state) behind (destroyed_behind run window behind state)
  then_destroyed None behind state = at_once behind state
  then_destroyed (Some window) behind state = then_dispatched (destroy_event window state.shows.panel.moment) behind state

  then_windows : (behind : Action) (numbers : List ℕ) (state : State Seen) → IsThen (windows_destroyed run numbers state) behind (windows_behind run numbers behind state)
  then_windows behind [] state = at_once behind state
  then_windows behind (number ∷ numbers) state =
      let window : Option Window = window_at number state.shows.panel.windowing.tree in
      let others : Action = λ left. windows_behind run numbers behind (with_whole_panel (removed number left.shows.panel) left) in
      then_on behind (λ left. windows_destroyed run numbers (with_whole_panel (removed number left.shows.panel) left)) others
      (λ left. then_windows behind numbers (with_whole_panel (removed number left.shows.panel) left)) (destroy_dispatched run window state) (destroyed_behind run window others state)
      (then_destroyed window others state).0

  pub destroy_is : (paths : List (List ℕ)) (state : State Seen) → destroy_behind run paths state ≡ destroy_meaning run paths state
  destroy_is [] state = refl
  destroy_is (path ∷ paths) state =
      let numbers : List ℕ = doomed_by path state.shows.panel in
      let begun : State Seen = with_whole_panel (marked numbers state.shows.panel) state in
      (then_windows (destroy_behind run paths) numbers begun).0
      ∙ ap (λ (behind : Action). followed_by (windows_destroyed run numbers begun) behind) (fun_ext (λ left. destroy_is paths left))

  -- ── what there is to do ──

  module _ (again : Action) where
    round_is : (ids : List ℕ) (state : State Seen) → round_or_behind run ids again state ≡ done_and (round_item run ids state) again state
    round_is [] state = refl
    round_is (id ∷ ids) state = (then_round again (id ∷ ids) state).0

    layout_is : (changes : List PlaceChange) (state : State Seen)
        → layout_or_behind run changes again state ≡ done_and (option_or (layout_item changes state) (round_item run (idle_ids state.shows.panel.timers.entries) state)) again state
    layout_is [] state = round_is (idle_ids state.shows.panel.timers.entries) state
    layout_is (change ∷ changes) state = refl

    timer_is : (first : Option WaitingScript) (state : State Seen)
        → timer_or_behind run first again state
        ≡ done_and
        (option_or (timer_item run first state)
        (option_or (layout_item (changes_due state.shows.panel.windowing state.store) state) (round_item run (idle_ids state.shows.panel.timers.entries) state))) again state
    timer_is None state = layout_is (changes_due state.shows.panel.windowing state.store) state
    timer_is (Some entry) state = (then_taken entry again state).0

    queued_is : (queue : List Event) (state : State Seen)
        → queued_or_behind run queue again state
        ≡ done_and
        (option_or (event_item run queue state)
        (option_or (timer_item run (first_due state.shows.panel.moment state.shows.panel.timers.entries) state)
        (option_or (layout_item (changes_due state.shows.panel.windowing state.store) state) (round_item run (idle_ids state.shows.panel.timers.entries) state)))) again state
    queued_is [] state = timer_is (first_due state.shows.panel.moment state.shows.panel.timers.entries) state
    queued_is (event ∷ events) state = (then_dispatched event again (with_whole_panel (with_queue events state.shows.panel) state)).0

    pub item_is : (state : State Seen) → item_behind run again state ≡ item_meaning run again state
    item_is state = queued_is state.shows.panel.queue state

    pub settle_item_is : (state : State Seen) → settle_item_behind run again state ≡ settle_item run again state
    settle_item_is state = ap (λ (o : Outcome Seen). cond (is_closed state.shows.panel) (ends_there state) o) (item_is state)

pub dispatch_then : DispatchThen
dispatch_then run event behind state = then_dispatched run event behind state

pub round_then : RoundThen
round_then run ids behind state = then_round run behind ids state

pub windows_then : WindowsThen
windows_then run numbers behind state = then_windows run behind numbers state
