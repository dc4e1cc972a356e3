-- What scripts at global level and layouts keep of what is on the screen, each item of what is to be done at a moment keeps.
use Rattle.std.proofs.Common.{◌≡◌, ℕ, zero, suc, List, [], ◌∷◌, Option, Some, None, sym, subst}
use Rattle.std.specs.Option.{option_or}
use Rattle.tcl_vars.specs.Store.{Store}
use Rattle.tcl_control.specs.declared.code.Code.{Code}
use Rattle.tcl_control.specs.declared.code.Code.TheVariants.{Normal, Error, Return, Break, Continue}
use Rattle.tcl_interp.specs.Evaluation.{State, Outcome, Ended, OutOfSteps, and_then, stepped}
use Rattle.tcl_interp.specs.Scripts.{out_of_global}
use Rattle.tk_after.specs.declared.waiting.WaitingScript.{WaitingScript}
use Rattle.tk_after.specs.Timers.{entry_with, first_due, idle_ids}
use Rattle.tk_packer.specs.declared.changes.PlaceChange.{PlaceChange}
use Rattle.tk_sequences.specs.declared.event.Event.{Event}
use Rattle.tk_screen.specs.Layout.{changes_due}
use Rattle.tk_screen.specs.Own.{Windowing}
use Rattle.tk_tree.specs.declared.window.Window.{Window}
use Rattle.tk_tree.specs.Own.{IsSound, window_at}
use Rattle.tk_panel.specs.Changes.{laid_out}
use Rattle.tk_panel.specs.Choice.{chosen}
use Rattle.tk_panel.specs.Panel.{Panel, with_queue}
use Rattle.tk_panel.specs.Removal.{destroy_event, removed}
use Rattle.tk_commands.specs.Ends.{with_end}
use Rattle.tk_app.specs.Commands.{Update, scripts_in}
use Rattle.tk_app.specs.Destroy.{destroy_dispatched, windows_destroyed}
use Rattle.tk_app.specs.Dispatch.{Action, RunsScripts, after_bound, bound_meaning, dispatch_meaning, ends_there, global_meaning, with_whole_panel}
use Rattle.tk_app.specs.Items.{event_item, first_item, idle_meaning, layout_item, round_item, round_meaning, timer_item, waiting_meaning, waiting_taken}
use Rattle.tk_app.specs.Seen.{Seen}
use Rattle.tk_app.specs.Settle.{IsUpdate}
use Rattle.tk_app.specs.Sound.{EndsWith, ItemsKeepSound}
use Rattle.tk_app.proofs.ByUpdate.{global_same, scripts_same}
use Rattle.tk_app.proofs.Panels.{chosen_screen}
use Rattle.tk_app.proofs.Sound.{OnScreen, scripts_so, sound_on_scene}
use Rattle.tk_app.proofs.Trees.{HoldsOnScene, Scene, end_screen, laid, scene_of}

module _ (holds : Windowing → Type 0) (run : RunsScripts)
    (runs : (script : List ℕ) (state : State Seen) → holds state.shows.panel.windowing → EndsWith holds (global_meaning run script state)) where
  abbrev Holds : State Seen → Type 0
  Holds state = holds state.shows.panel.windowing

  then_so : (o : Outcome Seen) (f : State Seen → Code → List ℕ → Outcome Seen) → EndsWith holds o
      → ((left : State Seen) (code : Code) (text : List ℕ) → Holds left → EndsWith holds (f left code text)) → EndsWith holds (and_then o f)
  then_so (Ended left code text) f kept rest = rest left code text kept
  then_so (OutOfSteps left) f kept rest = tt

  step_so : (steps : ℕ) (state : State Seen) (f : Action) → ((left : ℕ) → EndsWith holds (f (record state { steps = left }))) → EndsWith holds (stepped steps state f)
  step_so zero state f kept = tt
  step_so (suc left) state f kept = kept left

  screen_so : (old new : Panel) → new.windowing ≡ old.windowing → holds old.windowing → holds new.windowing
  screen_so old new same held = subst (λ (own : Windowing). holds own) (sym same) held

  -- ── *Dispatch* ──

  bound_ends : (others : Action) → ((left : State Seen) → Holds left → EndsWith holds (others left)) → (left : State Seen) (code : Code) (text : List ℕ) → Holds left
      → EndsWith holds (after_bound run others left code text)
  bound_ends others rest left Normal text held = rest left held
  bound_ends others rest left Error text held = held
  bound_ends others rest left (Return code) text held = rest left held
  bound_ends others rest left Break text held = held
  bound_ends others rest left Continue text held = rest left held

  bound_so : (scripts : List (List ℕ)) (state : State Seen) → Holds state → EndsWith holds (bound_meaning run scripts state)
  bound_so [] state held = held
  bound_so (script ∷ scripts) state held =
      step_so state.steps state
      (λ begun. and_then (global_meaning run script begun) (λ left code text. after_bound run (bound_meaning run scripts) left (out_of_global code) text))
      (λ steps. then_so (global_meaning run script (record state { steps = steps })) (λ left code text. after_bound run (bound_meaning run scripts) left (out_of_global code) text)
      (runs script (record state { steps = steps }) held)
      (λ left code text kept. bound_ends (bound_meaning run scripts) (bound_so scripts) left (out_of_global code) text kept))

  dispatch_so : (event : Event) (state : State Seen) → Holds state → EndsWith holds (dispatch_meaning run event state)
  dispatch_so event state held =
      let there : Panel × List (List ℕ) = chosen event state.shows.panel in
      bound_so there.1 (with_whole_panel there.0 state) (screen_so state.shows.panel there.0 (chosen_screen event state.shows.panel) held)

  -- ── *Destroy* ──

  pub destroyed_so : (window : Option Window) (state : State Seen) → Holds state → EndsWith holds (destroy_dispatched run window state)
  destroyed_so None state held = held
  destroyed_so (Some window) state held = dispatch_so (destroy_event window state.shows.panel.moment) state held

  module _ (removes : (number : ℕ) (panel : Panel) → holds panel.windowing → holds (removed number panel).windowing) where
    pub windows_so : (numbers : List ℕ) (state : State Seen) → Holds state → EndsWith holds (windows_destroyed run numbers state)
    windows_so [] state held = held
    windows_so (number ∷ numbers) state held =
        let window : Option Window = window_at number state.shows.panel.windowing.tree in
        then_so (destroy_dispatched run window state) (λ left code text. windows_destroyed run numbers (with_whole_panel (removed number left.shows.panel) left))
        (destroyed_so window state held)
        (λ left code text kept. windows_so numbers (with_whole_panel (removed number left.shows.panel) left) (removes number left.shows.panel kept))

  -- ── a timer, a round ──

  waiting_so : (id : ℕ) (script : List ℕ) (state : State Seen) → Holds state → EndsWith holds (waiting_meaning run id script state)
  waiting_so id script state held =
      then_so (global_meaning run script (with_whole_panel (waiting_taken id state.shows.panel) state))
      (λ left code text. ends_there (with_whole_panel (with_end (out_of_global code) text left.shows.panel) left))
      (runs script (with_whole_panel (waiting_taken id state.shows.panel) state) held)
      (λ left code text kept. screen_so left.shows.panel (with_end (out_of_global code) text left.shows.panel) (end_screen (out_of_global code) text left.shows.panel) kept)

  idle_so : (id : ℕ) (entry : Option WaitingScript) (state : State Seen) → Holds state → EndsWith holds (idle_meaning run id entry state)
  idle_so id None state held = held
  idle_so id (Some entry) state held =
      step_so state.steps state (waiting_meaning run id entry.script) (λ steps. waiting_so id entry.script (record state { steps = steps }) held)

  round_so : (ids : List ℕ) (state : State Seen) → Holds state → EndsWith holds (round_meaning run ids state)
  round_so [] state held = held
  round_so (id ∷ ids) state held =
      let entry : Option WaitingScript = entry_with id state.shows.panel.timers.entries in
      then_so (idle_meaning run id entry state) (λ left code text. round_meaning run ids left) (idle_so id entry state held) (λ left code text kept. round_so ids left kept)

  -- ── the first item that exists ──

  abbrev IsSo : Option (Outcome Seen) → Type 0
  IsSo None = Unit {0}
  IsSo (Some item) = EndsWith holds item

  or_so : (one other : Option (Outcome Seen)) → IsSo one → IsSo other → IsSo (option_or one other)
  or_so None other kept rest = rest
  or_so (Some item) other kept rest = kept

  event_so : (events : List Event) (state : State Seen) → Holds state → IsSo (event_item run events state)
  event_so [] state held = tt
  event_so (event ∷ events) state held = dispatch_so event (with_whole_panel (with_queue events state.shows.panel) state) held

  timer_so : (entry : Option WaitingScript) (state : State Seen) → Holds state → IsSo (timer_item run entry state)
  timer_so None state held = tt
  timer_so (Some entry) state held = idle_so entry.id (Some entry) state held

  waits_so : (ids : List ℕ) (state : State Seen) → Holds state → IsSo (round_item run ids state)
  waits_so [] state held = tt
  waits_so (id ∷ ids) state held = round_so (id ∷ ids) state held

  module _ (lays : (store : Store) (panel : Panel) → holds panel.windowing → holds (laid_out store panel).windowing) where
    layout_so : (changes : List PlaceChange) (state : State Seen) → Holds state → IsSo (layout_item changes state)
    layout_so [] state held = tt
    layout_so (change ∷ changes) state held = lays state.store state.shows.panel held

    first_so : (state : State Seen) → Holds state → IsSo (first_item run state)
    first_so state held =
        let panel : Panel = state.shows.panel in
        let event : Option (Outcome Seen) = event_item run panel.queue state in
        let timer : Option (Outcome Seen) = timer_item run (first_due panel.moment panel.timers.entries) state in
        let layout : Option (Outcome Seen) = layout_item (changes_due panel.windowing state.store) state in
        let round : Option (Outcome Seen) = round_item run (idle_ids panel.timers.entries) state in
        or_so event (option_or timer (option_or layout round)) (event_so panel.queue state held)
        (or_so timer (option_or layout round) (timer_so (first_due panel.moment panel.timers.entries) state held)
        (or_so layout round (layout_so (changes_due panel.windowing state.store) state held) (waits_so (idle_ids panel.timers.entries) state held)))

    pub item_so : (state : State Seen) (item : Outcome Seen) → Holds state → first_item run state ≡ Some item → EndsWith holds item
    item_so state item held is = subst IsSo is (first_so state held)

-- ── what holds of windows, and of what is packed, by whatever meets the equation of `update` ──

module _ (holds : Scene → Type 0) (acts : HoldsOnScene (λ old new. holds old → holds new)) (are_sound : (scene : Scene) → holds scene → IsSound scene.0) where
  pub scripts_keep : (update : Update) → IsUpdate update → (room : ℕ) (script : List ℕ) (state : State Seen) → OnScreen holds acts state.shows.panel.windowing
      → EndsWith (OnScreen holds acts) (global_meaning (scripts_in update room) script state)
  scripts_keep update meets room script state held =
      subst (EndsWith (OnScreen holds acts))
      (global_same room (scripts_in update room) (scripts_same update meets room) script state (are_sound (scene_of state.shows.panel.windowing) held)) (scripts_so holds acts room state held script)

  pub items_keep : (update : Update) → IsUpdate update → (room : ℕ) (state : State Seen) (item : Outcome Seen) → OnScreen holds acts state.shows.panel.windowing
      → first_item (scripts_in update room) state ≡ Some item → EndsWith (OnScreen holds acts) item
  items_keep update meets room state item held is =
      item_so (OnScreen holds acts) (scripts_in update room) (λ script state held. scripts_keep update meets room script state held)
      (λ store panel held. laid (λ old new. holds old → holds new) acts store panel held) state item held is

pub items_keep_sound : ItemsKeepSound
items_keep_sound = items_keep (λ scene. IsSound scene.0) sound_on_scene (λ scene sound. sound)
