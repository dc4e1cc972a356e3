-- Whatever meets the equation of `update` gives scripts the same meaning, where windows are sound.
use Rattle.std.proofs.Common.{◌≡◌, ℕ, false, List, [], ◌∷◌, Option, Some, None, refl, sym, ap, ◌∙◌, subst, arith}
use Rattle.tcl_interp.specs.Acts.{outside_meaning}
use Rattle.tcl_interp.specs.Evaluation.{State, Outcome, and_then}
use Rattle.tcl_interp.specs.ScriptLaws.{AgreesRun}
use Rattle.tcl_interp.specs.Scripts.{at_global, out_of_global}
use Rattle.tcl_interp.proofs.Agreeing.{agrees_where, same_run_at}
use Rattle.tcl_interp.proofs.Kept.{kept_outside}
use Rattle.tk_sequences.specs.declared.event.Event.{Event}
use Rattle.tk_tree.specs.declared.window.Window.{Window}
use Rattle.tk_tree.specs.Own.{window_at}
use Rattle.tk_panel.specs.declared.job.Home.TheVariants.{Update as UpdateHome}
use Rattle.tk_panel.specs.Changes.{laid_out}
use Rattle.tk_panel.specs.Choice.{chosen}
use Rattle.tk_panel.specs.Panel.{Panel, is_closed}
use Rattle.tk_panel.specs.Removal.{destroy_event, doomed_by, marked, removed}
use Rattle.tcl_interp.proofs.Loops.{scripts_take_no_steps_back}
use Rattle.tk_after.specs.Timers.{idle_ids}
use Rattle.tk_widgets.specs.declared.outcome.WidgetAct.TheVariants as act
use Rattle.tk_commands.specs.Commands.{panel_command}
use Rattle.tk_commands.specs.Course.{settling as settling_to}
use Rattle.tk_commands.specs.declared.outcome.Begun.{Begun}
use Rattle.tk_commands.specs.declared.outcome.Begun.TheVariants.{Updates as Updating, UpdatesIdleTasks, Destroys, Dispatches}
use Rattle.tk_commands.specs.declared.outcome.CommandOutcome.{CommandOutcome}
use Rattle.tk_commands.specs.declared.outcome.CommandOutcome.TheVariants as outcome
use Rattle.tk_commands.specs.Outcomes.{Done}
use Rattle.tk_app.specs.Commands.{Update, begun_meaning, command_meaning, meant_by, outcome_meaning, scripts_in}
use Rattle.tk_app.specs.Behind.{destroy_behind, destroyed_behind, dispatch_behind, idle_tasks_behind, item_behind, windows_behind}
use Rattle.tk_app.specs.Dispatch.{Action, RunsScripts, ends_there, global_meaning, with_whole_panel}
use Rattle.tk_app.specs.Items.{item_meaning, with_layout}
use Rattle.tk_app.specs.Jobs.{meaning, meaning_by}
use Rattle.tk_app.specs.Outside.{outside, run_in}
use Rattle.tk_app.specs.Seen.{Meaning, Seen, served_by}
use Rattle.tk_app.specs.Settle.{IsSoundIn, IsUpdate, OneSettle}
use Rattle.tk_app.specs.SettleJob.{OneUpdate, OnlySettle, OnlyUpdate, settle_meaning, update_meaning}
use Rattle.tk_app.specs.Sound.{EndsSound, ScriptsKeepSound, ScriptsTakeNoSteps}
use Rattle.tk_app.specs.SoundByJob.{KeepsSound}
use Rattle.tk_app.proofs.Behind.{destroy_is, dispatch_is, idle_tasks_are, item_is, settle_item_is}
use Rattle.tk_app.proofs.CommandTrees.{command_acts}
use Rattle.tk_app.proofs.Commands.{command_called, scripts_run}
use Rattle.tk_app.proofs.Equations.{settle_goes, update_goes}
use Rattle.tk_app.proofs.Only.{bound_same, only_one, round_same, sound_screen}
use Rattle.tk_app.proofs.Panels.{chosen_screen}
use Rattle.tk_app.proofs.Sound.{IsSoundShown, StaysSound, jobs_sound, run_keeps, scripts_sound, shown_keeps, sound_on_scene}
use Rattle.tk_app.proofs.Trees.{OnTrees, laid as laid_acts, marked_acts, removed_acts}

-- the same where windows are sound
abbrev pub Agrees : Action → Action → Type 0
Agrees f g = (state : State Seen) → IsSoundIn state → f state ≡ g state

-- ── two ways to run scripts that are the same where windows are sound ──

module _ (room : ℕ) (run : RunsScripts) (same_run : AgreesRun IsSoundShown (run_in room) run) where
  pub global_same : (script : List ℕ) → Agrees (global_meaning (run_in room) script) (global_meaning run script)
  global_same script state sound = same_run_at IsSoundShown (run_in room) run same_run (run_keeps room) 1 script state sound

  dispatch_same : (event : Event) (f g : Action) → Agrees f g → Agrees (dispatch_behind (run_in room) event f) (dispatch_behind run event g)
  dispatch_same event f g same state sound =
      let panel : Panel = state.shows.panel in
      let there : Panel × List (List ℕ) = chosen event panel in
      bound_same room run same_run state.steps f g (λ left kept few. same left kept) there.1 (with_whole_panel there.0 state) (sound_screen panel there.0 (chosen_screen event panel) sound) (omega arith)

  idle_tasks_same : Agrees (idle_tasks_behind (run_in room)) (idle_tasks_behind run)
  idle_tasks_same state sound =
      let first : Panel = laid_out state.store state.shows.panel in
      round_same room run same_run state.steps with_layout with_layout (λ left kept few. refl) (idle_ids first.timers.entries) (with_whole_panel first state)
      (laid_acts (OnTrees StaysSound) sound_on_scene state.store state.shows.panel sound) (omega arith)

  -- ── *Destroy* ──

  destroyed_same : (window : Option Window) (f g : Action) → Agrees f g → Agrees (destroyed_behind (run_in room) window f) (destroyed_behind run window g)
  destroyed_same None f g same state sound = same state sound
  destroyed_same (Some window) f g same state sound = dispatch_same (destroy_event window state.shows.panel.moment) f g same state sound

  windows_same : (numbers : List ℕ) (f g : Action) → Agrees f g → Agrees (windows_behind (run_in room) numbers f) (windows_behind run numbers g)
  windows_same [] f g same state sound = same state sound
  windows_same (number ∷ numbers) f g same state sound =
      destroyed_same (window_at number state.shows.panel.windowing.tree)
      (λ left. windows_behind (run_in room) numbers f (with_whole_panel (removed number left.shows.panel) left))
      (λ left. windows_behind run numbers g (with_whole_panel (removed number left.shows.panel) left))
      (λ left kept. windows_same numbers f g same (with_whole_panel (removed number left.shows.panel) left) (removed_acts (OnTrees StaysSound) sound_on_scene number left.shows.panel kept)) state sound

  pub destroy_same : (paths : List (List ℕ)) → Agrees (destroy_behind (run_in room) paths) (destroy_behind run paths)
  destroy_same [] state sound = refl
  destroy_same (path ∷ paths) state sound =
      let numbers : List ℕ = doomed_by path state.shows.panel in
      windows_same numbers (destroy_behind (run_in room) paths) (destroy_behind run paths) (destroy_same paths) (with_whole_panel (marked numbers state.shows.panel) state)
      (marked_acts (OnTrees StaysSound) sound_on_scene numbers state.shows.panel sound)

  -- ── commands, where something meets the equation of `update` in this room ──

  -- it is the job
  pub update_same : (other : Action) → ((state : State Seen) → IsSoundIn state → other state ≡ item_meaning run other state) → Agrees (meaning room (settling_to UpdateHome)) other
  update_same other meets state sound = only_one room run same_run (λ s. false) (meaning room (settling_to UpdateHome)) other (update_goes room)
      (λ state sound. meets state sound ∙ sym (item_is run other state)) state sound

  module _ (update : Update) (meets : (state : State Seen) → IsSoundIn state → update run state ≡ item_meaning run (update run) state) where
    begun_same : (begun : Begun) → Agrees (begun_meaning update_meaning (run_in room) begun) (begun_meaning update run begun)
    unfolding update_meaning
    begun_same Updating state sound = update_same (update run) meets state sound
    begun_same UpdatesIdleTasks state sound = sym (idle_tasks_are (run_in room) state) ∙ idle_tasks_same state sound ∙ idle_tasks_are run state
    begun_same (Destroys paths) state sound = sym (destroy_is (run_in room) paths state) ∙ destroy_same paths state sound ∙ destroy_is run paths state
    begun_same (Dispatches event) state sound =
        sym (dispatch_is (run_in room) event state) ∙ dispatch_same event ends_there ends_there (λ left kept. refl) state sound ∙ dispatch_is run event state

    outcome_same : (called : List ℕ) (came : CommandOutcome) → Agrees (outcome_meaning update_meaning (run_in room) called came) (outcome_meaning update run called came)
    outcome_same called (outcome.Acts (act.Answer text)) state sound = refl
    outcome_same called (outcome.Acts (act.Fault text)) state sound = refl
    outcome_same called (outcome.Acts (act.Script script)) state sound =
        ap (λ (o : Outcome Seen). and_then o (λ left code text. at_global left (out_of_global code) text)) (global_same script state sound)
    outcome_same called (outcome.Begins begun) state sound = begun_same begun state sound
    outcome_same called outcome.Unknown state sound = refl

    command_same : (called name : List ℕ) (words : List (List ℕ)) → Agrees (command_meaning update_meaning (run_in room) called name words) (command_meaning update run called name words)
    command_same called name words state sound = by (served_by name state.shows.serves)
      where
        by : (served : Option Meaning) → meant_by update_meaning served (run_in room) called name words state ≡ meant_by update served run called name words state
        by (Some meaning) = refl
        by None =
            let came : Done = panel_command (name ∷ words) state.shows.panel state.store in
            outcome_same called came.outcome (record (with_whole_panel came.panel state) { store = came.store }) (command_acts (OnTrees StaysSound) sound_on_scene (name ∷ words) state.shows.panel state.store sound)

-- ── the laws ──

module _ (update : Update) (meets : IsUpdate update) where
  -- scripts are what the interpreter makes of them
  pub scripts_same : (room : ℕ) → AgreesRun IsSoundShown (run_in room) (scripts_in update room)
  unfolding scripts_in
  scripts_same room =
      agrees_where IsSoundShown (outside_meaning outside) (command_meaning update)
      (λ inner keeps. kept_outside IsSoundShown outside shown_keeps (run_in inner) keeps)
      (λ inner same called name words state sound.
      command_called inner called name words state ∙ command_same inner (scripts_in update inner) same update (meets inner) called name words state sound) room

pub one_update : OneUpdate
one_update update meets room script state sound = sym (scripts_same update meets room script state sound) ∙ ap (λ (run : RunsScripts). run script state) (sym (scripts_run room))

pub only_update : OnlyUpdate
unfolding update_meaning
only_update update meets room other is state sound =
    sym (update_same room (scripts_in update room) (scripts_same update meets room) other is state sound)
    ∙ ap (λ (run : RunsScripts). meaning_by run (settling_to UpdateHome) state) (sym (scripts_run room))

pub only_settle : OnlySettle
only_settle update meets other is state sound =
    sym (only_one 200 (scripts_in update 200) (scripts_same update meets 200) (λ s. is_closed s.shows.panel) settle_meaning other settle_goes
    (λ state sound. is state sound ∙ sym (settle_item_is (scripts_in update 200) other state)) state sound)

pub one_settle : OneSettle
one_settle update is_update settle meets other_update is_other_update other_settle others_meet = record {
  settles = λ state sound. only_settle update is_update settle meets state sound ∙ sym (only_settle other_update is_other_update other_settle others_meet state sound);
  updates = λ room state sound.
      only_update update is_update room (update (scripts_in update room)) (is_update room) state sound
      ∙ sym (only_update other_update is_other_update room (other_update (scripts_in other_update room)) (is_other_update room) state sound);
  scripts = λ room script state sound. one_update update is_update room script state sound ∙ sym (one_update other_update is_other_update room script state sound);
}

pub keeps_sound : KeepsSound
keeps_sound room state sound = (
  (λ update meets script. subst EndsSound (global_same room (scripts_in update room) (scripts_same update meets room) script state sound) (scripts_sound room state sound script)),
  (λ job. jobs_sound room state sound job),
)

pub scripts_keep_sound : ScriptsKeepSound
scripts_keep_sound update meets room script state sound = (keeps_sound room state sound).0 update meets script

pub scripts_take_no_steps : ScriptsTakeNoSteps
scripts_take_no_steps update meets room script state after code text sound is =
    scripts_take_no_steps_back outside room script state after code text (scripts_same update meets room script state sound ∙ is)
