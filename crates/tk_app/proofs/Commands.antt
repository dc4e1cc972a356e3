-- Commands as the interpreter calls them are those of the equations, and so are scripts.
use Rattle.std.proofs.Common.{◌≡◌, ℕ, List, [], ◌∷◌, Option, Some, None, refl, sym, ap, ◌∙◌}
use Rattle.std.specs.Prelude.{Ok, Err, option_map}
use Rattle.tcl_vars.specs.Store.{Store}
use Rattle.tcl_control.specs.declared.code.Code.{Code}
use Rattle.tcl_control.specs.declared.code.Code.TheVariants.{Normal, Error, Return, Break, Continue}
use Rattle.tcl_table.specs.Texts.{unknown_command}
use Rattle.tcl_interp.specs.Acts.{act_meaning as by_act, outside_meaning, task_meaning, told_state}
use Rattle.tcl_interp.specs.declared.job.Task.{Task}
use Rattle.tcl_interp.specs.declared.job.Task.TheVariants.{Invoked}
use Rattle.tcl_interp.specs.Evaluation.{State, Outcome, Ended, OutOfSteps, and_then}
use Rattle.tcl_interp.specs.Outside.{Told}
use Rattle.tcl_interp.specs.Scripts.{at_global, out_of_global}
use Rattle.tcl_interp.specs.Tasks.{act_of, looked_told}
use Rattle.tcl_interp.proofs.Agreeing.{scripts_agree}
use Rattle.tk_alias.specs.Replies.{Answer}
use Rattle.tk_panel.specs.declared.job.Home.TheVariants.{IdleTasks, Update}
use Rattle.tk_panel.specs.declared.job.Job.{Job}
use Rattle.tk_panel.specs.declared.job.Rest.TheVariants.{Ends as NoRest}
use Rattle.tk_panel.specs.Choice.{chosen}
use Rattle.tk_panel.specs.Next.{next}
use Rattle.tk_panel.specs.Panel.{Panel}
use Rattle.tk_panel.specs.Settle.{Next}
use Rattle.tk_panel.specs.Start.{without_event}
use Rattle.tk_widgets.specs.declared.outcome.WidgetAct.TheVariants as widget
use Rattle.tk_commands.specs.Calls.{calls as panel_calls, goes_on, outcome_told}
use Rattle.tk_commands.specs.Commands.{panel_command}
use Rattle.tk_commands.specs.Course.{course as panel_course, destroying, event_job, looked_of, settling as settling_to}
use Rattle.tk_commands.specs.declared.outcome.Begun.{Begun}
use Rattle.tk_commands.specs.declared.outcome.Begun.TheVariants.{Updates, UpdatesIdleTasks, Destroys, Dispatches}
use Rattle.tk_commands.specs.declared.outcome.CommandOutcome.{CommandOutcome}
use Rattle.tk_commands.specs.declared.outcome.CommandOutcome.TheVariants as outcome
use Rattle.tk_commands.specs.Outcomes.{Done}
use Rattle.tk_app.specs.Begun.{shown_with}
use Rattle.tk_app.specs.Commands.{act_meaning, begun_meaning, command_meaning, meant_by, outcome_meaning, scripts_in}
use Rattle.tk_app.specs.Dispatch.{ends_there, global_meaning, with_whole_panel}
use Rattle.tk_app.specs.Jobs.{meaning}
use Rattle.tk_app.specs.Outside.{act_of as alias_answer, by_panel, called_as, outside, run_in}
use Rattle.tk_app.specs.Seen.{Meaning, Seen, served_by}
use Rattle.tk_app.specs.SettleJob.{update_meaning}
use Rattle.tk_app.proofs.Behind.{destroy_is, dispatch_is, idle_tasks_are}
use Rattle.tk_app.proofs.CommandMoments.{command_moment}
use Rattle.tk_app.proofs.Equations.{bound_same, destroy_goes, dispatch_goes, idle_tasks_go}
use Rattle.tk_app.proofs.Nexts.{goes_by_next}
use Rattle.tk_app.proofs.Panels.{chosen_moment}

module _ (room : ℕ) (called : List ℕ) where
  abbrev by_told : State Seen → Told Seen (Task Job) → Outcome Seen
  by_told state told = by_act outside (run_in room) called (told_state told state) told.act

  -- ── what commands begin ──

  -- what comes next is told under any name
  same_name : (found : Option Job) (state : State Seen) → by_act outside (run_in room) called state (act_of (looked_of found)) ≡ by_act outside (run_in room) [] state (act_of (looked_of found))
  same_name None state = refl
  same_name (Some job) state = refl

  job_goes : (job : Job) (panel : Panel) (store : Store) (state : State Seen) → panel.moment ≡ state.shows.panel.moment
      → by_told state (by_panel state.shows (looked_told panel_course panel store job)) ≡ meaning room job (shown_with panel store state)
  job_goes job panel store state same =
      let seen : Seen = state.shows in
      let there : Next = next job store panel in
      ap (λ m. by_told state (record { shows = record seen { panel = record there.0 { moment = m } }; store = store; act = act_of (looked_of there.1) })) (sym same)
      ∙ same_name there.1 (record state { shows = record seen { panel = record there.0 { moment = panel.moment } }; store = store })

  begun_goes : (begun : Begun) (panel : Panel) (store : Store) (state : State Seen) → panel.moment ≡ state.shows.panel.moment
      → by_told state (by_panel state.shows (goes_on begun panel store)) ≡ begun_meaning update_meaning (run_in room) begun (shown_with panel store state)
  unfolding update_meaning
  begun_goes Updates panel store state same = job_goes (settling_to Update) panel store state same
  begun_goes UpdatesIdleTasks panel store state same = job_goes (settling_to IdleTasks) panel store state same ∙ idle_tasks_go room (shown_with panel store state) ∙ idle_tasks_are (run_in room) (shown_with panel store state)
  begun_goes (Destroys paths) panel store state same = job_goes (destroying paths) panel store state same ∙ destroy_goes room paths (shown_with panel store state) ∙ destroy_is (run_in room) paths (shown_with panel store state)
  begun_goes (Dispatches event) panel store state same =
      let there : Panel × List (List ℕ) = chosen event panel in
      job_goes (event_job there.1 NoRest) there.0 store state (chosen_moment event panel ∙ same)
      ∙ dispatch_goes room event NoRest (shown_with panel store state)
      ∙ bound_same room there.1 (meaning room (without_event NoRest)) ends_there (λ left. goes_by_next room (without_event NoRest) left) (with_whole_panel there.0 (shown_with panel store state))
      ∙ dispatch_is (run_in room) event (shown_with panel store state)

  -- ── commands ──

  invoked : (state : State Seen) (code : Code) (text : List ℕ) → task_meaning outside (run_in room) Invoked state code text ≡ at_global state code text
  invoked state Normal text = refl
  invoked state Error text = refl
  invoked state (Return code) text = refl
  invoked state Break text = refl
  invoked state Continue text = refl

  -- what ends so, and then as a script that was invoked
  ends_invoked : (o : Outcome Seen) → and_then o (λ left code text. task_meaning outside (run_in room) Invoked left (out_of_global code) text)
      ≡ and_then o (λ left code text. at_global left (out_of_global code) text)
  ends_invoked (Ended left code text) = invoked left (out_of_global code) text
  ends_invoked (OutOfSteps left) = refl

  outcome_goes : (came : CommandOutcome) (panel : Panel) (store : Store) (state : State Seen) → panel.moment ≡ state.shows.panel.moment
      → by_told state (by_panel state.shows (outcome_told came panel store)) ≡ outcome_meaning update_meaning (run_in room) called came (shown_with panel store state)
  outcome_goes (outcome.Acts (widget.Answer text)) panel store state same = ap (λ m. Ended (shown_with (record panel { moment = m }) store state) Normal text) (sym same)
  outcome_goes (outcome.Acts (widget.Fault text)) panel store state same = ap (λ m. Ended (shown_with (record panel { moment = m }) store state) Error text) (sym same)
  outcome_goes (outcome.Acts (widget.Script script)) panel store state same =
      ends_invoked (global_meaning (run_in room) script (shown_with (record panel { moment = state.shows.panel.moment }) store state))
      ∙ ap (λ m. act_meaning (run_in room) (widget.Script script) (shown_with (record panel { moment = m }) store state)) (sym same)
  outcome_goes (outcome.Begins begun) panel store state same = begun_goes begun panel store state same
  outcome_goes outcome.Unknown panel store state same = ap (λ m. Ended (shown_with (record panel { moment = m }) store state) Error (unknown_command called)) (sym same)

  pub command_called : (name : List ℕ) (words : List (List ℕ)) (state : State Seen)
      → outside_meaning outside (run_in room) called name words state ≡ command_meaning update_meaning (run_in room) called name words state
  unfolding panel_calls
  command_called name words state = by (served_by name state.shows.serves)
    where
      answers : (answer : Answer) → by_told state (record { shows = state.shows; store = state.store; act = alias_answer answer }) ≡ meant_by update_meaning (Some (λ _. answer)) (run_in room) called name words state
      answers (Ok text) = refl
      answers (Err text) = refl

      by : (served : Option Meaning)
          → by_told state (called_as (option_map (λ meaning. alias_answer (meaning words)) served) (name ∷ words) state.shows state.store) ≡ meant_by update_meaning served (run_in room) called name words state
      by (Some meaning) = answers (meaning words)
      by None =
          let came : Done = panel_command (name ∷ words) state.shows.panel state.store in
          outcome_goes came.outcome came.panel came.store state (command_moment (name ∷ words) state.shows.panel state.store)

pub scripts_run : (room : ℕ) → scripts_in update_meaning room ≡ run_in room
unfolding scripts_in
scripts_run room =
    sym (scripts_agree (outside_meaning outside) (command_meaning update_meaning) (λ room called name words state. command_called room called name words state) room)
