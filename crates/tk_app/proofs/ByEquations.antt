-- What holds where scripts are run as the interpreter runs them holds of scripts by the equations.
use Rattle.std.proofs.Common.{◌≡◌, ℕ, sym, ap, ◌∙◌, subst}
use Rattle.tk_panel.specs.declared.job.Home.TheVariants.{Update}
use Rattle.tk_panel.specs.Start.{without_event}
use Rattle.tk_commands.specs.Course.{settling as settling_to}
use Rattle.tk_app.specs.Commands.{command_meaning, scripts_in}
use Rattle.tk_app.specs.Destroy.{destroy_meaning}
use Rattle.tk_app.specs.Dispatch.{RunsScripts, dispatch_meaning, followed_by}
use Rattle.tk_app.specs.Items.{idle_tasks_meaning, item_meaning, settle_item}
use Rattle.tk_app.specs.JobLaws.{CommandsAreCalled, Destroys, Dispatches, ScriptsAreRun, UpdateGoes, UpdatesIdleTasks}
use Rattle.tk_app.specs.Jobs.{meaning, meaning_by}
use Rattle.tk_app.specs.Outside.{run_in}
use Rattle.tk_app.specs.Settle.{EquationsAreMet}
use Rattle.tk_app.specs.SettleJob.{Settles, Updates, settle_meaning, update_meaning}
use Rattle.tk_app.proofs.Behind.{destroy_is, idle_tasks_are, item_is, settle_item_is, then_dispatched}
use Rattle.tk_app.proofs.Commands.{command_called, scripts_run}
use Rattle.tk_app.proofs.Equations.{destroy_goes, dispatch_goes, idle_tasks_go, settle_goes, update_goes}

-- what holds of scripts as they are run
by_run : (P : RunsScripts → Type 0) (room : ℕ) → P (run_in room) → P (scripts_in update_meaning room)
by_run P room holds = subst P (sym (scripts_run room)) holds

pub scripts_are_run : ScriptsAreRun
scripts_are_run room = scripts_run room

pub commands_are_called : CommandsAreCalled
commands_are_called room called name words state =
    ap (λ (run : RunsScripts). command_meaning update_meaning run called name words state) (scripts_run room) ∙ sym (command_called room called name words state)

pub dispatches : Dispatches
dispatches room event rest state =
    dispatch_goes room event rest state
    ∙ (then_dispatched (run_in room) event (meaning room (without_event rest)) state).0
    ∙ ap (λ (run : RunsScripts). followed_by (dispatch_meaning run event state) (meaning room (without_event rest))) (sym (scripts_run room))

pub destroys_all : Destroys
destroys_all room paths state = destroy_goes room paths state ∙ destroy_is (run_in room) paths state ∙ ap (λ (run : RunsScripts). destroy_meaning run paths state) (sym (scripts_run room))

pub updates_idle : UpdatesIdleTasks
updates_idle room state = idle_tasks_go room state ∙ idle_tasks_are (run_in room) state ∙ ap (λ (run : RunsScripts). idle_tasks_meaning run state) (sym (scripts_run room))

pub update_job : UpdateGoes
unfolding update_meaning
update_job room state = ap (λ (run : RunsScripts). meaning_by run (settling_to Update) state) (sym (scripts_run room))

pub updates : Updates
unfolding update_meaning
updates room state sound = by_run (λ (run : RunsScripts). meaning_by run (settling_to Update) state ≡ item_meaning run (meaning_by run (settling_to Update)) state) room
    (update_goes room state sound ∙ item_is (run_in room) (meaning_by (run_in room) (settling_to Update)) state)

pub settles_all : Settles
settles_all state sound = settle_goes state sound ∙ settle_item_is (run_in 200) settle_meaning state ∙ ap (λ (run : RunsScripts). settle_item run settle_meaning state) (sym (scripts_run 200))

pub equations_are_met : EquationsAreMet
equations_are_met = (update_meaning, updates, (settle_meaning, settles_all))
