-- Steps. Jobs come to the equations, and commands to those of `Commands`, where `update` is what its job comes to.
use Rattle.std.specs.Prelude.{◌≡◌, ℕ, List}
use Rattle.tcl_interp.specs.Acts.{outside_meaning}
use Rattle.tcl_interp.specs.Evaluation.{State}
use Rattle.tk_sequences.specs.declared.event.Event.{Event}
use Rattle.tk_panel.specs.declared.job.Home.TheVariants.{IdleTasks, Update}
use Rattle.tk_panel.specs.declared.job.Rest.{Rest}
use Rattle.tk_panel.specs.Choice.{chosen}
use Rattle.tk_panel.specs.Panel.{Panel}
use Rattle.tk_panel.specs.Start.{without_event}
use Rattle.tk_commands.specs.Course.{destroying, event_job, settling as settling_to}
use Rattle.tk_app.specs.Commands.{command_meaning, scripts_in}
use Rattle.tk_app.specs.Destroy.{destroy_meaning}
use Rattle.tk_app.specs.Dispatch.{dispatch_meaning, followed_by, with_whole_panel}
use Rattle.tk_app.specs.Items.{idle_tasks_meaning}
use Rattle.tk_app.specs.Jobs.{meaning}
use Rattle.tk_app.specs.Outside.{outside, run_in}
use Rattle.tk_app.specs.Seen.{Seen}
use Rattle.tk_app.specs.SettleJob.{update_meaning}

-- Scripts by the equations of commands are scripts as the interpreter runs them, by acts and tasks.
abbrev pub ScriptsAreRun : Type 0
ScriptsAreRun = (room : ℕ) → scripts_in update_meaning room ≡ run_in room

-- So is each command, by whatever name it is called.
abbrev pub CommandsAreCalled : Type 0
CommandsAreCalled = (room : ℕ) (called name : List ℕ) (words : List (List ℕ)) (state : State Seen)
    → command_meaning update_meaning (scripts_in update_meaning room) called name words state ≡ outside_meaning outside (run_in room) called name words state

-- the job that `update` begins, and that of `update idletasks`
abbrev pub UpdateGoes : Type 0
UpdateGoes = (room : ℕ) (state : State Seen) → meaning room (settling_to Update) state ≡ update_meaning (scripts_in update_meaning room) state

abbrev pub UpdatesIdleTasks : Type 0
UpdatesIdleTasks = (room : ℕ) (state : State Seen) → meaning room (settling_to IdleTasks) state ≡ idle_tasks_meaning (scripts_in update_meaning room) state

-- *Dispatch*: once the scripts of an event are chosen, the job of running them, with what is behind it
abbrev pub Dispatches : Type 0
Dispatches = (room : ℕ) (event : Event) (rest : Rest) (state : State Seen)
    → (let there : Panel × List (List ℕ) = chosen event state.shows.panel in meaning room (event_job there.1 rest) (with_whole_panel there.0 state))
    ≡ followed_by (dispatch_meaning (scripts_in update_meaning room) event state) (meaning room (without_event rest))

-- the job that `destroy` begins with these paths is *Destroy* of them
abbrev pub Destroys : Type 0
Destroys = (room : ℕ) (paths : List (List ℕ)) (state : State Seen) → meaning room (destroying paths) state ≡ destroy_meaning (scripts_in update_meaning room) paths state
