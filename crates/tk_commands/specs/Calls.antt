-- Steps. The commands of an application, as its interpreter calls them: by acts, and by tasks that begin jobs. What a command does, `panel_command` says.
use Rattle.std.specs.Prelude.{ℕ, List}
use Rattle.tcl_vars.specs.Store.{Store}
use Rattle.tcl_control.specs.declared.code.Code.TheVariants.{Normal, Error}
use Rattle.tcl_interp.specs.declared.tasks.Act.{Act}
use Rattle.tcl_interp.specs.declared.tasks.Act.TheVariants as act
use Rattle.tcl_interp.specs.Outside.{Told}
use Rattle.tcl_interp.specs.declared.job.Task.{Task}
use Rattle.tcl_interp.specs.declared.job.Task.TheVariants.{Invoked}
use Rattle.tcl_interp.specs.Tasks.{looked_told, told}
use Rattle.tk_panel.specs.declared.job.Job.{Job}
use Rattle.tk_panel.specs.Panel.{Panel}
use Rattle.tk_commands.specs.declared.outcome.Begun.{Begun}
use Rattle.tk_commands.specs.declared.outcome.CommandOutcome.{CommandOutcome}
use Rattle.tk_commands.specs.declared.outcome.CommandOutcome.TheVariants as outcome
use Rattle.tk_commands.specs.Commands.{panel_command}
use Rattle.tk_commands.specs.Outcomes.{Done as Came}
use Rattle.tk_commands.specs.Course.{course, job_of}
use Rattle.tk_widgets.specs.declared.outcome.WidgetAct.{WidgetAct}
use Rattle.tk_widgets.specs.declared.outcome.WidgetAct.TheVariants as widget

abbrev pub Does : Type 0
Does = Told Panel (Task Job)

-- ── jobs ──

-- a command that begins something goes on with its job
abbrev pub goes_on : Begun → Panel → Store → Does
goes_on begun panel store = (let there : Panel × Job = job_of begun panel in looked_told course there.0 store there.1)

-- ── commands ──

abbrev pub act_of : WidgetAct → Act (Task Job)
act_of (widget.Answer text) = act.Done Normal text
act_of (widget.Fault text) = act.Done Error text
act_of (widget.Script script) = act.Run script Invoked

-- A script that a command runs ends as the command does, and so does what it begins.
abbrev pub outcome_told : CommandOutcome → Panel → Store → Does
outcome_told (outcome.Acts act) panel store = told panel store (act_of act)
outcome_told (outcome.Begins begun) panel store = goes_on begun panel store
outcome_told outcome.Unknown panel store = told panel store act.Unknown

-- what a command does, by its words, its name first
unfoldable pub calls : Panel → Store → List (List ℕ) → Does
calls panel store words = (let came : Came = panel_command words panel store in outcome_told came.outcome came.panel came.store)
