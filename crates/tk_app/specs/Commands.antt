-- Meaning. What a command comes to that a script of an application calls, beside Tcl's own; and so what its scripts come to.
use Rattle.std.specs.Prelude.{ℕ, List, [], ◌∷◌, Option, Some, None, Ok, Err}
use Rattle.tcl_control.specs.declared.code.Code.TheVariants.{Normal, Error}
use Rattle.tcl_table.specs.Texts.{unknown_command}
use Rattle.tcl_interp.specs.Evaluation.{Ended, and_then}
use Rattle.tcl_interp.specs.Scripts.{CommandMeaning, at_global, out_of_global, scripts_by}
use Rattle.tk_alias.specs.Replies.{Answer}
use Rattle.tk_widgets.specs.declared.outcome.WidgetAct.{WidgetAct}
use Rattle.tk_widgets.specs.declared.outcome.WidgetAct.TheVariants as act
use Rattle.tk_commands.specs.Commands.{panel_command}
use Rattle.tk_commands.specs.declared.outcome.Begun.{Begun}
use Rattle.tk_commands.specs.declared.outcome.Begun.TheVariants.{Updates, UpdatesIdleTasks, Destroys, Dispatches}
use Rattle.tk_commands.specs.declared.outcome.CommandOutcome.{CommandOutcome}
use Rattle.tk_commands.specs.declared.outcome.CommandOutcome.TheVariants as outcome
use Rattle.tk_commands.specs.Outcomes.{Done}
use Rattle.tk_app.specs.Destroy.{destroy_meaning}
use Rattle.tk_app.specs.Dispatch.{Action, RunsScripts, dispatch_meaning, global_meaning, with_whole_panel}
use Rattle.tk_app.specs.Items.{idle_tasks_meaning}
use Rattle.tk_app.specs.Seen.{Meaning, Seen, served_by}

-- what `update` does, where scripts are run so
abbrev pub Update : Type 0
Update = RunsScripts → Action

-- How scripts are run is given.
module _ (run : RunsScripts) where
  -- a script that a command invokes runs at global level, and ends as the command does
  abbrev pub act_meaning : WidgetAct → Action
  act_meaning (act.Answer text) state = Ended state Normal text
  act_meaning (act.Fault text) state = Ended state Error text
  act_meaning (act.Script script) state = and_then (global_meaning run script state) (λ left code text. at_global left (out_of_global code) text)

-- what an alias answers
abbrev pub answered : Answer → Action
answered (Ok text) state = Ended state Normal text
answered (Err text) state = Ended state Error text

-- By what `update` is (update(n)): all that is to be done at the moment, be there a main window or not, whose equation is `IsUpdate` in `Settle`.
module _ (update : Update) where
  -- what a command begins; its answer is empty
  abbrev pub begun_meaning : RunsScripts → Begun → Action
  begun_meaning run Updates state = update run state
  begun_meaning run UpdatesIdleTasks state = idle_tasks_meaning run state
  begun_meaning run (Destroys paths) state = destroy_meaning run paths state
  begun_meaning run (Dispatches event) state = dispatch_meaning run event state

  -- of a command that is called by this name
  abbrev pub outcome_meaning : RunsScripts → List ℕ → CommandOutcome → Action
  outcome_meaning run called (outcome.Acts act) state = act_meaning run act state
  outcome_meaning run called (outcome.Begins begun) state = begun_meaning run begun state
  outcome_meaning run called outcome.Unknown state = Ended state Error (unknown_command called)

  -- a command of Tk, by its words, its name at first in front
  abbrev pub panel_meaning : RunsScripts → List ℕ → List (List ℕ) → Action
  panel_meaning run called words state =
      (let came : Done = panel_command words state.shows.panel state.store in
      outcome_meaning run called came.outcome (record (with_whole_panel came.panel state) { store = came.store }))

  -- an alias goes before the other commands, and changes nothing
  abbrev pub meant_by : Option Meaning → RunsScripts → List ℕ → List ℕ → List (List ℕ) → Action
  meant_by (Some meaning) run called name words state = answered (meaning words) state
  meant_by None run called name words state = panel_meaning run called (name ∷ words) state

  -- A command, by the name that it is called by and the one that it had at first, with the words behind it. Which command a script's word leads to, by a
  -- name that `rename` gave too, is `call_meaning` of tcl_interp.
  abbrev pub command_meaning : CommandMeaning Seen
  command_meaning run called name words state = meant_by (served_by name state.shows.serves) run called name words state

  -- scripts, with room for so many one in another
  unfoldable pub scripts_in : ℕ → RunsScripts
  scripts_in room = scripts_by command_meaning room
