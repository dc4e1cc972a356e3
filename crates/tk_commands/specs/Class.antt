-- Meaning. The commands that class bindings run, from the words behind their names.
use Rattle.std.specs.Prelude.{ℕ, List}
use Rattle.tcl_vars.specs.Store.{Store}
use Rattle.tk_class_commands.specs.Commands.{class_command_done}
use Rattle.tk_class_commands.specs.declared.outcome.ClassOutcome.{ClassOutcome}
use Rattle.tk_class_commands.specs.declared.outcome.ClassOutcome.TheVariants as class
use Rattle.tk_class_commands.specs.Outcomes as outcomes
use Rattle.tk_class_commands.specs.Table.{ClassCommand}
use Rattle.tk_panel.specs.Panel.{Panel}
use Rattle.tk_panel.specs.Deliver.{arrivals_in}
use Rattle.tk_commands.specs.declared.outcome.CommandOutcome.TheVariants.{Acts}
use Rattle.tk_commands.specs.Dispatch.{selection_told}
use Rattle.tk_commands.specs.Outcomes.{Done, Ended, Told, done, told, with_store}

-- what is left of the application, and what comes of the command for the class
abbrev pub ClassDone : Type 0
ClassDone = Ended ClassOutcome

abbrev pub class_done : Panel → Store → ClassOutcome → ClassDone
class_done panel store outcome = done panel store outcome

abbrev pub with_done : Panel → outcomes.Done → ClassDone
with_done panel there =
    class_done (record panel { windowing = there.own; input = there.arrivals.input; queue = there.arrivals.queue }) there.store there.outcome

abbrev pub class_command : ClassCommand → List (List ℕ) → Panel → Store → ClassDone
class_command command words panel store =
    with_done panel (class_command_done command words panel.moment panel.windowing (arrivals_in panel) store)

-- a selection that was made is told at once
abbrev pub outcome_for : ClassOutcome → Panel → Told
outcome_for (class.Acts act) panel = told panel (Acts act)
outcome_for (class.Selects number) panel = selection_told number panel

abbrev pub outcome_told : ClassDone → Done
outcome_told there = with_store there.store (outcome_for there.outcome there.panel)

unfoldable pub class_told : ClassCommand → List (List ℕ) → Panel → Store → Done
class_told command words panel store = outcome_told (class_command command words panel store)
