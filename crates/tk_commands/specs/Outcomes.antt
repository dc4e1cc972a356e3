-- Meaning. What a command leaves of its application, and what comes of it.
use Rattle.std.specs.Prelude.{Ok, Err}
use Rattle.tcl_text.specs.Answers.{Answer}
use Rattle.tcl_vars.specs.Store.{Store}
use Rattle.tk_panel.specs.Panel.{Panel}
use Rattle.tk_commands.specs.declared.outcome.CommandOutcome.{CommandOutcome}
use Rattle.tk_commands.specs.declared.outcome.CommandOutcome.TheVariants.{Acts}
use Rattle.tk_widgets.specs.declared.outcome.WidgetAct.TheVariants as act

-- the panel and the variables that are left, and what comes of the command
pub record Ended (Outcome : Type 0) : Type 0 where
  pub panel : Panel
  pub store : Store
  pub outcome : Outcome

abbrev pub done : {Outcome : Type 0} → Panel → Store → Outcome → Ended Outcome
done panel store outcome = record { panel = panel; store = store; outcome = outcome }

abbrev pub Done : Type 0
Done = Ended CommandOutcome

-- the same of a command that has to do with no variables
pub record Told : Type 0 where
  pub panel : Panel
  pub outcome : CommandOutcome

abbrev pub with_store : Store → Told → Done
with_store store told = record { panel = told.panel; store = store; outcome = told.outcome }

abbrev pub told : Panel → CommandOutcome → Told
told panel outcome = record { panel = panel; outcome = outcome }

-- a command that answers
abbrev pub outcome_of : Answer → CommandOutcome
outcome_of (Ok text) = Acts (act.Answer text)
outcome_of (Err text) = Acts (act.Fault text)

abbrev pub answered : Panel × Answer → Told
answered there = told there.0 (outcome_of there.1)
