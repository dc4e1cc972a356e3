-- Meaning. What comes of a command.
use Rattle.std.specs.Prelude.{ℕ, List, [], Option, Some, None}
use Rattle.tcl_vars.specs.Store.{Store}
use Rattle.tk_class_commands.specs.declared.outcome.ClassOutcome.{ClassOutcome}
use Rattle.tk_class_commands.specs.declared.outcome.ClassOutcome.TheVariants.{Acts}
use Rattle.tk_inputs.specs.Deliver.{Arrivals}
use Rattle.tk_screen.specs.Own.{Windowing}
use Rattle.tk_widgets.specs.declared.outcome.WidgetAct.{WidgetAct}
use Rattle.tk_widgets.specs.declared.outcome.WidgetAct.TheVariants.{Answer, Fault}

-- the empty result
abbrev pub nothing : ClassOutcome
nothing = Acts (Answer [])

abbrev pub error : List ℕ → ClassOutcome
error text = Acts (Fault text)

-- what was told of a widget; the empty result where there is none
abbrev pub outcome_of : Option WidgetAct → ClassOutcome
outcome_of (Some act) = Acts act
outcome_of None = nothing

-- what is left of the application's windows and of what else a command of a widget has to do with, and what comes of it
pub record Told (Kept : Type 0) : Type 0 where
  pub own : Windowing
  pub kept : Kept
  pub outcome : ClassOutcome

abbrev pub told : {Kept : Type 0} → Windowing → Kept → ClassOutcome → Told Kept
told own kept outcome = record { own = own; kept = kept; outcome = outcome }

-- what is left of the application, and what comes of the command
pub record Done : Type 0 where
  pub own : Windowing
  -- what it keeps of its input, and the events that wait for it
  pub arrivals : Arrivals
  pub store : Store
  pub outcome : ClassOutcome

abbrev pub done : Windowing → Arrivals → Store → ClassOutcome → Done
done own arrivals store outcome = record { own = own; arrivals = arrivals; store = store; outcome = outcome }
