-- Meaning. A window's own command, `path ..`.
use Rattle.std.specs.Prelude.{ℕ, List, Option, Some, None}
use Rattle.tcl_vars.specs.Store.{Store}
use Rattle.tk_panel.specs.Panel.{Panel}
use Rattle.tk_commands.specs.declared.outcome.CommandOutcome.{CommandOutcome}
use Rattle.tk_commands.specs.declared.outcome.CommandOutcome.TheVariants.{Acts, Unknown}
use Rattle.tk_commands.specs.Outcomes.{Done, done}
use Rattle.tk_screen.specs.Changes.{Changed}
use Rattle.tk_widgets.specs.declared.outcome.WidgetAct.{WidgetAct}
use Rattle.tk_window_commands.specs.Path.{path_words}

-- what comes of it: there is no command where nothing was told
abbrev pub outcome_of : Option WidgetAct → CommandOutcome
outcome_of (Some act) = Acts act
outcome_of None = Unknown

abbrev pub with_changed : Panel → Changed → Done
with_changed panel there = done (record panel { windowing = there.own }) there.store (outcome_of there.act)

-- the path, and the words behind it
abbrev pub path_told : List ℕ → List (List ℕ) → Panel → Store → Done
path_told path words panel store = with_changed panel (path_words path words panel.windowing store)
