-- Meaning. A window's own command, `path ..`, whose first word is the window's path.
use Rattle.std.specs.Prelude.{ℕ, List, None, Some}
use Rattle.std.specs.Option.{option_map_or}
use Rattle.tcl_vars.specs.Store.{Store}
use Rattle.tk_screen.specs.Changes.{Changed, stays, changed}
use Rattle.tk_screen.specs.Own.{Windowing}
use Rattle.tk_screen.specs.Shapes.{variable_text}
use Rattle.tk_screen.specs.Widgets.{widget_at}
use Rattle.tk_tree.specs.Own.{at_path}
use Rattle.tk_widgets.specs.Commands.{wanted}
use Rattle.tk_widgets.specs.declared.outcome.WidgetRequest.{WidgetRequest}
use Rattle.tk_widgets.specs.declared.outcome.WidgetRequest.TheVariants.{Done, Wants}
use Rattle.tk_widgets.specs.Outcomes.{asked_by}

-- what the widget's words ask for: to be told something, or a change
abbrev pub asked_of : ℕ → WidgetRequest → Windowing → Store → Changed
asked_of number (Done act) own store = stays own store (Some act)
asked_of number (Wants change) own store = changed number change own store

-- the words for the widget of the window with a number
abbrev pub widget_words : ℕ → List (List ℕ) → Windowing → Store → Changed
widget_words number words own store =
    option_map_or (λ widget. asked_of number (asked_by (wanted words (variable_text widget store) widget)) own store) (widget_at number own.widgets)
    (stays own store None)

-- the words behind a path; nothing is told where it names no window, so that there is no such command
unfoldable pub path_words : List ℕ → List (List ℕ) → Windowing → Store → Changed
path_words path words own store =
    option_map_or (λ window. widget_words window.number words own store) (at_path path own.tree) (stays own store None)
