-- Meaning. Changes of widgets that have to do with no variable.
use Rattle.std.specs.Prelude.{ℕ}
use Rattle.tk_screen.specs.Own.{Windowing}
use Rattle.tk_screen.specs.Widgets.{made_at}
use Rattle.tk_widgets.specs.declared.outcome.WidgetChange.{WidgetChange}

-- a change of the widget of the window with a number
abbrev pub with_change : ℕ → WidgetChange → Windowing → Windowing
with_change number change own = record own { widgets = (made_at number change own.widgets).widgets }
