-- Meaning. The widgets of one application's windows, by their numbers, in the order in which they were made.
use Rattle.std.specs.Prelude.{ℕ, nat_eq, List, Option, None, Some}
use Rattle.std.specs.Map.{lookup, remove_entry, set_value}
use Rattle.std.specs.Option.{option_map_or}
use Rattle.indexmap.specs.IndexMap.{insert_entry}
use Rattle.tk_widgets.specs.declared.outcome.WidgetChange.{WidgetChange}
use Rattle.tk_widgets.specs.declared.outcome.WidgetAct.{WidgetAct}
use Rattle.tk_widgets.specs.declared.widget.Widget.{Widget}
use Rattle.tk_widgets.specs.Commands.{Told, made}

abbrev pub OwnWidgets : Type 0
OwnWidgets = List (ℕ × Widget)

-- the widget of the window with a number
abbrev pub widget_at : ℕ → OwnWidgets → Option Widget
widget_at number widgets = lookup (nat_eq number) widgets

-- one widget more, the last, or in the place of the one that the window has
abbrev pub with_widget : ℕ → Widget → OwnWidgets → OwnWidgets
with_widget number widget widgets = insert_entry nat_eq widgets number widget

-- the widget of the window with a number gone; the others keep their order
abbrev pub without_widget : ℕ → OwnWidgets → OwnWidgets
without_widget number widgets = remove_entry (nat_eq number) widgets

-- the widgets, and what was told of one
pub record ToldOf : Type 0 where
  pub widgets : OwnWidgets
  pub act : Option WidgetAct

abbrev pub told_of : ℕ → OwnWidgets → Told → ToldOf
told_of number widgets told = record { widgets = set_value (nat_eq number) widgets told.widget; act = Some told.act }

-- a change made of the widget of the window with a number; nothing is told where there is none
abbrev pub made_at : ℕ → WidgetChange → OwnWidgets → ToldOf
made_at number change widgets =
    option_map_or (λ widget. told_of number widgets (made change widget)) (widget_at number widgets) (record { widgets = widgets; act = None })
