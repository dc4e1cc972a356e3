-- Meaning. A change of a widget, with the variable that it asks for.
use Rattle.std.specs.Prelude.{ℕ, Bool, true, false, ◌&&◌, not, if◌then◌else◌, List, Option, None, Some, Result, Ok, Err}
use Rattle.std.specs.Option.{option_map_or}
use Rattle.tcl_commands.specs.Texts.{cannot_set}
use Rattle.tcl_vars.specs.Store.{Store, variable_in, with_variable}
use Rattle.tcl_text.specs.declared.fault.ReadFault.{ReadFault}
use Rattle.tcl_text.specs.declared.fault.ReadFault.TheVariants.{NoVariable, NoElement, IsArray, NotArray}
use Rattle.tcl_text.specs.declared.fault.SetFault.{SetFault}
use Rattle.tk_widgets.specs.declared.outcome.WidgetChange.{WidgetChange}
use Rattle.tk_widgets.specs.declared.outcome.VariableWrite.{VariableWrite}
use Rattle.tk_widgets.specs.declared.outcome.WidgetAct.{WidgetAct}
use Rattle.tk_widgets.specs.declared.outcome.WidgetAct.TheVariants.{Fault}
use Rattle.tk_widgets.specs.Commands.{variable_write}
use Rattle.tk_screen.specs.Own.{Windowing}
use Rattle.tk_screen.specs.Widgets.{made_at, widget_at}

-- ---- the variable

-- there is no such variable, or no such element of an array; an array, and an element of what is no array, aren't absent
abbrev pub is_absent : Result (List ℕ) ReadFault → Bool
is_absent (Ok text) = false
is_absent (Err NoVariable) = true
is_absent (Err NoElement) = true
is_absent (Err IsArray) = false
is_absent (Err NotArray) = false

abbrev pub or_cannot_set : List ℕ → Result Store SetFault → Result Store (List ℕ)
or_cannot_set name (Ok store) = Ok store
or_cannot_set name (Err fault) = cannot_set name fault

-- a global variable is set, unless it is only to be set where it is absent, and isn't
unfoldable pub wrote_one : VariableWrite → Store → Result Store (List ℕ)
wrote_one write store =
    if write.absent_only && not (is_absent (variable_in store 0 write.name)) then Ok store
    else or_cannot_set write.name (with_variable store 0 write.name write.text)

abbrev pub wrote : Option VariableWrite → Store → Result Store (List ℕ)
wrote None store = Ok store
wrote (Some write) store = wrote_one write store

-- ---- the widget

-- the application's part and the variables after a command on a widget, and what it told; nothing where there is no widget
pub record Changed : Type 0 where
  pub own : Windowing
  pub store : Store
  pub act : Option WidgetAct

abbrev pub stays : Windowing → Store → Option WidgetAct → Changed
stays own store act = record { own = own; store = store; act = act }

-- the change is made once the variable is set; where that can't be set, its error is told, and nothing is changed
abbrev pub changed_after : ℕ → WidgetChange → Windowing → Store → Result Store (List ℕ) → Changed
changed_after number change own store (Ok new) =
    (let told = made_at number change own.widgets in record { own = record own { widgets = told.widgets }; store = new; act = told.act })
changed_after number change own store (Err text) = stays own store (Some (Fault text))

-- a change that the widget of the window with a number was asked for
unfoldable pub changed : ℕ → WidgetChange → Windowing → Store → Changed
changed number change own store =
    option_map_or (λ widget. changed_after number change own store (wrote (variable_write change widget) store)) (widget_at number own.widgets)
    (stays own store None)
