-- Meaning. What the pointer and keys do to buttons (button(n)). The application keeps the button that the pointer is over, the one that is pressed, and the
-- relief that it had then.
use Rattle.std.specs.Prelude.{ℕ, Bool, false, ◌==◌, List, [], ◌∷◌, Option, Some, None, option_and_then, codes, if◌then◌else◌}
use Rattle.std.specs.Option.{option_map_or}
use Rattle.std.specs.Result.{result_ok}
use Rattle.tk_class_commands.specs.Changes.{with_change}
use Rattle.tk_class_commands.specs.declared.buttons.ButtonRequest.{ButtonRequest}
use Rattle.tk_class_commands.specs.declared.buttons.ButtonRequest.TheVariants.{Enter, Leave, Press, Release, Invoke}
use Rattle.tk_class_commands.specs.declared.outcome.ClassOutcome.{ClassOutcome}
use Rattle.tk_class_commands.specs.declared.outcome.ClassOutcome.TheVariants.{Acts}
use Rattle.tk_class_commands.specs.Outcomes.{nothing}
pub use Rattle.tk_class_commands.specs.Outcomes.{Told, told}
use Rattle.tk_inputs.specs.declared.inputs.Input.{Input}
use Rattle.tk_inputs.specs.Inputs.{left_by}
use Rattle.tk_options.specs.declared.option.OptionEntry.{OptionEntry}
use Rattle.tk_options.specs.declared.option.OptionName.TheVariants.{State}
use Rattle.tk_options.specs.declared.settings.Setting.{Setting}
use Rattle.tk_options.specs.Options.{settings}
use Rattle.tk_screen.specs.Own.{Windowing}
use Rattle.tk_screen.specs.Widgets.{widget_at}
use Rattle.tk_widgets.specs.Classes.{has_value, invoked, relief_of}
use Rattle.tk_widgets.specs.declared.outcome.WidgetAct.TheVariants.{Script}
use Rattle.tk_widgets.specs.declared.outcome.WidgetChange.TheVariants.{Configure}
use Rattle.tk_widgets.specs.declared.widget.Widget.{Widget}

-- ---- parts

-- it is the button that is kept
abbrev pub is_it : ℕ → Option ℕ → Bool
is_it number kept = option_map_or (λ other. other == number) kept false

-- what sets a widget's relief, if it takes that
unfoldable pub relief_settings : List ℕ → Widget → Option (List Setting)
relief_settings relief widget = result_ok (settings (codes "-relief" ∷ relief ∷ []) widget.options)

-- the button with a number has another relief, as by `configure -relief RELIEF`
abbrev pub with_relief : ℕ → List ℕ → Windowing → Windowing
with_relief number relief own =
    option_map_or (λ all. with_change number (Configure all) own) (option_and_then (relief_settings relief) (widget_at number own.widgets)) own

abbrev pub restored : ℕ → Option (List ℕ) → Windowing → Windowing
restored number kept own = option_map_or (λ relief. with_relief number relief own) kept own

-- a button's command, unless the button is disabled
abbrev pub script_of : ℕ → Windowing → Option (List ℕ)
script_of number own = option_and_then (λ widget. invoked widget.options) (widget_at number own.widgets)

abbrev pub invoked_at : ℕ → Windowing → ClassOutcome
invoked_at number own = option_map_or (λ script. Acts (Script script)) (script_of number own) nothing

-- the relief that is kept of a button that is pressed; a disabled one can't be pressed
abbrev pub kept_of : List OptionEntry → Option (List ℕ)
kept_of options = if has_value State (codes "disabled") options then None else Some (relief_of options)

abbrev pub relief_to_keep : ℕ → Windowing → Option (List ℕ)
relief_to_keep number own = option_and_then (λ widget. kept_of widget.options) (widget_at number own.widgets)

-- ---- the commands

abbrev pub pointer_entered : ℕ → Windowing → Input → Told Input
pointer_entered number own input =
    told (if is_it number input.pressed then with_relief number (codes "sunken") own else own) (record input { over = Some number }) nothing

abbrev pub pointer_left : ℕ → Windowing → Input → Told Input
pointer_left number own input = told (if is_it number input.pressed then restored number input.relief own else own) (left_by number input) nothing

abbrev pub pressed_with : ℕ → Windowing → Input → Option (List ℕ) → Told Input
pressed_with number own input None = told own input nothing
pressed_with number own input (Some relief) =
    told (with_relief number (codes "sunken") own) (record input { pressed = Some number; relief = Some relief }) nothing

abbrev pub pressed : ℕ → Windowing → Input → Told Input
pressed number own input = pressed_with number own input (relief_to_keep number own)

-- it is invoked where the pointer is over it
abbrev pub invoked_over : ℕ → Input → Windowing → ClassOutcome
invoked_over number input own = if is_it number input.over then invoked_at number own else nothing

abbrev pub let_go : ℕ → Windowing → Input → Told Input
let_go number own input =
    if is_it number input.pressed
    then told (restored number input.relief own) (record input { pressed = None }) (invoked_over number input (restored number input.relief own))
    else told own input nothing

unfoldable pub act : ButtonRequest → ℕ → Windowing → Input → Told Input
act Enter number own input = pointer_entered number own input
act Leave number own input = pointer_left number own input
act Press number own input = pressed number own input
act Release number own input = let_go number own input
act Invoke number own input = told own input (invoked_at number own)
