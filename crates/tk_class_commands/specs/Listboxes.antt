-- Meaning. What keys and the pointer do to listboxes (listbox(n)).
use Rattle.std.specs.Prelude.{ℕ, ℤ, Bool, true, false, not, ◌||◌, ◌==◌, List, length, Option, Some, None, option_and_then, codes, if◌then◌else◌}
use Rattle.std.specs.Option.{option_map_or}
use Rattle.tk_class_commands.specs.Changes.{with_change}
use Rattle.tk_class_commands.specs.declared.listboxes.Effect.{Effect}
use Rattle.tk_class_commands.specs.declared.listboxes.ListboxRequest.{ListboxRequest}
use Rattle.tk_class_commands.specs.declared.listboxes.ListboxRequest.TheVariants as request
use Rattle.tk_class_commands.specs.declared.outcome.ClassOutcome.{ClassOutcome}
use Rattle.tk_class_commands.specs.declared.outcome.ClassOutcome.TheVariants.{Selects}
use Rattle.tk_class_commands.specs.Outcomes.{nothing}
pub use Rattle.tk_class_commands.specs.Outcomes.{Told, told}
use Rattle.tk_inputs.specs.Deliver.{Arrivals}
use Rattle.tk_inputs.specs.Focus.{focused}
use Rattle.tk_widgets.specs.declared.choice.Choice.{Choice}
use Rattle.tk_widgets.specs.declared.choice.Choice.TheVariants.{Alone, Toggle}
use Rattle.tk_widgets.specs.Listboxes.{ListboxState}
use Rattle.tk_options.specs.declared.option.OptionEntry.{OptionEntry}
use Rattle.tk_screen.specs.Own.{Windowing}
use Rattle.tk_screen.specs.Widgets.{widget_at}
use Rattle.tk_widgets.specs.declared.listbox_keys.RowStep.{RowStep}
use Rattle.tk_widgets.specs.declared.outcome.WidgetChange.TheVariants.{Activate, Select}
use Rattle.tk_widgets.specs.declared.widget.Parts.{Parts}
use Rattle.tk_widgets.specs.declared.widget.Parts.TheVariants.{Listbox}
use Rattle.tk_widgets.specs.ListboxKeys.{has_mode, place_after, row_of}

-- ---- what is asked of a listbox

-- how an item is selected: in the mode `multiple` it is toggled, else it is the selection
abbrev pub choice_of : ℕ → List OptionEntry → Choice
choice_of place options = if has_mode (codes "multiple") options then Toggle place else Alone place

-- this item becomes active, and is selected so
abbrev pub effect : ℕ → Option Choice → Option Effect
effect place choice = Some (record { active = place; choice = choice })

-- a press at a height: the item there; an empty listbox does nothing
abbrev pub pressed : ℤ → List OptionEntry → ListboxState → Option Effect
pressed y options box = if length box.items == 0 then None else effect (row_of y options box) (Some (choice_of (row_of y options box) options))

-- the pointer dragged to a height: in the mode `browse` the item there, where it isn't the active one
abbrev pub dragged : ℤ → List OptionEntry → ListboxState → Option Effect
dragged y options box =
    if not (has_mode (codes "browse") options) || row_of y options box == box.active then None
    else effect (row_of y options box) (Some (Alone (row_of y options box)))

-- a step from the active item, where there is another: that one; in the mode `browse` it is the selection
abbrev pub stepped : RowStep → List OptionEntry → ListboxState → Option Effect
stepped step options box =
    if place_after step box == box.active then None
    else effect (place_after step box) (if has_mode (codes "browse") options then Some (Alone (place_after step box)) else None)

-- the active item; an empty listbox does nothing
abbrev pub active_selected : List OptionEntry → ListboxState → Option Effect
active_selected options box = if length box.items == 0 then None else effect box.active (Some (choice_of box.active options))

abbrev pub effect_on : ListboxRequest → List OptionEntry → ListboxState → Option Effect
effect_on (request.Press y) options box = pressed y options box
effect_on (request.Drag y) options box = dragged y options box
effect_on (request.Step step) options box = stepped step options box
effect_on request.Choose options box = active_selected options box

abbrev pub effect_by : ListboxRequest → List OptionEntry → Parts → Option Effect
effect_by request options (Listbox box) = effect_on request options box
effect_by request options parts = None

abbrev pub effect_at : ℕ → ListboxRequest → Windowing → Option Effect
effect_at number request own = option_and_then (λ widget. effect_by request widget.options widget.parts) (widget_at number own.widgets)

abbrev pub is_press : ListboxRequest → Bool
is_press (request.Press y) = true
is_press (request.Drag y) = false
is_press (request.Step step) = false
is_press request.Choose = false

abbrev pub with_choice : ℕ → Option Choice → Windowing → Windowing
with_choice number None own = own
with_choice number (Some choice) own = with_change number (Select choice) own

abbrev pub with_effect : ℕ → Effect → Windowing → Windowing
with_effect number effect own = with_choice number effect.choice (with_change number (Activate effect.active) own)

-- where a selection was made or toggled, `<<ListboxSelect>>` follows
abbrev pub outcome_of : ℕ → Option Choice → ClassOutcome
outcome_of number made = option_map_or (λ choice. Selects number) made nothing

-- a press that does something gives the listbox the keys
abbrev pub asked_with : ℕ → ℕ → ListboxRequest → Windowing → Arrivals → Option Effect → Told Arrivals
asked_with number moment request own arrivals None = told own arrivals nothing
asked_with number moment request own arrivals (Some effect) =
    told (with_effect number effect own) (if is_press request then focused number moment own.tree arrivals else arrivals) (outcome_of number effect.choice)

unfoldable pub listbox_asked : ℕ → ℕ → ListboxRequest → Windowing → Arrivals → Told Arrivals
listbox_asked number moment request own arrivals = asked_with number moment request own arrivals (effect_at number request own)
