-- Meaning. What the widgets show, and what keys and the pointer ask of them.
use Rattle.std.specs.Prelude.{ℕ, ◌-◌, ◌/◌, ℤ, Bool, false, if◌then◌else◌, List, [], Option, Some, None, unwrap_or, codes}
use Rattle.std.specs.Option.{option_map_or}
use Rattle.std.specs.Str.{bytes_eq}
use Rattle.tcl_text.specs.Indices.{from_zero}
use Rattle.tcl_text.specs.Readings.{list_form}
use Rattle.tk_widgets.specs.Entries.{shown}
use Rattle.tk_widgets.specs.Items.{texts}
use Rattle.tk_options.specs.declared.option.OptionEntry.{OptionEntry}
use Rattle.tk_options.specs.declared.option.OptionName.{OptionName}
use Rattle.tk_options.specs.declared.option.OptionName.TheVariants.{Command, Relief, State}
use Rattle.tk_options.specs.Options.{value_of}
use Rattle.tk_widgets.specs.Sizes.{text_shown}
use Rattle.tk_widgets.specs.declared.widget.Parts.{Parts}
use Rattle.tk_widgets.specs.declared.widget.Parts.TheVariants.{Frame, Label, Button, Entry, Listbox}
use Rattle.tk_widgets.specs.declared.widget.Widget.{Widget}

-- whether an option has this very value
abbrev pub has_value : OptionName → List ℕ → List OptionEntry → Bool
has_value option word options = option_map_or (λ value. bytes_eq value word) (value_of option options) false

-- what a widget tells as its value: the text shown, or the list of all items; a frame has none
abbrev pub value_of_parts : Parts → List OptionEntry → Option (List ℕ) → Option (List ℕ)
value_of_parts Frame options text = None
value_of_parts Label options text = Some (text_shown text options)
value_of_parts Button options text = Some (text_shown text options)
value_of_parts (Entry entry) options text = Some (shown text entry)
value_of_parts (Listbox listbox) options text = Some (list_form (texts listbox.items))

abbrev pub value_told : Widget → Option (List ℕ) → Option (List ℕ)
value_told widget text = value_of_parts widget.parts widget.options text

-- `invoke` of a button: its command, unless it is disabled
abbrev pub invoked : List OptionEntry → Option (List ℕ)
invoked options = if has_value State (codes "disabled") options then None else value_of Command options

-- a button's relief
abbrev pub relief_of : List OptionEntry → List ℕ
relief_of options = unwrap_or (value_of Relief options) []

-- how many columns stand to the left of so many pixels, inside the border
abbrev pub columns_to : ℤ → ℕ → ℕ
columns_to x border = (from_zero x - border) / 8
