-- Meaning. The size that a widget requests, in pixels.
use Rattle.std.specs.Prelude.{ℕ, ◌+◌, ◌*◌, max, nat_lt, if◌then◌else◌, List, [], length, Option, Some, None, unwrap_or}
use Rattle.tk_base.specs.declared.kind.Kind.{Kind}
use Rattle.tk_base.specs.declared.kind.Kind.TheVariants as kind
use Rattle.tk_options.specs.Rows.{options_of}
use Rattle.tk_options.specs.declared.option.OptionEntry.{OptionEntry}
use Rattle.tk_options.specs.declared.option.OptionName.TheVariants.{BorderWidth, Height, PadX, PadY, Text, Width}
use Rattle.tk_options.specs.Options.{amount_of, value_of}
use Rattle.tk_widgets.specs.Lines.{lines_in, widest}
use Rattle.tk_widgets.specs.declared.widget.Parts.{Parts}
use Rattle.tk_widgets.specs.declared.widget.Parts.TheVariants.{Frame, Label, Button, Entry, Listbox}
use Rattle.tk_widgets.specs.declared.widget.Widget.{Widget}

-- a new widget of a kind
abbrev pub new_parts : Kind → Parts
new_parts kind.Frame = Frame
new_parts kind.Label = Label
new_parts kind.Button = Button
new_parts kind.Entry = Entry (record { text = []; cursor = 0 })
new_parts kind.Listbox = Listbox (record { items = []; active = 0 })

abbrev pub new_widget : Kind → Widget
new_widget kind = record { options = options_of kind; parts = new_parts kind }

-- what a label or a button shows: the variable's text, where there is one that can be read, or else its own
abbrev pub text_shown : Option (List ℕ) → List OptionEntry → List ℕ
text_shown (Some text) options = text
text_shown None options = unwrap_or (value_of Text options) []

-- a number that was asked for, or where it is 0 another
abbrev pub or_else : ℕ → ℕ → ℕ
or_else wanted other = if nat_lt 0 wanted then wanted else other

-- a frame: what is asked for, and not less than a pixel
abbrev pub frame_size : List OptionEntry → ℕ × ℕ
frame_size options = (max (amount_of Width options) 1, max (amount_of Height options) 1)

-- a label or a button: 8 pixels a column and 16 a line, with padding and border on both sides
abbrev pub text_size : List OptionEntry → List ℕ → ℕ × ℕ
text_size options text = (
  max (or_else (amount_of Width options) (widest (lines_in text)) * 8 + 2 * (amount_of PadX options + amount_of BorderWidth options)) 1,
  max (or_else (amount_of Height options) (length (lines_in text)) * 16 + 2 * (amount_of PadY options + amount_of BorderWidth options)) 1,
)

-- an entry: so many columns and one line, with the border on both sides
abbrev pub entry_size : List OptionEntry → ℕ × ℕ
entry_size options = (max (amount_of Width options * 8 + 2 * amount_of BorderWidth options) 1, max (16 + 2 * amount_of BorderWidth options) 1)

-- a listbox: so many columns and lines, with the border on both sides
abbrev pub listbox_size : List OptionEntry → ℕ × ℕ
listbox_size options = (
  max (amount_of Width options * 8 + 2 * amount_of BorderWidth options) 1,
  max (amount_of Height options * 16 + 2 * amount_of BorderWidth options) 1,
)

-- the size that a widget requests, where a variable's text may stand for its own
abbrev pub requested_by : Parts → List OptionEntry → Option (List ℕ) → ℕ × ℕ
requested_by Frame options text = frame_size options
requested_by Label options text = text_size options (text_shown text options)
requested_by Button options text = text_size options (text_shown text options)
requested_by (Entry entry) options text = entry_size options
requested_by (Listbox listbox) options text = listbox_size options

abbrev pub requested : Widget → Option (List ℕ) → ℕ × ℕ
requested widget text = requested_by widget.parts widget.options text
