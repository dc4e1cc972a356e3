-- Meaning. What can be asked of a panel that its section doesn't tell, and what its application's record answers.
use Rattle.std.specs.Prelude.{ℕ, ◌==◌, Bool, true, false, List, Option, Some, None, option_and_then, Result, Ok, Err}
use Rattle.std.specs.Str.{bytes_eq}
use Rattle.std.specs.String.{string_bytes}
use Rattle.tk_widgets.specs.Entries.{cursor_in, shown}
use Rattle.tk_widgets.specs.Items.{selected_from}
use Rattle.tk_options.specs.declared.fault.OptionFault.{OptionFault}
use Rattle.tk_options.specs.Options.{value_meant}
use Rattle.tk_widgets.specs.Classes.{value_told as value_of_widget}
use Rattle.tk_widgets.specs.Commands.{variable_of as variable_named}
use Rattle.tk_widgets.specs.declared.widget.Parts.{Parts}
use Rattle.tk_widgets.specs.declared.widget.Parts.TheVariants as parts
use Rattle.tk_widgets.specs.declared.widget.Widget.{Widget}
use Rattle.tk_app.specs.Inspection.{focus_of, title_of, variable_of, widget_of}
use Rattle.tk_host.specs.Held.{HostState}
use Rattle.tk_host.specs.Inspection.{seen}
use Rattle.panels.specs.declared.bench.Answer.{Answer}
use Rattle.panels.specs.declared.bench.Answer.TheVariants as answers
use Rattle.panels.specs.declared.bench.Look.{Look}
use Rattle.panels.specs.declared.bench.Look.TheVariants.{Asked, Window, Says, HasError, State, LeastSteps, Waiting}
use Rattle.panels.specs.declared.bench.Question.{Question}
use Rattle.panels.specs.declared.bench.Question.TheVariants as questions

-- what is answered: nothing where there is no such window, option, variable, or no such thing of a window of its class
pub data Told : Type 0 where
  NothingTold : Told
  TextTold : List ℕ → Told
  NumberTold : ℕ → Told
  RowsTold : List ℕ → Told

abbrev pub told_by : Answer → Told
told_by answers.Nothing = NothingTold
told_by (answers.Text text) = TextTold text
told_by (answers.Number number) = NumberTold number
told_by (answers.Rows rows) = RowsTold rows.items

-- whether two answers are the same
abbrev pub is_text : List ℕ → Told → Bool
is_text text NothingTold = false
is_text text (TextTold other) = bytes_eq text other
is_text text (NumberTold number) = false
is_text text (RowsTold rows) = false

abbrev pub is_number : ℕ → Told → Bool
is_number number NothingTold = false
is_number number (TextTold text) = false
is_number number (NumberTold other) = number == other
is_number number (RowsTold rows) = false

abbrev pub are_rows : List ℕ → Told → Bool
are_rows rows NothingTold = false
are_rows rows (TextTold text) = false
are_rows rows (NumberTold number) = false
are_rows rows (RowsTold others) = bytes_eq rows others

abbrev pub is_nothing : Told → Bool
is_nothing NothingTold = true
is_nothing (TextTold text) = false
is_nothing (NumberTold number) = false
is_nothing (RowsTold rows) = false

abbrev pub is_alike : Told → Told → Bool
is_alike NothingTold other = is_nothing other
is_alike (TextTold text) other = is_text text other
is_alike (NumberTold number) other = is_number number other
is_alike (RowsTold rows) other = are_rows rows other

-- a text, where there is one
abbrev pub text_told : Option (List ℕ) → Told
text_told None = NothingTold
text_told (Some text) = TextTold text

-- ---- widgets

-- the value of the option that a word means
abbrev pub meant_told : Result (List ℕ) OptionFault → Told
meant_told (Ok value) = TextTold value
meant_told (Err fault) = NothingTold

abbrev pub option_told : List ℕ → Option Widget → Told
option_told name None = NothingTold
option_told name (Some widget) = meant_told (value_meant name widget.options)

-- what it tells as its value, where its variable has this text
abbrev pub value_told : Option (List ℕ) → Option Widget → Told
value_told variable None = NothingTold
value_told variable (Some widget) = text_told (value_of_widget widget variable)

-- the rows of a listbox that are selected, and the active one
abbrev pub rows_of : Parts → Told
rows_of parts.Frame = NothingTold
rows_of parts.Label = NothingTold
rows_of parts.Button = NothingTold
rows_of (parts.Entry entry) = NothingTold
rows_of (parts.Listbox listbox) = RowsTold (selected_from 0 listbox.items)

abbrev pub rows_told : Option Widget → Told
rows_told None = NothingTold
rows_told (Some widget) = rows_of widget.parts

abbrev pub active_of : Parts → Told
active_of parts.Frame = NothingTold
active_of parts.Label = NothingTold
active_of parts.Button = NothingTold
active_of (parts.Entry entry) = NothingTold
active_of (parts.Listbox listbox) = NumberTold listbox.active

abbrev pub active_told : Option Widget → Told
active_told None = NothingTold
active_told (Some widget) = active_of widget.parts

-- how many characters stand before the cursor of an entry, where its variable has this text
abbrev pub cursor_of : Option (List ℕ) → Parts → Told
cursor_of variable parts.Frame = NothingTold
cursor_of variable parts.Label = NothingTold
cursor_of variable parts.Button = NothingTold
cursor_of variable (parts.Entry entry) = NumberTold (cursor_in (shown variable entry) entry)
cursor_of variable (parts.Listbox listbox) = NothingTold

abbrev pub cursor_told : Option (List ℕ) → Option Widget → Told
cursor_told variable None = NothingTold
cursor_told variable (Some widget) = cursor_of variable widget.parts

-- ---- panels

module _ {M : Type 0} (slot : ℕ) (held : HostState M) where
  -- the widget of a window, and the text of the variable that it shows
  abbrev pub widget_at : List ℕ → Option Widget
  widget_at path = seen (widget_of path) slot held

  abbrev pub variable_at : List ℕ → Option (List ℕ)
  variable_at path = option_and_then (λ name. seen (variable_of name) slot held) (option_and_then variable_named (widget_at path))

  -- what the panel in a slot answers, by its application's record
  abbrev pub asked : Question → Told
  asked (questions.Option window name) = option_told name (widget_at (string_bytes window))
  asked (questions.Value window) = value_told (variable_at (string_bytes window)) (widget_at (string_bytes window))
  asked (questions.Selection window) = rows_told (widget_at (string_bytes window))
  asked (questions.Active window) = active_told (widget_at (string_bytes window))
  asked (questions.Cursor window) = cursor_told (variable_at (string_bytes window)) (widget_at (string_bytes window))
  asked questions.Focus = text_told (seen focus_of slot held)
  asked questions.Title = text_told (seen title_of slot held)
  asked (questions.Variable name) = text_told (seen (variable_of name) slot held)

  -- what it answers to a look
  abbrev pub answer_to : Look → Told
  answer_to (Asked question wanted) = asked question
  answer_to (Window path fact) = NothingTold
  answer_to (Says text) = NothingTold
  answer_to (HasError wanted) = NothingTold
  answer_to (State state) = NothingTold
  answer_to (LeastSteps least) = NothingTold
  answer_to (Waiting count) = NothingTold
