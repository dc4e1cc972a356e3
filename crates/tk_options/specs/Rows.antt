-- Meaning. What each kind of widget is: the command that makes one, its options with what each takes and the value of a new widget, and what its class
-- binds. Its class is *class_of*.
use Rattle.std.specs.Prelude.{ℕ, List, [], ◌∷◌, Option, find, codes}
use Rattle.std.specs.Str.{bytes_eq}
use Rattle.tk_base.specs.declared.kind.Kind.{Kind}
use Rattle.tk_base.specs.declared.kind.Kind.TheVariants as kind
use Rattle.tk_options.specs.declared.form.Form.{Form}
use Rattle.tk_options.specs.declared.form.Form.TheVariants.{Amount, Relief as AnyRelief, Anchor as AnyAnchor, ButtonState, EntryState, SelectMode as AnySelectMode, AnyText}
use Rattle.tk_options.specs.declared.option.OptionName.{OptionName}
use Rattle.tk_options.specs.declared.option.OptionName.TheVariants.{Anchor, Background, BorderWidth, Command, Foreground, Height, PadX, PadY, Relief, SelectMode, State, Text, TextVariable, Width}
use Rattle.tk_options.specs.declared.option.OptionEntry.{OptionEntry}

-- an option of a new widget
abbrev pub row : OptionName → Form → List ℕ → OptionEntry
row option form default = record { option = option; form = form; default = default; value = default }

-- a sequence that a class binds, and the script that it runs
pub record ClassBinding : Type 0 where
  pub sequence : List ℕ
  pub script : List ℕ

abbrev pub binding : List ℕ → List ℕ → ClassBinding
binding sequence script = record { sequence = sequence; script = script }

pub record KindRow : Type 0 where
  -- the command that makes one, and how it is called
  pub command : List ℕ
  pub usage : List ℕ
  -- in the order in which they are told, and in which it is bound
  pub options : List OptionEntry
  pub bindings : List ClassBinding

abbrev pub row_of : Kind → KindRow
row_of kind.Frame = record {
  command = codes "frame";
  usage = codes "frame path ?option value ..?";
  options =
      row Background AnyText [] ∷
      row BorderWidth Amount (codes "0") ∷
      row Height Amount (codes "0") ∷
      row Relief AnyRelief (codes "flat") ∷
      row Width Amount (codes "0") ∷ [];
  bindings = [];
}
row_of kind.Label = record {
  command = codes "label";
  usage = codes "label path ?option value ..?";
  options =
      row Anchor AnyAnchor (codes "center") ∷
      row Background AnyText [] ∷
      row BorderWidth Amount (codes "1") ∷
      row Foreground AnyText [] ∷
      row Height Amount (codes "0") ∷
      row PadX Amount (codes "1") ∷
      row PadY Amount (codes "1") ∷
      row Relief AnyRelief (codes "flat") ∷
      row Text AnyText [] ∷
      row TextVariable AnyText [] ∷
      row Width Amount (codes "0") ∷ [];
  bindings = [];
}
row_of kind.Button = record {
  command = codes "button";
  usage = codes "button path ?option value ..?";
  options =
      row Anchor AnyAnchor (codes "center") ∷
      row Background AnyText [] ∷
      row BorderWidth Amount (codes "2") ∷
      row Command AnyText [] ∷
      row Foreground AnyText [] ∷
      row Height Amount (codes "0") ∷
      row PadX Amount (codes "8") ∷
      row PadY Amount (codes "4") ∷
      row Relief AnyRelief (codes "raised") ∷
      row State ButtonState (codes "normal") ∷
      row Text AnyText [] ∷
      row TextVariable AnyText [] ∷
      row Width Amount (codes "0") ∷ [];
  bindings =
      binding (codes "<Enter>") (codes "tk::ButtonEnter %W")
      ∷ binding (codes "<Leave>") (codes "tk::ButtonLeave %W")
      ∷ binding (codes "<Button-1>") (codes "tk::ButtonDown %W")
      ∷ binding (codes "<ButtonRelease-1>") (codes "tk::ButtonUp %W")
      ∷ binding (codes "<Key-space>") (codes "tk::ButtonInvoke %W")
      ∷ [];
}
row_of kind.Entry = record {
  command = codes "entry";
  usage = codes "entry path ?option value ..?";
  options =
      row Background AnyText [] ∷
      row BorderWidth Amount (codes "2") ∷
      row Foreground AnyText [] ∷
      row Relief AnyRelief (codes "sunken") ∷
      row State EntryState (codes "normal") ∷
      row TextVariable AnyText [] ∷
      row Width Amount (codes "20") ∷ [];
  bindings =
      binding (codes "<Key>") (codes "tk::EntryInsert %W %A")
      ∷ binding (codes "<Control-Key>") (codes "# nothing")
      ∷ binding (codes "<Mod1-Key>") (codes "# nothing")
      ∷ binding (codes "<Key-BackSpace>") (codes "tk::EntryBackspace %W")
      ∷ binding (codes "<Key-Delete>") (codes "tk::EntryDelete %W")
      ∷ binding (codes "<Key-Left>") (codes "tk::EntryMove %W left")
      ∷ binding (codes "<Key-Right>") (codes "tk::EntryMove %W right")
      ∷ binding (codes "<Key-Home>") (codes "tk::EntryMove %W home")
      ∷ binding (codes "<Key-End>") (codes "tk::EntryMove %W end")
      ∷ binding (codes "<Button-1>") (codes "tk::EntryDown %W %x")
      ∷ [];
}
row_of kind.Listbox = record {
  command = codes "listbox";
  usage = codes "listbox path ?option value ..?";
  options =
      row Background AnyText [] ∷
      row BorderWidth Amount (codes "1") ∷
      row Foreground AnyText [] ∷
      row Height Amount (codes "10") ∷
      row Relief AnyRelief (codes "sunken") ∷
      row SelectMode AnySelectMode (codes "browse") ∷
      row Width Amount (codes "20") ∷ [];
  bindings =
      binding (codes "<Button-1>") (codes "tk::ListboxDown %W %y")
      ∷ binding (codes "<B1-Motion>") (codes "tk::ListboxDrag %W %y")
      ∷ binding (codes "<Key-Up>") (codes "tk::ListboxMove %W -1")
      ∷ binding (codes "<Key-Down>") (codes "tk::ListboxMove %W 1")
      ∷ binding (codes "<Key-space>") (codes "tk::ListboxSpace %W")
      ∷ [];
}

abbrev pub options_of : Kind → List OptionEntry
options_of kind = (row_of kind).options

-- the kinds, by the names of their commands
abbrev pub kinds : List Kind
kinds = kind.Button ∷ kind.Entry ∷ kind.Frame ∷ kind.Label ∷ kind.Listbox ∷ []

-- the kind whose widgets the command of a name makes, of some kinds and of all
abbrev pub kind_in : List ℕ → List Kind → Option Kind
kind_in name kinds = find (λ kind. bytes_eq (row_of kind).command name) kinds

abbrev pub kind_named : List ℕ → Option Kind
kind_named name = kind_in name kinds
