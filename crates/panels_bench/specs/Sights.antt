-- Meaning. What a table of `[[see]]` says that a panel has to show.
use Rattle.std.specs.Prelude.{ℕ, pos, Bool, true, false, ◌&&◌, ◌||◌, ◌==◌, not, nat_le, if◌then◌else◌, List, [], ◌∷◌, ◌++◌, length, map, codes, is_some, Option, Some, None, option_map, encode_utf8, flat_map}
use Rattle.std.specs.Fmt.{signed_decimal}
use Rattle.std.specs.Str.{bytes_eq, chars}
use Rattle.std.specs.String.{string_bytes}
use Rattle.tcl_text.specs.Readings.{list_form}
use Rattle.tk_base.specs.declared.rect.Rect.{Rect}
use Rattle.tk_session.specs.Reading.{◌>>=◌}
use Rattle.tk_session.specs.declared.session.AppBlock.{AppBlock}
use Rattle.toml.specs.Data.{Data, Items, no_items, item, Members, no_members, member, array, boolean, get_member, integer, string, table}
use Rattle.panels.specs.Asked.{Told, NothingTold, TextTold, NumberTold, RowsTold, told_by}
use Rattle.panels.specs.declared.bench.Fact.{Fact}
use Rattle.panels.specs.declared.bench.Fact.TheVariants.{There, Text, Class, Place, Mapped}
use Rattle.panels.specs.declared.bench.Look.{Look}
use Rattle.panels.specs.declared.bench.Look.TheVariants.{Asked, Window, Says, HasError, State, LeastSteps, Waiting}
use Rattle.panels.specs.declared.bench.Question.{Question}
use Rattle.panels.specs.declared.bench.Question.TheVariants as questions
use Rattle.panels_bench.specs.Values.{all_said, are_known, flag_if, if_there, number_if, one, onto, short, slot_in, text_if, text_in}
use Rattle.panels_bench.specs.declared.seeing.Sought.{Sought}
use Rattle.panels_bench.specs.declared.seeing.Sought.TheVariants as sought
use Rattle.panels_text.specs.Tables.{number_in, values_of}

-- what a window is to show, what is asked, and what a panel is to tell
pub data Shown : Type 0 where
  IsThere : Bool → Shown
  HasText : List ℕ → Shown
  HasClass : List ℕ → Shown
  HasPlace : Rect → Shown
  IsMapped : Bool → Shown

abbrev pub shown : Fact → Shown
shown (There wanted) = IsThere wanted
shown (Text text) = HasText (string_bytes text)
shown (Class class) = HasClass (string_bytes class)
shown (Place place) = HasPlace place
shown (Mapped wanted) = IsMapped wanted

pub data Query : Type 0 where
  OptionOf : List ℕ → List ℕ → Query
  ValueOf : List ℕ → Query
  SelectionOf : List ℕ → Query
  ActiveOf : List ℕ → Query
  CursorOf : List ℕ → Query
  FocusOf : Query
  TitleOf : Query
  VariableOf : List ℕ → Query

abbrev pub query : Question → Query
query (questions.Option window name) = OptionOf (string_bytes window) name
query (questions.Value window) = ValueOf (string_bytes window)
query (questions.Selection window) = SelectionOf (string_bytes window)
query (questions.Active window) = ActiveOf (string_bytes window)
query (questions.Cursor window) = CursorOf (string_bytes window)
query questions.Focus = FocusOf
query questions.Title = TitleOf
query (questions.Variable name) = VariableOf name

pub data Sight : Type 0 where
  AskedSight : Query → Told → Sight
  WindowSight : List ℕ → Shown → Sight
  SaidSight : List ℕ → Sight
  ErrorSight : Bool → Sight
  StateSight : List ℕ → Sight
  StepsSight : ℕ → Sight
  WaitingSight : ℕ → Sight

abbrev pub sight : Look → Sight
sight (Asked question wanted) = AskedSight (query question) (told_by wanted)
sight (Window path fact) = WindowSight (string_bytes path) (shown fact)
sight (Says text) = SaidSight (string_bytes text)
sight (HasError wanted) = ErrorSight wanted
sight (State state) = StateSight (string_bytes state)
sight (LeastSteps least) = StepsSight least
sight (Waiting count) = WaitingSight count

-- ---- windows

-- a text as a section writes it: a backslash, a line feed and a carriage return by two characters
abbrev pub mark : ℕ → List ℕ
mark one = if one == 92 then codes "\\\\" else if one == 10 then codes "\\n" else if one == 13 then codes "\\r" else encode_utf8 one

abbrev pub written : List ℕ → List ℕ
written text = flat_map mark (chars text)

-- the window that has to be named
abbrev pub path_in : Members → Option (List ℕ)
path_in members = text_in (get_member (codes "window") members)

abbrev pub shows : Members → Shown → Option (List Sight)
shows members fact = one (option_map (λ path. WindowSight path fact) (path_in members))

abbrev pub asks : Members → (List ℕ → Query) → Told → Option (List Sight)
asks members of wanted = one (option_map (λ path. AskedSight (of path) wanted) (path_in members))

-- the largest place and size of a window
abbrev pub most_place : ℕ
most_place = 65535

abbrev pub rect_of : Option ℕ → Option ℕ → Option ℕ → Option ℕ → Option Rect
rect_of x y width height = do
  left ← x
  top ← y
  across ← width
  down ← height
  Some (record { x = left; y = top; width = across; height = down })

-- left, top, width and height
abbrev pub place_of : Items → Option Rect
place_of (item x (item y (item width (item height no_items)))) =
    rect_of (number_in most_place (Some x)) (number_in most_place (Some y)) (number_in most_place (Some width)) (number_in most_place (Some height))
place_of _ = None

abbrev pub place_in : Option Data → Option (Option Rect)
place_in None = Some None
place_in (Some (array items)) = option_map (λ rect. Some rect) (place_of items)
place_in (Some _) = None

-- texts of an array, none of them too long
abbrev pub short_in : Data → Option (List ℕ)
short_in (string text) = short text
short_in _ = None

abbrev pub texts_in : Items → Option (List (List ℕ))
texts_in no_items = Some []
texts_in (item value others) = onto (one (short_in value)) (texts_in others)

-- a text, or the list of the texts of an array
abbrev pub value_in : Option Data → Option (Option (List ℕ))
value_in None = Some None
value_in (Some (array items)) = texts_in items >>= λ texts. option_map (λ list. Some list) (short (list_form texts))
value_in (Some value) = option_map (λ own. Some own) (short_in value)

-- a text, or a whole number in decimal
abbrev pub plain_in : Data → Option (List ℕ)
plain_in (string text) = short text
plain_in (integer number) = short (signed_decimal number)
plain_in _ = None

-- what each key of a table says with its value
abbrev pub of_members : {A : Type 0} → (List ℕ → Data → Option (List A)) → Members → Option (List A)
of_members says no_members = Some []
of_members says (member key value others) = onto (says key value) (of_members says others)

abbrev pub inner_in : Option Data → Option (Option Members)
inner_in None = Some None
inner_in (Some (table members)) = Some (Some members)
inner_in (Some _) = None

abbrev pub option_said : Members → List ℕ → Data → Option (List Sight)
option_said members name value = do
  wanted ← plain_in value
  own ← short name
  asks members (λ path. OptionOf path own) (TextTold wanted)

-- the largest number of rows of a listbox, and of characters of an entry
abbrev pub most_rows : ℕ
most_rows = 65536

abbrev pub rows_in : Items → Option (List ℕ)
rows_in no_items = Some []
rows_in (item value others) = onto (one (number_in most_rows (Some value))) (rows_in others)

abbrev pub selection_in : Option Data → Option (Option (List ℕ))
selection_in None = Some None
selection_in (Some (array items)) = option_map (λ rows. Some rows) (rows_in items)
selection_in (Some _) = None

-- ---- panels

abbrev pub asked_text : Query → List ℕ → Option (List Sight)
asked_text of text = one (option_map (λ wanted. AskedSight of (TextTold wanted)) (short text))

-- `false` says that there is no such variable
abbrev pub variable_wanted : Data → Option Told
variable_wanted (boolean false) = Some NothingTold
variable_wanted value = option_map TextTold (plain_in value)

abbrev pub variable_said : List ℕ → Data → Option (List Sight)
variable_said name value = do
  wanted ← variable_wanted value
  own ← short name
  Some (AskedSight (VariableOf own) wanted ∷ [])

abbrev pub is_state : List ℕ → Bool
is_state word = bytes_eq word (codes "running") || (bytes_eq word (codes "exhausted") || bytes_eq word (codes "closed"))

abbrev pub state_in : List ℕ → Option (List Sight)
state_in word = if is_state word then Some (StateSight word ∷ []) else None

-- the largest number of steps and of timers
abbrev pub most_count : ℕ
most_count = 10000000

-- ---- a table

-- what a key says of what is sought, where the table says this
abbrev pub sights_by : Members → Sought → Option Data → Option (List Sight)
sights_by table_of sought.There value = flag_if value >>= if_there (λ wanted. shows table_of (IsThere wanted))
sights_by table_of sought.Text value = text_if value >>= if_there (λ text. shows table_of (HasText (written text)))
sights_by table_of sought.Class value = text_if value >>= if_there (λ class. shows table_of (HasClass (written class)))
sights_by table_of sought.Place value = place_in value >>= if_there (λ place. shows table_of (HasPlace place))
sights_by table_of sought.Mapped value = flag_if value >>= if_there (λ wanted. shows table_of (IsMapped wanted))
sights_by table_of sought.Value value = value_in value >>= if_there (λ text. asks table_of ValueOf (TextTold text))
sights_by table_of sought.Options value = inner_in value >>= if_there (of_members (option_said table_of))
sights_by table_of sought.Selection value = selection_in value >>= if_there (λ rows. asks table_of SelectionOf (RowsTold rows))
sights_by table_of sought.Active value = number_if most_rows value >>= if_there (λ row. asks table_of ActiveOf (NumberTold row))
sights_by table_of sought.Cursor value = number_if most_rows value >>= if_there (λ place. asks table_of CursorOf (NumberTold place))
sights_by table_of sought.Focus value = text_if value >>= if_there (asked_text FocusOf)
sights_by table_of sought.Title value = text_if value >>= if_there (asked_text TitleOf)
sights_by table_of sought.Variables value = inner_in value >>= if_there (of_members variable_said)
sights_by table_of sought.Line value = text_if value >>= if_there (λ text. Some (SaidSight (written text) ∷ []))
sights_by table_of sought.Errors value = flag_if value >>= if_there (λ wanted. Some (ErrorSight wanted ∷ []))
sights_by table_of sought.State value = text_if value >>= if_there state_in
sights_by table_of sought.Steps value = number_if most_count value >>= if_there (λ least. Some (StepsSight least ∷ []))
sights_by table_of sought.Timers value = number_if most_count value >>= if_there (λ count. Some (WaitingSight count ∷ []))

abbrev pub sights_at : Members → List ℕ → Sought → Option (List Sight)
sights_at members key wanted = sights_by members wanted (get_member key members)

abbrev pub unless_empty : Bool → List Sight → Option (List Sight)
unless_empty may_be (one ∷ others) = Some (one ∷ others)
unless_empty may_be [] = if may_be then Some [] else None

-- what is sought of a window, by its keys
unfoldable pub window_keys : List (List ℕ × Sought)
window_keys =
    (codes "there", sought.There) ∷
    (codes "text", sought.Text) ∷
    (codes "class", sought.Class) ∷
    (codes "place", sought.Place) ∷
    (codes "mapped", sought.Mapped) ∷
    (codes "value", sought.Value) ∷
    (codes "options", sought.Options) ∷
    (codes "selection", sought.Selection) ∷
    (codes "active", sought.Active) ∷
    (codes "cursor", sought.Cursor) ∷
    []

-- what is sought of a panel as a whole
unfoldable pub panel_keys : List (List ℕ × Sought)
panel_keys =
    (codes "focus", sought.Focus) ∷
    (codes "title", sought.Title) ∷
    (codes "variables", sought.Variables) ∷
    (codes "says", sought.Line) ∷
    (codes "errors", sought.Errors) ∷
    (codes "state", sought.State) ∷
    (codes "least-steps", sought.Steps) ∷
    (codes "timers", sought.Timers) ∷
    []

unfoldable pub keys : List (List ℕ)
keys = codes "time" ∷ codes "after" ∷ codes "panel" ∷ codes "window" ∷ (map (λ row. row.0) window_keys ++ map (λ row. row.0) panel_keys)

abbrev pub sights_of_window : Members → Option (List Sight)
sights_of_window members = all_said (map (λ row. sights_at members row.0 row.1) window_keys)

abbrev pub sights_of_panel : Members → Option (List Sight)
sights_of_panel members = all_said (map (λ row. sights_at members row.0 row.1) panel_keys)

-- a window that is named has to show something
abbrev pub of_window : Members → Option (List Sight)
of_window members = sights_of_window members >>= unless_empty (not (is_some (get_member (codes "window") members)))

-- something has to be seen
abbrev pub looks_in : Members → Option (List Sight)
looks_in members = do
  window ← of_window members
  panel ← sights_of_panel members
  unless_empty false (window ++ panel)

-- what has to be seen by a table, in the panel of this slot
abbrev pub sights_in : List AppBlock → Members → Option (ℕ × List Sight)
sights_in panels members =
    if are_known keys members then (do
      slot ← slot_in panels (get_member (codes "panel") members)
      sights ← looks_in members
      Some (slot, sights))
    else None
