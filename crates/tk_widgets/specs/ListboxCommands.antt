-- Meaning. The sub-commands of a listbox (listbox(n)), each from the words behind its name.
use Rattle.std.specs.Prelude.{ℕ, List, [], ◌∷◌, length, map, Option, Some, None, unwrap_or, Result, Ok, codes}
use Rattle.std.specs.Fmt.{decimal, signed_decimal}
use Rattle.std.specs.Map.{lookup}
use Rattle.std.specs.Str.{bytes_eq}
use Rattle.tcl_text.specs.Answers.{◌>>=◌, answers, bad_index, bad_option, truth, wrong_args}
use Rattle.tcl_text.specs.Readings.{list_form}
use Rattle.tk_widgets.specs.declared.choice.Choice.{Choice}
use Rattle.tk_widgets.specs.declared.choice.Choice.TheVariants.{Set, Clear}
use Rattle.tk_widgets.specs.declared.item_index.ItemIndex.{ItemIndex}
use Rattle.tk_widgets.specs.declared.item_index.ItemIndex.TheVariants.{Number, Active, End}
use Rattle.tk_widgets.specs.Indices.{index_in as index_read, before, through, before_inserted}
use Rattle.tk_widgets.specs.Items.{texts, selected_from}
use Rattle.tk_widgets.specs.Listboxes.{ListboxState, part, has_selected}
use Rattle.tk_widgets.specs.declared.listbox_commands.ItemRange.{ItemRange}
use Rattle.tk_widgets.specs.declared.outcome.WidgetChange.TheVariants.{InsertItems, DeleteItems, Activate, Select}
use Rattle.tk_widgets.specs.Outcomes.{Wanted, told, change}

-- the index that a word is
abbrev pub index_or_error : List ℕ → Option ItemIndex → Result ItemIndex (List ℕ)
index_or_error word (Some index) = Ok index
index_or_error word None = bad_index word

unfoldable pub index_of : List ℕ → Result ItemIndex (List ℕ)
index_of word = index_or_error word (index_read word)

-- the items from one index to another, with both
abbrev pub span : ItemIndex → ItemIndex → ListboxState → ItemRange
span first last box = record {
  from = before first (length box.items) box.active;
  to = through last (length box.items) box.active;
}

abbrev pub span_of : List ℕ → List ℕ → ListboxState → Result ItemRange (List ℕ)
span_of first last box = do
  from ← index_of first
  to ← index_of last
  Ok (span from to box)

-- the items that one index names, or two with those between them
abbrev pub range_in : List (List ℕ) → List ℕ → ListboxState → Result ItemRange (List ℕ)
range_in (first ∷ []) usage box = span_of first first box
range_in (first ∷ last ∷ []) usage box = span_of first last box
range_in _ usage box = wrong_args usage

-- the one index that the words are
abbrev pub index_in : List (List ℕ) → List ℕ → Result ItemIndex (List ℕ)
index_in (index ∷ []) usage = index_of index
index_in _ usage = wrong_args usage

-- path insert index ?text ..?
abbrev pub list_insert : List (List ℕ) → ListboxState → Wanted
list_insert (index ∷ items) box = do
  at ← index_of index
  change (InsertItems (before_inserted at (length box.items) box.active) items)
list_insert [] box = wrong_args (codes "path insert index ?text ..?")

-- path delete first ?last?
abbrev pub list_delete : List (List ℕ) → ListboxState → Wanted
list_delete words box = do
  gone ← range_in words (codes "path delete first ?last?") box
  change (DeleteItems gone.from gone.to)

-- path get first ?last?: one item, or a list of items
abbrev pub first_of : List (List ℕ) → List ℕ
first_of [] = []
first_of (item ∷ items) = item

abbrev pub list_get : List (List ℕ) → ListboxState → Wanted
list_get (index ∷ []) box = do
  one ← span_of index index box
  told (answers (first_of (texts (part one.from one.to box.items))))
list_get (first ∷ last ∷ []) box = do
  some ← span_of first last box
  told (answers (list_form (texts (part some.from some.to box.items))))
list_get _ box = wrong_args (codes "path get first ?last?")

-- path size
abbrev pub list_size : List (List ℕ) → ListboxState → Wanted
list_size [] box = told (answers (decimal (length box.items)))
list_size _ box = wrong_args (codes "path size")

-- path index index: a number as it is, where there is no such item too
abbrev pub number_of : ItemIndex → ListboxState → List ℕ
number_of (Number n) box = signed_decimal n
number_of Active box = decimal box.active
number_of End box = decimal (length box.items)

abbrev pub list_index : List (List ℕ) → ListboxState → Wanted
list_index words box = do
  at ← index_in words (codes "path index index")
  told (answers (number_of at box))

-- path curselection
abbrev pub list_curselection : List (List ℕ) → ListboxState → Wanted
list_curselection [] box = told (answers (list_form (map decimal (selected_from 0 box.items))))
list_curselection _ box = wrong_args (codes "path curselection")

-- path selection set first ?last?, path selection clear first ?last?
abbrev pub selection_set : List (List ℕ) → ListboxState → Wanted
selection_set words box = do
  more ← range_in words (codes "path selection set first ?last?") box
  change (Select (Set more.from more.to))

abbrev pub selection_clear : List (List ℕ) → ListboxState → Wanted
selection_clear words box = do
  less ← range_in words (codes "path selection clear first ?last?") box
  change (Select (Clear less.from less.to))

-- path selection includes index
abbrev pub selection_includes : List (List ℕ) → ListboxState → Wanted
selection_includes (index ∷ []) box = do
  one ← span_of index index box
  told (truth (has_selected (part one.from one.to box.items)))
selection_includes _ box = wrong_args (codes "path selection includes index")

-- by its names: what each asks for with these words
abbrev pub selection_commands : List (List ℕ) → ListboxState → List (List ℕ × Wanted)
selection_commands words box =
    (codes "set", selection_set words box)
    ∷ (codes "clear", selection_clear words box)
    ∷ (codes "includes", selection_includes words box)
    ∷ []

unfoldable pub selection_words : List ℕ → List (List ℕ) → ListboxState → Wanted
selection_words name words box = unwrap_or (lookup (bytes_eq name) (selection_commands words box)) (bad_option name)

abbrev pub list_selection : List (List ℕ) → ListboxState → Wanted
list_selection [] box = wrong_args (codes "path selection set|clear first ?last?")
list_selection (name ∷ words) box = selection_words name words box

-- path activate index
abbrev pub list_activate : List (List ℕ) → ListboxState → Wanted
list_activate words box = do
  at ← index_in words (codes "path activate index")
  change (Activate (before at (length box.items) box.active))

-- the sub-commands by their names: what each asks for with these words
abbrev pub listbox_commands : List (List ℕ) → ListboxState → List (List ℕ × Wanted)
listbox_commands words box =
    (codes "insert", list_insert words box)
    ∷ (codes "delete", list_delete words box)
    ∷ (codes "get", list_get words box)
    ∷ (codes "size", list_size words box)
    ∷ (codes "index", list_index words box)
    ∷ (codes "curselection", list_curselection words box)
    ∷ (codes "selection", list_selection words box)
    ∷ (codes "activate", list_activate words box)
    ∷ []

unfoldable pub listbox_words : List ℕ → List (List ℕ) → ListboxState → Wanted
listbox_words name words box = unwrap_or (lookup (bytes_eq name) (listbox_commands words box)) (bad_option name)
