-- Meaning. The sub-commands of an entry (entry(n)), each from the words behind its name. `text` is the variable's, where it can be read.
use Rattle.std.specs.Prelude.{ℕ, ◌+◌, if◌then◌else◌, List, [], ◌∷◌, Option, Some, None, unwrap_or, Result, Ok, codes}
use Rattle.std.specs.Fmt.{decimal}
use Rattle.std.specs.Map.{lookup}
use Rattle.std.specs.Str.{bytes_eq}
use Rattle.tcl_text.specs.Answers.{◌>>=◌, answers, bad_index, bad_option, wrong_args}
use Rattle.tk_widgets.specs.declared.entry.Entry.{Entry}
use Rattle.tcl_text.specs.Characters.{size}
use Rattle.tk_widgets.specs.Entries.{shown, cursor_in, index_in, inserted, deleted, edited, by_text, by_backspace, by_delete}
use Rattle.tk_options.specs.declared.option.OptionEntry.{OptionEntry}
use Rattle.tk_options.specs.declared.option.OptionName.TheVariants.{State}
use Rattle.tk_widgets.specs.declared.entry_commands.EntryEdit.{EntryEdit}
use Rattle.tk_widgets.specs.declared.entry_commands.EntryEdit.TheVariants.{Insert, Delete, Typed, Backspace, DeleteBehind}
use Rattle.tk_widgets.specs.declared.outcome.WidgetChange.TheVariants.{PutCursor}
use Rattle.tk_widgets.specs.Classes.{has_value}
use Rattle.tk_widgets.specs.Outcomes.{Wanted, told, nothing, change, edit_if}

-- how many characters stand before an index
abbrev pub place_or_error : List ℕ → Option ℕ → Result ℕ (List ℕ)
place_or_error word (Some at) = Ok at
place_or_error word None = bad_index word

unfoldable pub place_in : List ℕ → Option (List ℕ) → Entry → Result ℕ (List ℕ)
place_in word text entry = place_or_error word (index_in word (size (shown text entry)) (cursor_in (shown text entry) entry))

-- what an edit makes of an entry that shows this text of a variable, if it edits it
abbrev pub edited_by : EntryEdit → Option (List ℕ) → Entry → Option Entry
edited_by (Insert at new) text entry = Some (edited (inserted at new) text entry)
edited_by (Delete from to) text entry = Some (edited (deleted from to) text entry)
edited_by (Typed new) text entry = by_text new text entry
edited_by Backspace text entry = by_backspace text entry
edited_by DeleteBehind text entry = by_delete text entry

-- it takes place in the state `normal` alone
abbrev pub edit_wanted : EntryEdit → Option (List ℕ) → List OptionEntry → Entry → Wanted
edit_wanted how text options entry = if has_value State (codes "normal") options then edit_if (edited_by how text entry) else nothing

-- path get
abbrev pub entry_get : List (List ℕ) → Option (List ℕ) → Entry → Wanted
entry_get [] text entry = told (Ok (shown text entry))
entry_get _ text entry = wrong_args (codes "path get")

-- path insert index text
abbrev pub entry_insert : List (List ℕ) → Option (List ℕ) → List OptionEntry → Entry → Wanted
entry_insert (index ∷ new ∷ []) text options entry = do
  at ← place_in index text entry
  edit_wanted (Insert at new) text options entry
entry_insert _ text options entry = wrong_args (codes "path insert index text")

-- path delete first ?last?
abbrev pub entry_delete : List (List ℕ) → Option (List ℕ) → List OptionEntry → Entry → Wanted
entry_delete (first ∷ []) text options entry = do
  from ← place_in first text entry
  edit_wanted (Delete from (from + 1)) text options entry
entry_delete (first ∷ last ∷ []) text options entry = do
  from ← place_in first text entry
  to ← place_in last text entry
  edit_wanted (Delete from to) text options entry
entry_delete _ text options entry = wrong_args (codes "path delete first ?last?")

-- path icursor index
abbrev pub entry_icursor : List (List ℕ) → Option (List ℕ) → Entry → Wanted
entry_icursor (index ∷ []) text entry = do
  at ← place_in index text entry
  change (PutCursor at)
entry_icursor _ text entry = wrong_args (codes "path icursor index")

-- path index index
abbrev pub entry_index : List (List ℕ) → Option (List ℕ) → Entry → Wanted
entry_index (index ∷ []) text entry = do
  at ← place_in index text entry
  told (answers (decimal at))
entry_index _ text entry = wrong_args (codes "path index index")

-- the sub-commands by their names: what each asks for with these words
abbrev pub entry_commands : List (List ℕ) → Option (List ℕ) → List OptionEntry → Entry → List (List ℕ × Wanted)
entry_commands words text options entry =
    (codes "get", entry_get words text entry)
    ∷ (codes "insert", entry_insert words text options entry)
    ∷ (codes "delete", entry_delete words text options entry)
    ∷ (codes "icursor", entry_icursor words text entry)
    ∷ (codes "index", entry_index words text entry)
    ∷ []

unfoldable pub entry_words : List ℕ → List (List ℕ) → Option (List ℕ) → List OptionEntry → Entry → Wanted
entry_words name words text options entry = unwrap_or (lookup (bytes_eq name) (entry_commands words text options entry)) (bad_option name)
