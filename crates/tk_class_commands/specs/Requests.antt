-- Meaning. What the words behind a command's name ask for: their number, the path of a widget of the command's class, then the other word.
use Rattle.std.specs.Prelude.{ℕ, List, [], ◌∷◌, Option, Some, None, Result, Ok, Err}
use Rattle.tcl_text.specs.Answers.{◌>>=◌, bad_option, integer_in, wrong_args}
use Rattle.tk_class_commands.specs.declared.entries.EntryRequest.TheVariants as entry
use Rattle.tk_class_commands.specs.declared.listboxes.ListboxRequest.TheVariants as listbox
use Rattle.tk_class_commands.specs.declared.requests.ClassRequest.{ClassRequest}
use Rattle.tk_class_commands.specs.declared.requests.ClassRequest.TheVariants.{Button, Entry, Listbox}
use Rattle.tk_class_commands.specs.declared.requests.ClassTarget.{ClassTarget}
use Rattle.tk_class_commands.specs.declared.table.ClassForm.{ClassForm}
use Rattle.tk_class_commands.specs.declared.table.ClassForm.TheVariants.{Path, Word}
use Rattle.tk_class_commands.specs.declared.table.PathForm.{PathForm}
use Rattle.tk_class_commands.specs.declared.table.PathForm.TheVariants as path
use Rattle.tk_class_commands.specs.declared.table.WordForm.{WordForm}
use Rattle.tk_class_commands.specs.declared.table.WordForm.TheVariants as word
use Rattle.tk_class_commands.specs.Table.{ClassCommand}
use Rattle.tk_class_commands.specs.Targets.{number_of}
use Rattle.tk_widgets.specs.declared.entry_keys.Move.{Move as Way}
use Rattle.tk_widgets.specs.Entries.{move_named}
use Rattle.tk_screen.specs.Own.{Windowing}
use Rattle.tk_widgets.specs.declared.entry_commands.EntryEdit.TheVariants as edit
use Rattle.tk_widgets.specs.declared.listbox_keys.RowStep.{RowStep}
use Rattle.tk_widgets.specs.ListboxKeys.{step_named}

-- the option that a word names
abbrev pub option_or_error : {T : Type 0} → List ℕ → Option T → Result T (List ℕ)
option_or_error word (Some found) = Ok found
option_or_error word None = bad_option word

-- a way of an entry's cursor, and a step of a listbox's active item
abbrev pub way_in : List ℕ → Result Way (List ℕ)
way_in word = option_or_error word (move_named word)

abbrev pub step_in : List ℕ → Result RowStep (List ℕ)
step_in word = option_or_error word (step_named word)

-- what a path alone asks for
abbrev pub path_request : PathForm → ClassRequest
path_request (path.Button request) = Button request
path_request path.Backspace = Entry (entry.Edit edit.Backspace)
path_request path.Delete = Entry (entry.Edit edit.DeleteBehind)
path_request path.Choose = Listbox listbox.Choose

-- what the word behind a path asks for
abbrev pub word_request : WordForm → List ℕ → Result ClassRequest (List ℕ)
word_request word.Typed text = Ok (Entry (entry.Edit (edit.Typed text)))
word_request word.Move text = do
  way ← way_in text
  Ok (Entry (entry.Move way))
word_request word.Point text = do
  x ← integer_in text
  Ok (Entry (entry.Point x))
word_request word.Press text = do
  y ← integer_in text
  Ok (Listbox (listbox.Press y))
word_request word.Drag text = do
  y ← integer_in text
  Ok (Listbox (listbox.Drag y))
word_request word.Step text = do
  step ← step_in text
  Ok (Listbox (listbox.Step step))

abbrev pub target : ℕ → ClassRequest → ClassTarget
target number request = record { number = number; request = request }

abbrev pub path_target : ClassCommand → PathForm → List (List ℕ) → Windowing → Result ClassTarget (List ℕ)
path_target command form (path ∷ []) own = do
  number ← number_of command.kind path own
  Ok (target number (path_request form))
path_target command form _ own = wrong_args command.usage

abbrev pub word_target : ClassCommand → WordForm → List (List ℕ) → Windowing → Result ClassTarget (List ℕ)
word_target command form (path ∷ word ∷ []) own = do
  number ← number_of command.kind path own
  request ← word_request form word
  Ok (target number request)
word_target command form _ own = wrong_args command.usage

abbrev pub target_by : ClassCommand → ClassForm → List (List ℕ) → Windowing → Result ClassTarget (List ℕ)
target_by command (Path form) words own = path_target command form words own
target_by command (Word form) words own = word_target command form words own

-- the widget that the words are for, and what they ask of it
abbrev pub target_in : ClassCommand → List (List ℕ) → Windowing → Result ClassTarget (List ℕ)
target_in command words own = target_by command command.form words own
