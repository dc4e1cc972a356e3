-- Meaning. The commands on variables, at the level of the script that calls them.
use Rattle.std.specs.Prelude.{ℕ, ◌%◌, ◌==◌, nat_lt, if◌then◌else◌, List, [], ◌∷◌, length, take, Option, Some, None, Result, Ok, Err, codes}
use Rattle.tcl_text.specs.Answers.{Answer}
use Rattle.tcl_vars.specs.Store.{Store}
use Rattle.tcl_commands.specs.Commands.{command_done}
use Rattle.tcl_commands.specs.Done.{Done}
use Rattle.tcl_commands.specs.Links.{upvar_words}
use Rattle.tcl_commands.specs.declared.commands.VariableCommand.{VariableCommand}
use Rattle.tcl_control.specs.declared.code.Code.{Code}
use Rattle.tcl_control.specs.declared.code.Code.TheVariants.{Normal, Error}
use Rattle.tcl_control.specs.Commands.{Ending, bad_level, levels_left}
use Rattle.tcl_table.specs.Levels.{here}
use Rattle.tcl_control.specs.declared.usages.Usage.TheVariants.{Upvar}
use Rattle.tcl_control.specs.Usages.{misused_text}

abbrev pub answer_code : Answer → Code
answer_code (Ok text) = Normal
answer_code (Err text) = Error

abbrev pub answer_text : Answer → List ℕ
answer_text (Ok text) = text
answer_text (Err text) = text

-- how a command ends that leaves these variables and answers this
abbrev pub done_ending : Done → Ending
done_ending done = record { store = done.store; code = answer_code done.answer; text = answer_text done.answer }

-- a command that knows no level but its script's
abbrev pub variable_ending : VariableCommand → List ℕ → List (List ℕ) → Store → Ending
variable_ending command levels words store = done_ending (command_done command (here levels store) words store)

-- names are linked to those of the frame that this level names, which must be an earlier one
abbrev pub linked_ending : List ℕ → List (List ℕ) → ℕ → Store → Option ℕ → Ending
linked_ending word names frame store None = record { store = store; code = Error; text = bad_level word }
linked_ending word names frame store (Some place) =
    if nat_lt place frame then done_ending (upvar_words frame place names store)
    else record { store = store; code = Error; text = bad_level word }

-- the place of the frame where only so many of the levels are
abbrev pub place_among : List ℕ → Store → Option ℕ → Option ℕ
place_among levels store (Some count) = Some (here (take count levels) store)
place_among levels store None = None

abbrev pub upvar_at : List ℕ → List ℕ → List (List ℕ) → Store → Ending
upvar_at levels word names store = linked_ending word names (here levels store) store (place_among levels store (levels_left (length levels) word))

abbrev pub upvar_misused : Store → Ending
upvar_misused store = record { store = store; code = Error; text = misused_text Upvar }

-- an odd count of words has a level; otherwise it is one up
abbrev pub upvar_with : List ℕ → List ℕ → List (List ℕ) → Store → Ending
upvar_with levels word [] store = upvar_misused store
upvar_with levels word (other ∷ names) store =
    if length (word ∷ other ∷ names) % 2 == 0 then upvar_at levels (codes "1") (word ∷ other ∷ names) store
    else upvar_at levels word (other ∷ names) store

-- upvar ?level? other mine ?other mine ..?
abbrev pub upvar_ending : List ℕ → List (List ℕ) → Store → Ending
upvar_ending levels [] store = upvar_misused store
upvar_ending levels (word ∷ words) store = upvar_with levels word words store
