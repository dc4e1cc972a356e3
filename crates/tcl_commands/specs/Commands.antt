-- Meaning. The commands on variables: from a command's words and the variables to what it leaves and answers.
use Rattle.std.specs.Prelude.{ℕ, if◌then◌else◌, List, [], ◌∷◌, Option, Some, None, codes}
use Rattle.std.specs.Str.{bytes_eq}
use Rattle.tcl_text.specs.Answers.{Answer}
use Rattle.tcl_vars.specs.Store.{Store}
use Rattle.tcl_commands.specs.declared.commands.VariableCommand.{VariableCommand}
use Rattle.tcl_commands.specs.declared.commands.VariableCommand.TheVariants as command
use Rattle.tcl_commands.specs.Arrays.{array_words}
use Rattle.tcl_commands.specs.Done.{Done}
use Rattle.tcl_commands.specs.Links.{global_words}
use Rattle.tcl_commands.specs.Unset.{unset_words}
use Rattle.tcl_commands.specs.Values.{set_words, incr_words, append_words, lappend_words}

-- the command of this name
unfoldable pub variable_command_named : List ℕ → Option VariableCommand
variable_command_named name =
    if bytes_eq name (codes "set") then Some command.Set
    else (if bytes_eq name (codes "unset") then Some command.Unset
    else (if bytes_eq name (codes "incr") then Some command.Incr
    else (if bytes_eq name (codes "append") then Some command.Append
    else (if bytes_eq name (codes "lappend") then Some command.Lappend
    else (if bytes_eq name (codes "array") then Some command.Array
    else (if bytes_eq name (codes "global") then Some command.Global
    else None))))))

-- what a command does, called in a frame with the words after its name
abbrev pub command_done : VariableCommand → ℕ → List (List ℕ) → Store → Done
command_done command.Set frame words store = set_words frame words store
command_done command.Unset frame words store = unset_words frame words store
command_done command.Incr frame words store = incr_words frame words store
command_done command.Append frame words store = append_words frame words store
command_done command.Lappend frame words store = lappend_words frame words store
command_done command.Array frame words store = array_words frame words store
command_done command.Global frame words store = global_words frame words store

-- what is left and answered; no answer of another command
pub record Handled : Type 0 where
  pub store : Store
  pub answer : Option Answer

abbrev pub handled : Done → Handled
handled done = record { store = done.store; answer = Some done.answer }

abbrev pub handled_by : Option VariableCommand → ℕ → List (List ℕ) → Store → Handled
handled_by None frame words store = record { store = store; answer = None }
handled_by (Some command) frame words store = handled (command_done command frame words store)

-- the first word names the command
abbrev pub variable_command_of : ℕ → List (List ℕ) → Store → Handled
variable_command_of frame [] store = record { store = store; answer = None }
variable_command_of frame (name ∷ words) store = handled_by (variable_command_named name) frame words store
