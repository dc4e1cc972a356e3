-- Meaning. The commands by their names.
use Rattle.std.specs.Prelude.{ℕ, Bool, true, false, ◌+◌, List, [], ◌∷◌, map, Option, if◌then◌else◌, Some, codes}
use Rattle.tcl_vars.specs.Table.{Table as Named}
pub use Rattle.tcl_vars.specs.Table.{value_at, with_value, without}
use Rattle.tcl_table.specs.Names.{is_dotted}
use Rattle.tcl_table.specs.declared.builtin.Builtin.{Builtin as BuiltinName}
use Rattle.tcl_table.specs.declared.builtin.Builtin.TheVariants as builtin
use Rattle.tcl_table.specs.declared.command.Command.{Command}
use Rattle.tcl_table.specs.declared.command.Command.TheVariants.{Builtin, Texts, Outside, Procedure}
use Rattle.tcl_commands.specs.declared.commands.VariableCommand.TheVariants as variable
use Rattle.tcl_text.specs.declared.commands.TextCommand.{TextCommand}
use Rattle.tcl_text.specs.declared.commands.TextCommand.TheVariants as text

-- names with commands, in the order in which they came
abbrev pub NamedCommands : Type 0
NamedCommands = Named Command

abbrev pub is_procedure : Command → Bool
is_procedure (Procedure procedure) = true
is_procedure other = false

abbrev pub procedures_among : List Command → ℕ
procedures_among [] = 0
procedures_among (command ∷ commands) = if is_procedure command then procedures_among commands + 1 else procedures_among commands

-- how many names call procedures
abbrev pub procedure_count : NamedCommands → ℕ
procedure_count table = procedures_among (map (λ e. e.1) table)

-- with the commands of the interpreter's own
abbrev pub with_builtins : List (List ℕ × BuiltinName) → NamedCommands → NamedCommands
with_builtins [] table = table
with_builtins (entry ∷ entries) table = with_builtins entries (with_value table entry.0 (Builtin entry.1))

-- with commands on texts and lists
abbrev pub with_texts : List (List ℕ × TextCommand) → NamedCommands → NamedCommands
with_texts [] table = table
with_texts (entry ∷ entries) table = with_texts entries (with_value table entry.0 (Texts entry.1))

-- with outside commands, which replace others of their names
abbrev pub with_outside : List (List ℕ) → NamedCommands → NamedCommands
with_outside [] table = table
with_outside (name ∷ names) table = with_outside names (with_value table name (Outside name))

abbrev pub builtins : List (List ℕ × BuiltinName)
builtins =
    (codes "break", builtin.Break)
    ∷ (codes "catch", builtin.Catch)
    ∷ (codes "continue", builtin.Continue)
    ∷ (codes "error", builtin.Error)
    ∷ (codes "eval", builtin.Eval)
    ∷ (codes "expr", builtin.Expr)
    ∷ (codes "for", builtin.For)
    ∷ (codes "foreach", builtin.Foreach)
    ∷ (codes "if", builtin.If)
    ∷ (codes "info", builtin.Info)
    ∷ (codes "proc", builtin.Proc)
    ∷ (codes "rename", builtin.Rename)
    ∷ (codes "return", builtin.Return)
    ∷ (codes "switch", builtin.Switch)
    ∷ (codes "uplevel", builtin.Uplevel)
    ∷ (codes "upvar", builtin.Upvar)
    ∷ (codes "while", builtin.While)
    ∷ []

-- the commands on variables that know no level but their script's
abbrev pub variables : List (List ℕ × BuiltinName)
variables =
    (codes "set", builtin.Variable variable.Set)
    ∷ (codes "unset", builtin.Variable variable.Unset)
    ∷ (codes "incr", builtin.Variable variable.Incr)
    ∷ (codes "append", builtin.Variable variable.Append)
    ∷ (codes "lappend", builtin.Variable variable.Lappend)
    ∷ (codes "array", builtin.Variable variable.Array)
    ∷ (codes "global", builtin.Variable variable.Global)
    ∷ []

-- the commands on texts and lists
abbrev pub texts : List (List ℕ × TextCommand)
texts =
    (codes "list", text.List)
    ∷ (codes "llength", text.Llength)
    ∷ (codes "lindex", text.Lindex)
    ∷ (codes "lrange", text.Lrange)
    ∷ (codes "linsert", text.Linsert)
    ∷ (codes "lreplace", text.Lreplace)
    ∷ (codes "lsearch", text.Lsearch)
    ∷ (codes "lsort", text.Lsort)
    ∷ (codes "join", text.Join)
    ∷ (codes "split", text.Split)
    ∷ (codes "concat", text.Concat)
    ∷ (codes "string", text.String)
    ∷ []

-- The commands at first, with the names of the outside ones.
unfoldable pub first_commands : List (List ℕ) → NamedCommands
first_commands names = with_outside names (with_texts texts (with_builtins variables (with_builtins builtins [])))

-- The command that a name calls. One that begins with a dot is always an outside command's.
abbrev pub command_of : NamedCommands → List ℕ → Option Command
command_of table name = if is_dotted name then Some (Outside name) else value_at table name
