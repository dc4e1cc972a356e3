-- Meaning. What a command that is called does, by its name.
use Rattle.std.specs.Prelude.{ℕ, List, [], ◌∷◌, length, Option, Some, None, codes}
use Rattle.tcl_text.specs.Commands.{command_answer}
use Rattle.tcl_vars.specs.Store.{Store}
use Rattle.tcl_table.specs.declared.builtin.Builtin.{Builtin as BuiltinName}
use Rattle.tcl_table.specs.declared.builtin.Builtin.TheVariants as builtin
use Rattle.tcl_table.specs.declared.command.Command.{Command}
use Rattle.tcl_table.specs.declared.command.Command.TheVariants as command
use Rattle.tcl_control.specs.declared.context.Context.{Context}
use Rattle.tcl_control.specs.declared.control.Call.{Call}
use Rattle.tcl_control.specs.declared.control.Call.TheVariants.{Plans, Outside, Unknown}
use Rattle.tcl_control.specs.declared.plan.Plan.{Plan}
use Rattle.tcl_control.specs.declared.plan.Plan.TheVariants.{Ends}
use Rattle.tcl_control.specs.declared.usages.Usage.TheVariants as usage
use Rattle.tcl_control.specs.Commands.{Ending, break_plan, catch_plan, continue_plan, error_plan, eval_plan, expr_plan, failed_plan, for_plan, foreach_plan, misused, info_plan, return_plan, uplevel_plan, while_plan, texts_plan}
use Rattle.tcl_control.specs.Choices.{if_plan, switch_plan}
use Rattle.tcl_control.specs.Procedures.{Changed, ProcedureCalled, table_changed, procedure_call, with_procedure, with_new_name}
use Rattle.tcl_control.specs.declared.code.Code.TheVariants.{Normal}
use Rattle.tcl_table.specs.Levels.{here}
use Rattle.tcl_table.specs.Names.{plain_name}
use Rattle.tcl_table.specs.Table.{command_of}
use Rattle.tcl_control.specs.Variables.{upvar_ending, variable_ending}

-- what a call leaves of the variables and of the context, and what is to be done
pub record Called : Type 0 where
  pub store : Store
  pub context : Context
  pub call : Call

-- nothing has changed
abbrev pub keeps_all : Store → Context → Plan → Called
keeps_all store context plan = record { store = store; context = context; call = Plans plan }

-- it has ended, and variables may have changed
abbrev pub ends_with : Context → Ending → Called
ends_with context ending = record { store = ending.store; context = context; call = Plans (Ends ending.code ending.text) }

-- the table of commands has changed, unless that was refused
abbrev pub recorded_plan : Option (List ℕ) → Plan
recorded_plan None = Ends Normal []
recorded_plan (Some text) = failed_plan text

abbrev pub recorded : Store → Context → Changed → Called
recorded store context changed = record { store = store; context = record context { commands = changed.table }; call = Plans (recorded_plan changed.refused) }

-- proc name params body
abbrev pub proc_call : List (List ℕ) → Store → Context → Called
proc_call (name ∷ parameters ∷ body ∷ []) store context =
    recorded store context (table_changed context.commands (with_procedure context.commands name parameters body))
proc_call _ store context = keeps_all store context (misused usage.Proc)

-- rename old new
abbrev pub rename_call : List (List ℕ) → Store → Context → Called
rename_call (old ∷ new ∷ []) store context = recorded store context (table_changed context.commands (with_new_name context.commands old new))
rename_call _ store context = keeps_all store context (misused usage.Rename)

-- a procedure was called
abbrev pub in_procedure : Context → ProcedureCalled → Called
in_procedure context called = record { store = called.store; context = record context { levels = called.levels }; call = Plans called.plan }

-- a command of Tcl, those on texts and lists aside
abbrev pub builtin_call : BuiltinName → List (List ℕ) → Store → Context → Called
builtin_call builtin.Break words store context = keeps_all store context (break_plan words)
builtin_call builtin.Catch words store context = keeps_all store context (catch_plan words)
builtin_call builtin.Continue words store context = keeps_all store context (continue_plan words)
builtin_call builtin.Error words store context = keeps_all store context (error_plan words)
builtin_call builtin.Eval words store context = keeps_all store context (eval_plan words)
builtin_call builtin.Expr words store context = keeps_all store context (expr_plan words)
builtin_call builtin.For words store context = keeps_all store context (for_plan words)
builtin_call builtin.Foreach words store context = keeps_all store context (foreach_plan words)
builtin_call builtin.If words store context = keeps_all store context (if_plan words)
builtin_call builtin.Info words store context = keeps_all store context (info_plan (length context.levels) (here context.levels store) store words)
builtin_call builtin.Proc words store context = proc_call words store context
builtin_call builtin.Rename words store context = rename_call words store context
builtin_call builtin.Return words store context = keeps_all store context (return_plan words)
builtin_call builtin.Switch words store context = keeps_all store context (switch_plan words)
builtin_call builtin.Uplevel words store context = keeps_all store context (uplevel_plan (length context.levels) words)
builtin_call builtin.Upvar words store context = ends_with context (upvar_ending context.levels words store)
builtin_call (builtin.Variable command) words store context = ends_with context (variable_ending command context.levels words store)
builtin_call builtin.While words store context = keeps_all store context (while_plan words)

abbrev pub by_command : List ℕ → List (List ℕ) → Store → Context → Option Command → Called
by_command name words store context (Some (command.Builtin builtin)) = builtin_call builtin words store context
by_command name words store context (Some (command.Texts text)) = keeps_all store context (texts_plan (command_answer text words))
by_command name words store context (Some (command.Outside first)) = record { store = store; context = context; call = Outside first }
by_command name words store context (Some (command.Procedure procedure)) = in_procedure context (procedure_call name procedure words store context.levels)
by_command name words store context None = record { store = store; context = context; call = Unknown }

-- a command of this name is called with these words behind it
abbrev pub call_of : List ℕ → List (List ℕ) → Store → Context → Called
call_of name words store context = by_command name words store context (command_of context.commands (plain_name name))
