-- A command that a name calls.
use Rattle.std.proofs.Common.{◌≡◌, ℕ, List, Bool, true, false, cond, Option, Some, ap, sym, ◌∙◌}
use Rattle.tcl_vars.specs.Store.{Store}
use Rattle.tcl_table.specs.declared.builtin.Builtin.{Builtin as BuiltinName}
use Rattle.tcl_table.specs.declared.command.Command.{Command}
use Rattle.tcl_table.specs.declared.command.Command.TheVariants.{Builtin, Outside}
use Rattle.tcl_control.specs.declared.context.Context.{Context}
use Rattle.tcl_control.specs.Control.{Called, builtin_call, by_command, call_of}
use Rattle.tcl_table.specs.Names.{is_dotted, plain_name}
use Rattle.tcl_table.specs.Table.{value_at}

pub builtin_called : (name plain : List ℕ) (words : List (List ℕ)) (store : Store) (context : Context) (builtin : BuiltinName) (dotted : Bool) (called : Called)
    → plain ≡ plain_name name → dotted ≡ is_dotted plain → dotted ≡ false → Some (Builtin builtin) ≡ value_at context.commands plain
    → called ≡ builtin_call builtin words store context → called ≡ call_of name words store context
builtin_called name plain words store context builtin dotted called named dot none found is =
    is
    ∙ ap (by_command name words store context) found
    ∙ ap (λ b. by_command name words store context (cond b (Some (Outside plain)) (value_at context.commands plain))) (sym none ∙ dot)
    ∙ ap (λ n. by_command name words store context (cond (is_dotted n) (Some (Outside n)) (value_at context.commands n))) named
