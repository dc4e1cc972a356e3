use Rattle.std.proofs.Common.{◌≡◌, drop, []}
use Rattle.tcl_table.specs.Table.{builtins, variables, texts, with_builtins, with_texts, with_outside}
use Rattle.tcl_table.proofs.command.first_commands.Given as goal

abbrev pub invariant-loop-name : goal.invariant-loop-name
invariant-loop-name l = with_outside (drop l.name-index l.outside) l.table ≡ with_outside l.outside (with_texts texts (with_builtins variables (with_builtins builtins [])))
