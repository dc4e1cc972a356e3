use Rattle.std.proofs.Common.{◌≡◌, ◌+◌, ◌≤◌, length}
use Rattle.indexmap.specs.IndexMap.{index_map_len, values}
use Rattle.tcl_table.specs.Table.{procedures_among}
use Rattle.tcl_table.proofs.command.count_procedures.Given as goal

abbrev pub invariant-loop-command : goal.invariant-loop-command
invariant-loop-command l = record {
  counted : l.count + procedures_among l.command-iterator ≡ procedures_among (values l.commands);
  within : l.count + length l.command-iterator ≤ index_map_len l.commands;
}
