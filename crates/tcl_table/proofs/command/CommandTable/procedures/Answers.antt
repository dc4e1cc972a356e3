-- The values of the map are those of its named entries.
use Rattle.std.proofs.Common.{◌∙◌, ap, sym}
use Rattle.tcl_table.specs.Table.{procedures_among, procedure_count}
use Rattle.tcl_table.proofs.TableLemmas.{values-named_entries}
use Rattle.tcl_table.proofs.command.CommandTable.procedures.Goals as goal

pub returns : goal.returns
returns c = c.count_procedures.ensures ∙ ap procedures_among (sym (values-named_entries c.self.inside.entries.entries)) ∙ ap procedure_count c.self.view_is
