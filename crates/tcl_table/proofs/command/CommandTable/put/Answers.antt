-- An insertion is that of the named entries.
use Rattle.std.proofs.Common.{◌∙◌, ap}
use Rattle.tcl_table.specs.Table.{with_value}
use Rattle.tcl_vars.proofs.NamedLemmas.{named_entries-inserted}
use Rattle.tcl_table.proofs.command.CommandTable.put.Goals as goal

pub returns-clause-ok : goal.returns-clause-ok
returns-clause-ok c =
    named_entries-inserted c.args.name.now c.args.command c.in_ok-name.name c.self.inside.entries.entries c.insert.new.self.entries c.in_ok-name.ensures.ok c.in_ok-replaced.ensures.entries
    ∙ ap (λ t. with_value t c.args.name.now c.args.command) c.self.view_is
