-- A map's removal is that of its named entries.
use Rattle.std.proofs.Common.{◌∙◌, sym, ap}
use Rattle.tcl_table.specs.Table.{value_at, without}
use Rattle.tcl_vars.specs.Named.{named_entries}
use Rattle.tcl_vars.proofs.NamedLemmas.{lookup-named_entries, named_entries-remove_entry}
use Rattle.tcl_table.proofs.command.CommandTable.take_out.Goals as goal

pub returns-clause-value : goal.returns-clause-value
returns-clause-value c =
    c.shift_remove.ensures.value ∙ sym (lookup-named_entries c.args.name.now c.self.inside.entries.entries) ∙ ap (λ t. value_at t c.args.name.now) c.self.view_is

pub returns-clause-rest : goal.returns-clause-rest
returns-clause-rest c =
    ap named_entries c.shift_remove.ensures.entries ∙ named_entries-remove_entry c.args.name.now c.self.inside.entries.entries ∙ ap (λ t. without t c.args.name.now) c.self.view_is
