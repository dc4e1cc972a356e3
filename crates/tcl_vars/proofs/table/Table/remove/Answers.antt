-- A map's removal is that of its named entries.
use Rattle.std.proofs.Common.{◌∙◌, sym, ap, subst}
use Rattle.tcl_vars.specs.Table.{value_at, without}
use Rattle.tcl_vars.specs.Named.{named_entries}
use Rattle.tcl_vars.proofs.NamedLemmas.{lookup-named_entries, named_entries-remove_entry}
use Rattle.tcl_vars.specs.Short.{ShortNames}
use Rattle.tcl_vars.proofs.ShortLemmas.{ShortNames-without}
use Rattle.tcl_vars.proofs.table.Table.remove.Goals as goal

pub returns-clause-value : goal.returns-clause-value
returns-clause-value g c =
    c.shift_remove.ensures.value ∙ sym (lookup-named_entries c.args.name.now c.self.inside.entries.entries) ∙ ap (λ t. value_at t c.args.name.now) c.self.view_is

pub returns-clause-rest : goal.returns-clause-rest
returns-clause-rest g c =
    ap named_entries c.shift_remove.ensures.entries ∙ named_entries-remove_entry c.args.name.now c.self.inside.entries.entries ∙ ap (λ t. without t c.args.name.now) c.self.view_is

pub returns-clause-gone : goal.returns-clause-gone
returns-clause-gone g c = lookup-named_entries c.args.name.now c.shift_remove.new.self.entries ∙ c.shift_remove.ensures.updates.1

pub invariant_of-self : goal.invariant_of-self
invariant_of-self g c =
    subst ShortNames (sym (ap named_entries c.shift_remove.ensures.entries ∙ named_entries-remove_entry c.args.name.now c.self.inside.entries.entries))
    (ShortNames-without (named_entries c.self.inside.entries.entries) c.args.name.now c.self.invariant)
