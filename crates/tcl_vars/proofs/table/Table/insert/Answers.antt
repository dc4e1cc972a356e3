-- An insertion is that of the named entries.
use Rattle.std.proofs.Common.{◌∙◌, sym, ap, subst}
use Rattle.tcl_vars.specs.Named.{named_entries}
use Rattle.tcl_vars.specs.Short.{ShortNames}
use Rattle.tcl_vars.specs.Table.{with_value}
use Rattle.tcl_vars.proofs.NamedLemmas.{named_entries-inserted}
use Rattle.tcl_vars.proofs.ShortLemmas.{ShortNames-with_value}
use Rattle.tcl_vars.proofs.table.Table.insert.Goals as goal

pub returns-clause-ok : goal.returns-clause-ok
returns-clause-ok g c =
    named_entries-inserted c.args.name.now c.args.value c.in_ok-name.name c.self.inside.entries.entries c.insert.new.self.entries c.in_ok-name.ensures.ok c.in_ok-insert.ensures.entries
    ∙ ap (λ t. with_value t c.args.name.now c.args.value) c.self.view_is

pub invariant_of-self-2 : goal.invariant_of-self-2
invariant_of-self-2 g c =
    subst ShortNames (sym (named_entries-inserted c.args.name.now c.args.value c.in_ok-name.name c.self.inside.entries.entries c.insert.new.self.entries c.in_ok-name.ensures.ok c.in_ok-insert.ensures.entries))
    (ShortNames-with_value (named_entries c.self.inside.entries.entries) c.args.name.now c.args.value c.self.invariant c.requires)
