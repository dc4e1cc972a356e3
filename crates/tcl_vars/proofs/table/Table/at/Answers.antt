-- A name of the table is short.
use Rattle.std.proofs.Common.{◌∙◌, ap, sym, option_map, string_bytes}
use Rattle.tcl_vars.specs.Named.{named_entries}
use Rattle.tcl_vars.proofs.ShortLemmas.{IsShort-at}
use Rattle.tcl_vars.proofs.NamedLemmas.{slice_get-named_entries}
use Rattle.tcl_vars.proofs.table.Table.at.Goals as goal

pub returns-clause-short : goal.returns-clause-short
returns-clause-short g c =
    rw c.as_str.ensures.value
    (IsShort-at (named_entries c.self.inside.entries.entries) c.args.index (string_bytes c.unwrap.result.0.now, c.unwrap.result.1.now)
    (slice_get-named_entries c.self.inside.entries.entries c.args.index (c.unwrap.result.0.now, c.unwrap.result.1.now) (sym c.get_index.ensures.entry ∙ ap (option_map (λ p. (p.0.now, p.1.now))) c.unwrap.ensures))
    c.self.invariant)
