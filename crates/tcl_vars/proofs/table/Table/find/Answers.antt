-- A map's look-up is that of its named entries.
use Rattle.std.proofs.Common.{◌≡◌, ◌∙◌, sym, ap, option_map, Some, slice_get}
use Rattle.tcl_vars.specs.Table.{value_at}
use Rattle.tcl_vars.proofs.NamedLemmas.{lookup-named_entries, none_of, value_there}
use Rattle.tcl_vars.proofs.table.Table.find.Goals as goal

pub returns-in-Some : goal.returns-in-Some
returns-in-Some g c =
    let at : slice_get c.self.inside.entries.entries c.in-Some.place ≡ Some (c.unwrap.result.0.now, c.unwrap.result.1.now) = sym c.get_index.ensures.entry ∙ ap (option_map (λ p. (p.0.now, p.1.now))) c.unwrap.ensures in
    sym (value_there c.self.inside.entries.entries c.in-Some.place _ _ at) ∙ c.in-Some.ensures.value ∙ sym (lookup-named_entries c.args.name.now c.self.inside.entries.entries) ∙ ap (λ t. value_at t c.args.name.now) c.self.view_is

pub returns-in-None : goal.returns-in-None
returns-in-None g c = none_of _ c.in-None.ensures.found ∙ sym (lookup-named_entries c.args.name.now c.self.inside.entries.entries) ∙ ap (λ t. value_at t c.args.name.now) c.self.view_is
