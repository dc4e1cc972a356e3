-- The name at the place is the first that is equal, since names are distinct.
use Rattle.std.proofs.Common.{arith, ◌≡◌, ◌∙◌, sym, ap, option_map, Some, slice_get}
use Rattle.std.specs.Cmp.Lexicographic.{bytes_decides}
use Rattle.tcl_vars.specs.Table.{value_at}
use Rattle.tcl_vars.proofs.NamedLemmas.{held_there}
use Rattle.tcl_vars.proofs.table.Table.held_at.Goals as goal

pub returns-then-eq : goal.returns-then-eq
returns-then-eq g c =
    let at : slice_get c.self.inside.entries.entries c.args.place ≡ Some (c.unwrap.result.0.now, c.unwrap.result.1.now) = sym c.get_index.ensures.entry ∙ ap (option_map (λ p. (p.0.now, p.1.now))) c.unwrap.ensures in
    let decides = bytes_decides c.as_str.result.now c.args.name.now in
    let same : c.as_str.result.now ≡ c.args.name.now = first_of (search (decides.0, c.eq.ensures, c.if-eq.true), search (decides, c.eq, c.if-eq), grind (arith, decides.0, c.eq.ensures, c.if-eq.true)) in
    ap (λ t. value_at t c.args.name.now) (sym c.self.view_is) ∙ held_there c.args.name.now _ _ _ _ c.len.ensures.unique at (sym c.as_str.ensures.value ∙ same)
