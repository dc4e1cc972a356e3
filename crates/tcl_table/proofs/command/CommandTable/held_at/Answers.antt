-- The name at the place is the first that is equal, since names are distinct.
use Rattle.std.proofs.Common.{arith, ◌≡◌, ◌∙◌, sym, ap, option_map, Some, slice_get, string_bytes, string_eq}
use Rattle.std.specs.Cmp.Lexicographic.{bytes_decides}
use Rattle.std.specs.Map.{keys_of, lookup}
use Rattle.std_alloc.specs.String.{string_eq_equiv}
use Rattle.std_collections.proofs.HashLookup.{lookup-IsFirst, get_value}
use Rattle.indexmap.proofs.RemoveLemmas.{own_first}
use Rattle.tcl_table.specs.Table.{value_at}
use Rattle.tcl_vars.proofs.NamedLemmas.{lookup-named_entries}
use Rattle.tcl_table.proofs.command.CommandTable.held_at.Goals as goal

pub returns-then-eq : goal.returns-then-eq
returns-then-eq c =
    let es = c.self.inside.entries.entries in
    let held = c.unwrap.result.0.now in
    let value = c.unwrap.result.1.now in
    let at : slice_get es c.args.place ≡ Some (held, value) = sym c.get_index.ensures.entry ∙ ap (option_map (λ p. (p.0.now, p.1.now))) c.unwrap.ensures in
    let first = own_first string_eq string_eq_equiv es c.args.place held value c.len.ensures.unique at in
    let found : lookup (string_eq held) es ≡ Some value = lookup-IsFirst (string_eq held) es c.args.place first ∙ get_value es c.args.place ∙ ap (option_map (λ e. e.1)) at in
    let decides = bytes_decides c.as_str.result.now c.args.name.now in
    let same : c.as_str.result.now ≡ c.args.name.now = first_of (search (decides.0, c.eq.ensures, c.if-eq.true), search (decides, c.eq, c.if-eq), grind (arith, decides.0, c.eq.ensures, c.if-eq.true)) in
    ap (λ t. value_at t c.args.name.now) (sym c.self.view_is)
    ∙ lookup-named_entries c.args.name.now es
    ∙ ap (λ n. lookup (λ k. Rattle.std.proofs.Common.bytes_eq n (string_bytes k)) es) (sym same ∙ c.as_str.ensures.value)
    ∙ found
