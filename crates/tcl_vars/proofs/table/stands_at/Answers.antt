-- The name at the place is the first that is equal, since names are distinct.
use Rattle.std.proofs.Common.{arith, ◌≡◌, ◌∙◌, sym, ap, option_map, Some, position, slice_get, string_bytes}
use Rattle.std.specs.Cmp.Lexicographic.{bytes_decides}
use Rattle.std.specs.Map.{keys_of, lookup, values_of}
use Rattle.std.specs.Str.{bytes_eq}
use Rattle.tcl_vars.proofs.NamedLemmas.{stands_first}
use Rattle.tcl_vars.proofs.table.stands_at.Given.{Over}
use Rattle.tcl_vars.proofs.table.stands_at.Goals as goal
use Rattle.tcl_vars.proofs.table.stands_at.Goals.{After-as_str}

-- the name that stands there is found there
found : (g : Over) (c : After-as_str g) → c.as_str.result.now ≡ c.args.name.now
    → (position (λ k. bytes_eq c.args.name.now (string_bytes k)) (keys_of c.args.entries.now.entries) ≡ Some c.args.place)
    × (slice_get (values_of c.args.entries.now.entries) c.args.place ≡ lookup (λ k. bytes_eq c.args.name.now (string_bytes k)) c.args.entries.now.entries)
found g c same =
    let at : slice_get c.args.entries.now.entries c.args.place ≡ Some (c.unwrap.result.0.now, c.unwrap.result.1.now) = sym c.get_index.ensures.entry ∙ ap (option_map (λ p. (p.0.now, p.1.now))) c.unwrap.ensures in
    stands_first c.args.name.now c.args.entries.now.entries c.args.place _ _ c.len.ensures.unique at (sym c.as_str.ensures.value ∙ same)

pub returns-then-place-len-clause-index : goal.returns-then-place-len-clause-index
returns-then-place-len-clause-index g c = λ yes.
    let decides = bytes_decides c.as_str.result.now c.args.name.now in
    (found g (goal.at.returns-then-place-len-clause-index g c).After-as_str
    (first_of (search (decides.0, c.eq.ensures, yes), search (decides, c.eq, yes), grind (arith, decides.0, c.eq.ensures, yes)))).0

pub returns-then-place-len-clause-value : goal.returns-then-place-len-clause-value
returns-then-place-len-clause-value g c = λ yes.
    let decides = bytes_decides c.as_str.result.now c.args.name.now in
    (found g (goal.at.returns-then-place-len-clause-value g c).After-as_str
    (first_of (search (decides.0, c.eq.ensures, yes), search (decides, c.eq, yes), grind (arith, decides.0, c.eq.ensures, yes)))).1
