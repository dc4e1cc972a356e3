-- Commands in a table: the outside ones that are put into it, and its procedures.
use Rattle.std.proofs.Common.{◌≡◌, ℕ, zero, suc, ◌+◌, ◌<◌, List, [], ◌∷◌, String, map, length, drop, get_or, refl, ap, sym, ◌∙◌, add-one, arith}
use Rattle.tcl_table.specs.declared.command.Command.{Command}
use Rattle.tcl_table.specs.declared.command.Command.TheVariants.{Outside}
use Rattle.tcl_vars.specs.Named.{named_entries}
use Rattle.tcl_table.specs.Table.{NamedCommands, with_value, with_outside}

outside_suc : (names : List (List ℕ)) (i : ℕ) (table : NamedCommands) (d : List ℕ) → i < length names
    → with_outside (drop i names) table ≡ with_outside (drop (suc i) names) (with_value table (get_or names i d) (Outside (get_or names i d)))
outside_suc [] i table d less = absurd (omega arith)
outside_suc (first ∷ names) zero table d less = refl
outside_suc (first ∷ names) (suc i) table d less = outside_suc names i table d (omega arith)

-- the one at an index, and then those behind it
pub outside_at : (names : List (List ℕ)) (i : ℕ) (table : NamedCommands) (name : List ℕ) → i < length names → name ≡ get_or names i name
    → with_outside (drop i names) table ≡ with_outside (drop (i + 1) names) (with_value table name (Outside name))
outside_at names i table name less at =
    rw add-one (outside_suc names i table name less ∙ ap (λ n. with_outside (drop (suc i) names) (with_value table n (Outside n))) (sym at))

-- the values of a map are those of its named entries
pub values-named_entries : {Z : Type 0} (es : List (String Z × Command)) → map (λ e. e.1) (named_entries es) ≡ map (λ e. e.1) es
values-named_entries [] = refl
values-named_entries (e ∷ es) = ap (λ l. e.1 ∷ l) (values-named_entries es)
