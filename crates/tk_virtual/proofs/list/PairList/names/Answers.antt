use Rattle.std.proofs.Common.{◌≡◌, ℕ, List, IfOk, ap, ◌∙◌, subst}
use Rattle.std.specs.Map.{keys_of}
use Rattle.tk_virtual.specs.Virtual.{written_names}
use Rattle.tk_virtual.proofs.FirstLemmas.{names_marked}
use Rattle.tk_virtual.proofs.FormLemmas.{too_long_listed}
use Rattle.tk_virtual.proofs.list.PairList.names.Goals as goal

pub returns-clause-ok : goal.returns-clause-ok
returns-clause-ok c =
    let entries = c.self.inside.pairs.entries in
    subst (λ (names : List (List ℕ)). IfOk c.first_names.result (λ list. list ≡ names))
    (names_marked entries (keys_of entries) c.self.invariant.0 ∙ ap written_names c.self.view_is) c.first_names.ensures.ok

pub returns-clause-too_long : goal.returns-clause-too_long
returns-clause-too_long c =
    let entries = c.self.inside.pairs.entries in
    too_long_listed c.first_names.result _ _ (names_marked entries (keys_of entries) c.self.invariant.0 ∙ ap written_names c.self.view_is) c.first_names.ensures.too_long
