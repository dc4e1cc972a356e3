use Rattle.std.proofs.Common.{ℕ, List, subst}
use Rattle.std.specs.List.Sorted.{IsPermutation}
use Rattle.tcl_expr.proofs.SearchLemmas.{moved}
use Rattle.tcl_expr.proofs.searches.OrderedList.new.Goals as goal

pub invariant_of-result : goal.invariant_of-result
invariant_of-result c =
    let same = subst (λ (items : List (List ℕ)). IsPermutation items c.sort_unstable.new.self.items) c.into_vec-items.ensures c.sort_unstable.ensures.permutation in
    (c.sort_unstable.ensures.sorted, λ text. moved c.args.list text c.args.items c.sort_unstable.new.self.items c.requires same)
