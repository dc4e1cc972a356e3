use Rattle.std.proofs.Common.{◌≡◌, ℕ, List, Ok, rules, subst, sym, ap, ◌∙◌}
use Rattle.std.specs.List.Sorted.{IsSorted}
use Rattle.std.specs.Ordering.{nat_cmp}
use Rattle.std.specs.Cmp.Lexicographic.{slice_cmp}
use Rattle.tcl_expr.specs.Values.{is_among, is_in}
use Rattle.tcl_expr.proofs.SearchLemmas.{halved}
use Rattle.tcl_expr.proofs.searches.OrderedList.found.Goals as goal

pub returns-then-eq : goal.returns-then-eq
returns-then-eq c =
    let same : c.self.inside.list ≡ c.args.list.now = search rules in
    let items : c.deref.result.now ≡ c.self.inside.items.items = c.deref.ensures.value in
    let sorted = subst (λ (items : List (List ℕ)). IsSorted (slice_cmp nat_cmp) items) (sym items) c.self.invariant.0 in
    let halves = halved c.deref.result.now c.args.item.now c.binary_search.result sorted c.binary_search.ensures.bound c.binary_search.ensures.position in
    subst (λ (list : List ℕ). is_in c.args.item.now list ≡ Ok c.is_ok.result) same
    (c.self.invariant.1 c.args.item.now ∙ ap Ok (ap (is_among c.args.item.now) (sym items) ∙ sym halves ∙ sym c.is_ok.ensures.value))
