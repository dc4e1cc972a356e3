use Rattle.std.proofs.Common.{◌≡◌, ℕ, List, Result, nat_cmp, subst, ◌∙◌}
use Rattle.std.specs.Prelude.{◌==◌, not, filter, MatchResult}
use Rattle.std.specs.List.{remove}
use Rattle.std.specs.List.Sorted.{IsBinarySearchResult}
use Rattle.tk_tree.proofs.Rising.{searched_out}
use Rattle.tk_tree.proofs.index.take_out.Goals as goal

pub returns-in-Ok : goal.returns-in-Ok
returns-in-Ok c =
    let number = c.args.number in
    let numbers = c.args.list.now.items in
    let found = subst (λ (ns : List ℕ). IsBinarySearchResult (λ m. nat_cmp m number) ns c.binary_search.result) c.as_slice.ensures c.binary_search.ensures.position in
    c.remove.ensures.items
    ∙ subst (λ (r : Result ℕ ℕ). MatchResult r (λ place. remove numbers place ≡ filter (λ m. not (m == number)) numbers) (λ place. numbers ≡ filter (λ m. not (m == number)) numbers)) c.in-Ok.is
    (searched_out number numbers c.binary_search.result c.requires found)

pub returns-in_default : goal.returns-in_default
returns-in_default c =
    let number = c.args.number in
    let numbers = c.args.list.now.items in
    let found = subst (λ (ns : List ℕ). IsBinarySearchResult (λ m. nat_cmp m number) ns c.binary_search.result) c.as_slice.ensures c.binary_search.ensures.position in
    subst (λ (r : Result ℕ ℕ). MatchResult r (λ place. remove numbers place ≡ filter (λ m. not (m == number)) numbers) (λ place. numbers ≡ filter (λ m. not (m == number)) numbers)) c.in_default.is
    (searched_out number numbers c.binary_search.result c.requires found)
