-- A list in order is searched by halves.
use Rattle.std.proofs.Common.{◌≡◌, ℕ, ◌<◌, Bool, false, List, [], length, get_or, Result, Ok, Err, is_ok, bytes_eq, inl, inr, sym, ap, ◌∙◌, arith}
use Rattle.std.specs.List.Sorted.{IsPermutation, IsSorted, IsBinarySearchResult, IsSearchInRange}
use Rattle.std.specs.Ordering.{nat_cmp, is_eq}
use Rattle.std.specs.Cmp.Lexicographic.{slice_cmp, nat_list_cmp_total}
use Rattle.std.proofs.lemmas.Bool.{cases_lt}
use Rattle.std.proofs.lemmas.List.Folds.{list_any_at, list_any_none}
use Rattle.std.proofs.lemmas.List.Sorted.{list_any-IsPermutation, searchable_from_sorted}
use Rattle.std.proofs.lemmas.Map.Text.{is_eq-slice_cmp}
use Rattle.tcl_text.specs.Readings.{list_of}
use Rattle.tcl_expr.specs.Values.{among_or_fault, is_among, is_in}

-- what halving says is what looking at each says
pub halved : (items : List (List ℕ)) (text : List ℕ) (r : Result ℕ ℕ) → IsSorted (slice_cmp nat_cmp) items → IsSearchInRange r (length items)
    → IsBinarySearchResult (λ item. slice_cmp nat_cmp item text) items r → is_ok r ≡ is_among text items
halved items text (Ok i) sorted within found =
    sym (list_any_at (λ item. bytes_eq item text) items i [] within (sym (is_eq-slice_cmp (get_or items i []) text) ∙ ap is_eq (found [])))
halved items text (Err i) sorted within found =
    let around = found (searchable_from_sorted nat_list_cmp_total (λ item. item) items text sorted) in
    sym (list_any_none (λ item. bytes_eq item text) items (λ k d l.
    let other : is_eq (slice_cmp nat_cmp (get_or items k d) text) ≡ false = elim (cases_lt k i) [
      | inl below ↦ ap is_eq (around.0 k d (omega arith) below)
      | inr behind ↦ ap is_eq (around.1 k d behind l)
    ] in
    sym (is_eq-slice_cmp (get_or items k d) text) ∙ other))

-- the items in another order
pub moved : (list text : List ℕ) (items ordered : List (List ℕ)) → list_of list ≡ Ok items → IsPermutation items ordered → is_in text list ≡ Ok (is_among text ordered)
moved list text items ordered read same = ap (among_or_fault text) read ∙ ap Ok (list_any-IsPermutation (λ item. bytes_eq item text) items ordered same)
