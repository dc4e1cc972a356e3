-- Steps. What is kept of a list that is searched often.
use Rattle.std.specs.Prelude.{◌≡◌, ℕ, List, Ok}
use Rattle.std.specs.List.Sorted.{IsSorted}
use Rattle.std.specs.Ordering.{nat_cmp}
use Rattle.std.specs.Cmp.Lexicographic.{slice_cmp}
use Rattle.tcl_expr.specs.Values.{is_among, is_in}

-- these texts are in the order of their bytes, and are the items of the list
abbrev pub AreInOrder : List ℕ → List (List ℕ) → Type 0
AreInOrder list items = IsSorted (slice_cmp nat_cmp) items × ((text : List ℕ) → is_in text list ≡ Ok (is_among text items))
