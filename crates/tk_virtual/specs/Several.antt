-- Steps. Several pairs of one name, which are taken out at once.
use Rattle.std.specs.Prelude.{ℕ, Bool, ◌&&◌, not, if◌then◌else◌, List, [], filter, Ok}
use Rattle.std.specs.List.{list_any}
use Rattle.indexmap.specs.IndexSet.{insert_all}
use Rattle.tk_base.specs.Steps.{◌>>=◌}
use Rattle.tk_virtual.specs.Virtual.{OrFault, has_name, is_same, pairs_meant}
use Rattle.tk_virtual.specs.declared.pair.Pair.{Pair}

-- the pairs that a name and several sequences spell, each where it first stands
abbrev pub meant_once : List ℕ → List (List ℕ) → OrFault (List Pair)
meant_once word texts = do
  pairs ← pairs_meant word texts
  Ok (insert_all is_same [] pairs)

-- a pair of the name, and the same as one of these
abbrev pub is_one_of : List ℕ → List Pair → Pair → Bool
is_one_of name wanted pair = has_name name pair && list_any (is_same pair) wanted

abbrev pub without_these : List ℕ → List Pair → List Pair → List Pair
without_these name wanted pairs = filter (λ pair. not (is_one_of name wanted pair)) pairs

-- one of these is still listed, so that others may be
abbrev pub is_left_in : List ℕ → List Pair → List Pair → Pair → Bool
is_left_in name wanted listed pair = list_any (is_same pair) listed && is_one_of name wanted pair

abbrev pub without_if_left : List ℕ → List Pair → Pair → List Pair → List Pair
without_if_left name wanted pair listed = if is_left_in name wanted listed pair then without_these name wanted listed else listed
