-- Steps. Pairs that are marked where they are the first of their name.
use Rattle.std.specs.Prelude.{ℕ, Bool, true, false, ◌||◌, not, List, [], ◌∷◌, map, filter}
use Rattle.std.specs.Map.{set_value}
use Rattle.tk_virtual.specs.Virtual.{has_name, is_same}
use Rattle.tk_virtual.specs.declared.pair.Pair.{Pair}

abbrev pub Marked : Type 0
Marked = Pair × Bool

-- each with whether none of its name stands before it, where pairs of some names stand before all of these
abbrev pub marked_behind : (List ℕ → Bool) → List Pair → List Marked
marked_behind before [] = []
marked_behind before (pair ∷ pairs) = (pair, not (before pair.name)) ∷ marked_behind (λ name. before name || has_name name pair) pairs

abbrev pub marked : List Pair → List Marked
marked pairs = marked_behind (λ name. false) pairs

-- with the first of these pairs marked too
abbrev pub marking_first : List Pair → List Marked → List Marked
marking_first [] entries = entries
marking_first (pair ∷ pairs) entries = set_value (is_same pair) entries true

-- the names of the pairs that are marked
abbrev pub first_names : List Marked → List (List ℕ)
first_names entries = map (λ entry. entry.0.name) (filter (λ entry. entry.1) entries)
