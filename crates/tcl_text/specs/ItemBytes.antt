-- Steps. Items as they are kept by their bytes alone.
use Rattle.std.specs.Prelude.{ℕ, List, [], ◌∷◌, take, drop}

-- what stands in so many bytes each
abbrev pub items_cut : List ℕ → List ℕ → List (List ℕ)
items_cut [] bytes = []
items_cut (n ∷ ns) bytes = take n bytes ∷ items_cut ns (drop n bytes)
