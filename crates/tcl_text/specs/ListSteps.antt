-- Steps. What the steps of the commands of list(n) and its kin say to one another.
use Rattle.std.specs.Prelude.{◌≡◌, ℕ, Bool, List, [], ◌∷◌, ◌++◌, Option, Some, None, option_map}
use Rattle.std.specs.Str.{chars}
use Rattle.tcl_text.specs.ListCommands.{cut_at}

-- the texts, each behind another
abbrev pub each_behind : List ℕ → List (List ℕ) → List ℕ
each_behind between [] = []
each_behind between (x ∷ xs) = (between ++ x) ++ each_behind between xs

-- the characters in front of the first piece
abbrev pub onto_first : List ℕ → List (List ℕ) → List (List ℕ)
onto_first front [] = front ∷ []
onto_first front (piece ∷ pieces) = (front ++ piece) ∷ pieces

-- the piece up to the first separator, and the pieces of what follows it, if one is there
abbrev pub cut_once : (ℕ → Bool) → List ℕ → Option (List ℕ) → List (List ℕ)
cut_once test piece None = piece ∷ []
cut_once test piece (Some rest) = piece ∷ cut_at test rest

-- the text up to its first separator, and what follows that, if it has one
abbrev pub CutsOnce : (ℕ → Bool) → List ℕ → List ℕ → Option (List ℕ) → Type 0
CutsOnce test text piece rest = cut_at test (chars text) ≡ cut_once test (chars piece) (option_map chars rest)
