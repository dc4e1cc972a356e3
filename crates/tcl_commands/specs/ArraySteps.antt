-- Steps. What the steps of the commands of array(n) say.
use Rattle.std.specs.Prelude.{ℕ, if◌then◌else◌, List, [], ◌∷◌}
use Rattle.tcl_commands.specs.Arrays.{is_wanted}

-- of indices and values in turn those of which the index matches
abbrev pub pairs_matching : List ℕ → List (List ℕ) → List (List ℕ)
pairs_matching pattern [] = []
pairs_matching pattern (index ∷ []) = []
pairs_matching pattern (index ∷ value ∷ others) =
    if is_wanted pattern index then index ∷ value ∷ pairs_matching pattern others else pairs_matching pattern others
