-- Steps. The arms of `switch` in a list of patterns and bodies.
use Rattle.std.specs.Prelude.{ℕ, List, [], ◌∷◌}
use Rattle.tcl_commands.specs.Branches.{branch_of}
use Rattle.tcl_commands.specs.declared.branches.Branch.{Branch}

-- the items two by two; one that is left over is none
abbrev pub paired : List (List ℕ) → List Branch
paired [] = []
paired (pattern ∷ []) = []
paired (pattern ∷ body ∷ items) = branch_of pattern body ∷ paired items
