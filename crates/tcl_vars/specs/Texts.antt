-- Meaning. How an element is named.
use Rattle.std.specs.Prelude.{ℕ, List, ◌++◌, codes}

-- an element as it is named
abbrev pub element_name : List ℕ → List ℕ → List ℕ
element_name name index = name ++ codes "(" ++ index ++ codes ")"
