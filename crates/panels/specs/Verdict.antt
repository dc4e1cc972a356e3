-- Meaning. What is compared of a section.
use Rattle.std.specs.Prelude.{ℕ, Bool, if◌then◌else◌, List, [], ◌∷◌, ◌++◌, codes}
use Rattle.std.specs.Str.{bytes_eq}
use Rattle.panels.specs.Words.{before_last, behind, front, lines_of}

-- a section without the steps that are left, which its first line ends with, and without the blank before them
abbrev pub without_steps : List ℕ → List ℕ
without_steps section = before_last 32 (front 10 section) ++ 10 ∷ behind 10 section

abbrev pub compared : Bool → List ℕ → List ℕ
compared counts_steps section = if counts_steps then section else without_steps section

-- the sections of lines, the first of which has begun with these bytes
abbrev pub sections_from : List ℕ → List (List ℕ) → List (List ℕ)
sections_from begun [] = []
sections_from begun (line ∷ lines) =
    if bytes_eq line (codes "done") then (begun ++ line ++ 10 ∷ []) ∷ sections_from [] lines else sections_from (begun ++ line ++ 10 ∷ []) lines

-- the sections of an output: each ends with its line `done`
abbrev pub sections_in : List ℕ → List (List ℕ)
sections_in output = sections_from [] (lines_of output)
