-- Meaning. Tables of words.
use Rattle.std.specs.Prelude.{ℕ, List, [], ◌∷◌, Option, Some, None, if◌then◌else◌}
use Rattle.std.specs.Str.{bytes_eq}

-- what stands beside the first entry of this word
abbrev pub looked_up : {T : Type 0} → List ℕ → List (List ℕ × T) → Option T
looked_up word [] = None
looked_up word (entry ∷ entries) = if bytes_eq word entry.0 then Some entry.1 else looked_up word entries
