-- Meaning. Words of a list, and those that may be meant by another.
use Rattle.std.specs.Prelude.{◌≡◌, ◌⊎◌, ℕ, ◌*◌, ◌/◌, Bool, if◌then◌else◌, List, [], ◌∷◌, ◌++◌, length, map, nat_eq, nat_le, nat_lt, codes, Option, Some, None, Any}
use Rattle.std.specs.Borrow.{Bor}
use Rattle.std.specs.List.{list_any}
use Rattle.std.specs.Str.{bytes_eq, chars}
use Rattle.panels_text.specs.Texts.{joined}
use Rattle.strsim.specs.Edits.{levenshtein_row}

abbrev pub is_known : List ℕ → List (Bor (List ℕ)) → Bool
is_known word known = list_any (λ other. bytes_eq other.now word) known

-- it stands in the list
abbrev pub IsKnown : List ℕ → List (Bor (List ℕ)) → Type 0
IsKnown word known = Any (λ (other : Bor (List ℕ)). other.now ≡ word) known

-- the words of a list of references
abbrev pub words_of : List (Bor (List ℕ)) → List (List ℕ)
words_of known = map (λ (other : Bor (List ℕ)). other.now) known

-- how many letters are changed, left out and put in to make a word of another
unfoldable pub distance : List ℕ → List ℕ → ℕ
distance word other = levenshtein_row nat_eq (chars word) (chars other) (length (chars other))

-- as many as are changed at most: two in three of the first
abbrev pub most_changed : List ℕ → ℕ
most_changed word = length word / 3 * 2

abbrev pub is_near : List ℕ → List ℕ → Bool
is_near word other = nat_le (distance word other) (most_changed word)

-- the nearer of two, and the first where both are as near
abbrev pub nearer : List ℕ → List ℕ → Option (List ℕ) → List ℕ
nearer word one None = one
nearer word one (Some other) = if nat_lt (distance word other) (distance word one) then other else one

-- the nearest of a list, where one is near, and of those that are as near the first
abbrev pub nearest : List ℕ → List (List ℕ) → Option (List ℕ)
nearest word [] = None
nearest word (one ∷ others) = if is_near word one then Some (nearer word one (nearest word others)) else nearest word others

abbrev pub serving_words : List (List ℕ) → Option (List ℕ) → List ℕ
serving_words known None = codes "there are " ++ joined (codes ", ") known
serving_words known (Some near) = codes "did you mean " ++ (near ++ codes "?")

-- what would serve in place of a word: the nearest of those that are known, or all of them
abbrev pub serving : List ℕ → List (List ℕ) → List ℕ
serving word known = serving_words known (nearest word known)

-- what would serve in place of a word: one of those that are known, or all of them
abbrev pub Serves : List (Bor (List ℕ)) → List ℕ → Type 0
Serves known text =
    ((near : List ℕ) × IsKnown near known × (text ≡ codes "did you mean " ++ (near ++ codes "?"))) ⊎ (text ≡ codes "there are " ++ joined (codes ", ") (words_of known))
