-- Meaning. Lists of values that have numbers.
use Rattle.std.specs.Prelude.{◌<◌, ℕ, List, [], ◌∷◌, ◌==◌, not, filter, find, map, Option, if◌then◌else◌}

module _ {X : Type 0} (number : X → ℕ) where
  -- the value with a number
  abbrev pub numbered : ℕ → List X → Option X
  numbered n xs = find (λ x. number x == n) xs

  -- all but the value with a number
  abbrev pub without : ℕ → List X → List X
  without n xs = filter (λ x. not (number x == n)) xs

  -- the value with a number changed, and the others as they are
  abbrev pub changed_at : ℕ → (X → X) → List X → List X
  changed_at n change xs = map (λ x. if number x == n then change x else x) xs

  -- each number is below this one
  abbrev pub AllBelow : ℕ → List X → Type 0
  AllBelow n [] = Unit {0}
  AllBelow n (x ∷ xs) = (number x < n) × AllBelow n xs

  -- each number is above this one
  abbrev pub AllAbove : ℕ → List X → Type 0
  AllAbove n [] = Unit {0}
  AllAbove n (x ∷ xs) = (n < number x) × AllAbove n xs

  -- each number is above the one before it, so no two are the same
  abbrev pub IsRising : List X → Type 0
  IsRising [] = Unit {0}
  IsRising (x ∷ xs) = AllAbove (number x) xs × IsRising xs
