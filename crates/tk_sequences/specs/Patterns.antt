-- Meaning. Patterns, and lists of them.
use Rattle.std.specs.Prelude.{◌≡◌, ℕ, ◌+◌, ◌<◌, ◌≤◌, List, [], ◌∷◌, length, sum_by, Option, Some, None, codes}
use Rattle.tk_sequences.specs.Lookup.{looked_up}
use Rattle.tk_sequences.specs.declared.pattern.Pattern.{Pattern}
use Rattle.tk_sequences.specs.declared.pattern.Repetition.{Repetition}
use Rattle.tk_sequences.specs.declared.pattern.Repetition.TheVariants.{Single, Double, Triple, Quadruple}

-- how many events it stands for
abbrev pub times_of : Repetition → ℕ
times_of Single = 1
times_of Double = 2
times_of Triple = 3
times_of Quadruple = 4

-- the word for it
abbrev pub repetition_name : Repetition → Option (List ℕ)
repetition_name Single = None
repetition_name Double = Some (codes "Double")
repetition_name Triple = Some (codes "Triple")
repetition_name Quadruple = Some (codes "Quadruple")

abbrev pub repetition_words : List (List ℕ × Repetition)
repetition_words = (codes "Double", Double) ∷ (codes "Triple", Triple) ∷ (codes "Quadruple", Quadruple) ∷ []

abbrev pub repetition_named : List ℕ → Option Repetition
repetition_named word = looked_up word repetition_words

-- how many events patterns stand for
abbrev pub count_of : List Pattern → ℕ
count_of patterns = sum_by (λ pattern. times_of pattern.times) patterns

-- how many events a sequence stands for at most
abbrev pub most_events : ℕ
most_events = 32

-- one or more, that stand for few enough events
pub record ArePatterns (patterns : List Pattern) : Type 0 where
  pub some : 0 < length patterns
  pub few : count_of patterns ≤ most_events
