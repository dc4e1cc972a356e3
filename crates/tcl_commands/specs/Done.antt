-- Meaning. What a command leaves of the variables, and what it answers.
use Rattle.std.specs.Prelude.{ℕ, List, [], ◌∷◌, Result, Ok, Err}
use Rattle.tcl_text.specs.Answers.{Answer}
use Rattle.tcl_vars.specs.Store.{Store}

pub record Done : Type 0 where
  pub store : Store
  pub answer : Answer

-- the variables stay, and this is the answer
abbrev pub keeps : Store → Answer → Done
keeps store answer = record { store = store; answer = answer }

-- ── commands on several variables ──

-- what follows a step, unless it was refused
abbrev pub unless_refused : (Store → Done) → Store → Result Store (List ℕ) → Done
unless_refused others store (Ok new) = others new
unless_refused others store (Err text) = keeps store (Err text)

-- one step alone
abbrev pub one_done : Store → Result Store (List ℕ) → Done
one_done store step = unless_refused (λ new. keeps new (Ok [])) store step

-- a step for each, up to the first that is refused
abbrev pub each_done : {X : Type 0} → (X → Store → Result Store (List ℕ)) → List X → Store → Done
each_done step [] store = keeps store (Ok [])
each_done step (x ∷ xs) store = unless_refused (each_done step xs) store (step x store)

-- the items two by two; an odd one at the end is left out
abbrev pub pairs : List (List ℕ) → List (List ℕ × List ℕ)
pairs [] = []
pairs (x ∷ []) = []
pairs (x ∷ y ∷ others) = (x, y) ∷ pairs others
