-- Meaning. How an element is read, as an equation, and that it is the only one: its definition, by the length of its index, needn't be read.
use Rattle.std.specs.Prelude.{◌≡◌, ℕ, List}
use Rattle.tcl_interp.specs.Evaluation.{State, Outcome, element_by, element_meaning}

-- The index of an element is put together, with the elements that stand in it read in the same way, and then the element is read.
abbrev pub ElementsAreRead : Type 0 → Type 0
ElementsAreRead S = (run : List ℕ → State S → Outcome S) (name index : List ℕ) (state : State S)
    → element_meaning run name index state ≡ element_by run (element_meaning run) name index state

-- and nothing else meets that
abbrev pub OnlyElements : Type 0 → Type 0
OnlyElements S = (run : List ℕ → State S → Outcome S) (other : List ℕ → List ℕ → State S → Outcome S)
    → ((name index : List ℕ) (state : State S) → other name index state ≡ element_by run other name index state)
    → (name index : List ℕ) (state : State S) → other name index state ≡ element_meaning run name index state
