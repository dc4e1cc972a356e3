-- How words are cut, on words whose meaning a Tcl shell shows.
use Rattle.std.proofs.Common.{◌≡◌, ℕ, List, [], ◌∷◌, Some, None, codes, refl}
use Rattle.tcl_commands.specs.declared.branches.Choices.{Choices}
use Rattle.tcl_commands.specs.Branches.{branch_of}
use Rattle.tcl_commands.specs.IfWords.{choices_of}
use Rattle.tcl_commands.specs.Shapes.{IsIf}
use Rattle.tcl_commands.proofs.ChoicesCut.{choices_read, choices_cut}

abbrev chain_words : List (List ℕ)
chain_words = codes "a" ∷ codes "then" ∷ codes "b" ∷ codes "elseif" ∷ codes "c" ∷ codes "d" ∷ codes "else" ∷ codes "e" ∷ []

abbrev chain : Choices
chain = record { branches = branch_of (codes "a") (codes "b") ∷ branch_of (codes "c") (codes "d") ∷ []; otherwise = Some (codes "e") }

chain_cut : IsIf chain_words chain
unfolding choices_of
chain_cut = choices_cut chain_words chain refl

-- the last body needs no `else`
abbrev bare_words : List (List ℕ)
bare_words = codes "a" ∷ codes "b" ∷ codes "c" ∷ []

abbrev bare : Choices
bare = record { branches = branch_of (codes "a") (codes "b") ∷ []; otherwise = Some (codes "c") }

bare_cut : IsIf bare_words bare
unfolding choices_of
bare_cut = choices_cut bare_words bare refl

-- a `then` is no body
abbrev then_words : List (List ℕ)
then_words = codes "a" ∷ codes "then" ∷ []

then_alone : (choices : Choices) → IsIf then_words choices → ⊥
unfolding choices_of
then_alone choices is = let same : None ≡ Some choices = choices_read then_words choices is in absurd (cc)

-- an `else` needs a body
abbrev else_words : List (List ℕ)
else_words = codes "a" ∷ codes "b" ∷ codes "else" ∷ []

else_alone : (choices : Choices) → IsIf else_words choices → ⊥
unfolding choices_of
else_alone choices is = let same : None ≡ Some choices = choices_read else_words choices is in absurd (cc)

-- nothing stands behind the last body
abbrev more_words : List (List ℕ)
more_words = codes "a" ∷ codes "b" ∷ codes "c" ∷ codes "d" ∷ []

word_left : (choices : Choices) → IsIf more_words choices → ⊥
unfolding choices_of
word_left choices is = let same : None ≡ Some choices = choices_read more_words choices is in absurd (cc)
