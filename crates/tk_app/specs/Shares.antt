-- Meaning. Who has how much of a list of turns.
use Rattle.std.specs.Prelude.{◌≡◌, ℕ, ◌+◌, ◌≤◌, ◌==◌, List, [], ◌∷◌, Option, Some, None, IfSome, filter, sum_by, option_map, if◌then◌else◌}
use Rattle.tk_app.specs.declared.turns.Turn.{Turn}

-- how many steps the turns take in all
abbrev pub steps_in : List Turn → ℕ
steps_in turns = sum_by (λ (turn : Turn). turn.steps) turns

-- how many the part in a slot takes of them
abbrev pub taken_by : ℕ → List Turn → ℕ
taken_by slot turns = steps_in (filter (λ (turn : Turn). turn.slot == slot) turns)

-- how many steps are taken before the next turn of a slot, if it has one
abbrev pub before_next : ℕ → List Turn → Option ℕ
before_next slot [] = None
before_next slot (turn ∷ turns) = if turn.slot == slot then Some 0 else option_map (λ steps. turn.steps + steps) (before_next slot turns)

-- between each turn of a slot and its next one at most so many steps are taken
abbrev pub WaitsAtMost : ℕ → ℕ → List Turn → Type 0
WaitsAtMost most slot [] = Unit {0}
WaitsAtMost most slot (turn ∷ turns) = (turn.slot ≡ slot → IfSome (before_next slot turns) (λ steps. steps ≤ most)) × WaitsAtMost most slot turns
