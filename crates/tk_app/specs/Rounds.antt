-- Meaning. Who takes turns in a stage, and how long.
use Rattle.std.specs.Prelude.{ℕ, zero, suc, ◌+◌, ◌-◌, ◌*◌, ◌++◌, List, [], ◌∷◌, sum, min, flat_map}
use Rattle.std.specs.List.{range_with_len}
use Rattle.tk_app.specs.declared.turns.Turn.{Turn}

-- A turn of so many steps. Without a step it is none.
abbrev pub one_turn : ℕ → ℕ → List Turn
one_turn slot zero = []
one_turn slot (suc n) = record { slot = slot; steps = suc n } ∷ []

-- A round of the parts from a slot on, in the order of their slots, where each has so many rounds behind it, in which it had a slice each: who
-- still needs steps takes them, and at most a slice.
abbrev pub round_from : ℕ → ℕ → ℕ → List ℕ → List Turn
round_from slot slice behind [] = []
round_from slot slice behind (need ∷ needs) = one_turn slot (min slice (need - behind * slice)) ++ round_from (slot + 1) slice behind needs

-- the round of all that has so many before it
abbrev pub round : ℕ → List ℕ → ℕ → List Turn
round slice needs behind = round_from 0 slice behind needs

-- The turns of a stage, by how many steps its parts need, in the order of their slots: all rounds, one after another. There are at most as many as
-- steps are needed in all; in those behind the last of them nobody needs a step, and nobody has a turn.
abbrev pub turns_of : ℕ → List ℕ → List Turn
turns_of slice needs = flat_map (round slice needs) (range_with_len 0 (sum needs))
