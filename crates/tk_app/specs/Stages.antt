-- Meaning. A stage of a list of parts: what they do at one moment, at which something is due of one of them.
use Rattle.std.specs.Prelude.{ℕ, ◌-◌, List, [], ◌∷◌, map, min, Option, Some, None}
use Rattle.tk_app.specs.declared.turns.Turn.{Turn}
use Rattle.tk_app.specs.Due.{settled_if_due_at}
use Rattle.tk_app.specs.Rounds.{turns_of}

-- the earlier of two moments
abbrev pub earlier : Option ℕ → Option ℕ → Option ℕ
earlier None b = b
earlier (Some x) None = Some x
earlier (Some x) (Some y) = Some (min x y)

-- `next_due` says when something is due of a part next, and `settled` what becomes of the part once it has done what is due at a moment.
module _ {P : Type 0} (next_due : P → Option ℕ) (settled : ℕ → P → P) where
  -- all of them
  abbrev pub stage_at : ℕ → List P → List P
  stage_at moment parts = map (settled_if_due_at next_due settled moment) parts

  -- when the first of them is due
  abbrev pub first_moment_due : List P → Option ℕ
  first_moment_due [] = None
  first_moment_due (part ∷ parts) = earlier (next_due part) (first_moment_due parts)

  module _ (steps_left : P → ℕ) where
    -- how many steps a part takes in a stage at a moment
    abbrev pub used_at : ℕ → P → ℕ
    used_at moment part = steps_left part - steps_left (settled_if_due_at next_due settled moment part)

    abbrev pub turns_at : ℕ → ℕ → List P → List Turn
    turns_at slice moment parts = turns_of slice (map (used_at moment) parts)
