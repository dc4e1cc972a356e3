-- Meaning. What is due at a moment has been done.
use Rattle.std.specs.Prelude.{◌<◌, ℕ, ◌==◌, Option, Some, None, if◌then◌else◌}

-- nothing is due by the last moment
abbrev pub IsPast : ℕ → Option ℕ → Type 0
IsPast last None = Unit {0}
IsPast last (Some due) = last < due

-- `next_due` says when something is due next, and `settled` what has become of what it is due of, once that has been done at a moment.
module _ {P : Type 0} (next_due : P → Option ℕ) (settled : ℕ → P → P) where
  abbrev pub settled_if : Option ℕ → ℕ → P → P
  settled_if None moment part = part
  settled_if (Some due) moment part = if due == moment then settled moment part else part

  -- after a moment: what was due then has been done, and where nothing was, all is as it was
  abbrev pub settled_if_due_at : ℕ → P → P
  settled_if_due_at moment part = settled_if (next_due part) moment part
