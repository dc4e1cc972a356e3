-- Steps. From due moment to due moment.
use Rattle.std.specs.Prelude.{ℕ, zero, suc, Option, Some, None, nat_le, if◌then◌else◌}

-- what comes of a moment that is due by the last, or else of stopping
abbrev pub on_next : {R : Type 0} → (ℕ → R) → ℕ → Option ℕ → R → R
on_next go last None stopped = stopped
on_next go last (Some due) stopped = if nat_le due last then go due else stopped

-- `next_due` says when something is due next, `settled` what is left once what is due at a moment is done, and `told` and `stopped` what is to be told of
-- each moment and of the end.
module _ {P R : Type 0} (next_due : P → Option ℕ) (settled : ℕ → P → P) (told : ℕ → P → R → R) (stopped : P → R) where
  -- at most so many moments, each the next that is due, up to a last one
  abbrev pub pass : ℕ → ℕ → P → R
  pass last zero p = stopped p
  pass last (suc more) p = on_next (λ due. told due p (pass last more (settled due p))) last (next_due p) (stopped p)

module _ {P : Type 0} (next_due : P → Option ℕ) (settled : ℕ → P → P) (weight : P → ℕ) where
  -- All that is due up to a last moment has been done, each at its moment, the earliest first. `weight` is how many moments it can still have at most.
  abbrev pub brought : ℕ → P → P
  brought last p = pass next_due settled (λ due there later. later) (λ there. there) last (weight p) p
