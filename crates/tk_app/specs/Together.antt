-- Steps. Parts that pass from stage to stage together, and each by itself: a stage for each moment at which something is due of one of them, the
-- earliest first.
use Rattle.std.specs.Prelude.{◌≡◌, ◌<◌, ◌⊎◌, ℕ, zero, suc, ◌-◌, ◌++◌, List, [], ◌∷◌, sum_by, Option, Some}
use Rattle.tk_app.specs.declared.turns.Turn.{Turn}
use Rattle.tk_app.specs.Passing.{brought, pass}
use Rattle.tk_app.specs.Stages.{first_moment_due, stage_at, turns_at}
use Rattle.tk_app.specs.Due.{IsPast}

-- a number is one of these
abbrev pub IsAmong : ℕ → List ℕ → Type 0
IsAmong m [] = ⊥
IsAmong m (n ∷ ns) = (n ≡ m) ⊎ IsAmong m ns

-- each number is above the one before it, and the first above another
abbrev pub RisesFrom : ℕ → List ℕ → Type 0
RisesFrom m [] = Unit {0}
RisesFrom m (n ∷ ns) = (m < n) × RisesFrom n ns

abbrev pub Rises : List ℕ → Type 0
Rises [] = Unit {0}
Rises (n ∷ ns) = RisesFrom n ns

-- `next_due` says when something is due of a part next, `settled` what becomes of the part once it has done what is due at a moment, and `weight` how
-- many moments it can still have at most.
module _ {P : Type 0} (next_due : P → Option ℕ) (settled : ℕ → P → P) where
  module _ (weight : P → ℕ) where
    -- each moment takes a step, or is the last of its part
    abbrev pub Lightens : Type 0
    Lightens = (part : P) (due : ℕ) → next_due part ≡ Some due → weight (settled due part) < weight part

    -- all parts, passed from stage to stage up to a last moment
    abbrev pub passed_together : ℕ → List P → List P
    passed_together last parts = pass (first_moment_due next_due settled) (stage_at next_due settled) (λ due there later. later) (λ there. there) last (sum_by weight parts) parts

    -- the turns of all stages up to a last moment, one stage after another
    abbrev pub turns_to : (P → ℕ) → ℕ → ℕ → List P → List Turn
    turns_to steps_left slice last parts =
        pass (first_moment_due next_due settled) (stage_at next_due settled) (λ due there later. turns_at next_due settled steps_left slice due there ++ later) (λ there. []) last (sum_by weight parts) parts

  -- ── the same, by what each part does by itself ──

  module _ (weight : P → ℕ) where
    -- a part by itself, just before a moment
    abbrev pub before : ℕ → P → P
    before zero part = part
    before (suc moment) part = brought next_due settled weight moment part

    -- how many steps it takes at the moment
    abbrev pub taken_at : (P → ℕ) → ℕ → P → ℕ
    taken_at steps_left moment part = steps_left (before moment part) - steps_left (brought next_due settled weight moment part)

    -- its due moments up to a last one
    abbrev pub own_moments : ℕ → P → List ℕ
    own_moments last part = pass next_due settled (λ due there later. due ∷ later) (λ there. []) last (weight part) part

    -- the moments of the stages
    abbrev pub stage_moments : ℕ → List P → List ℕ
    stage_moments last parts = pass (first_moment_due next_due settled) (stage_at next_due settled) (λ due there later. due ∷ later) (λ there. []) last (sum_by weight parts) parts

    -- a moment is due of one of the parts by itself
    abbrev pub IsOwnOfOne : ℕ → ℕ → List P → Type 0
    IsOwnOfOne last moment [] = ⊥
    IsOwnOfOne last moment (part ∷ parts) = IsAmong moment (own_moments last part) ⊎ IsOwnOfOne last moment parts

    -- once a part has done what was due at a moment, nothing is due of it by then
    abbrev pub Quiets : Type 0
    Quiets = (part : P) (moment : ℕ) → IsPast moment (next_due (settled moment part))
