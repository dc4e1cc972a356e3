-- Meaning. The steps that an application by itself takes, and those that it is granted.
use Rattle.std.specs.Prelude.{◌≡◌, ℕ, ◌+◌, ◌-◌, ◌*◌, ◌≤◌, List, [], ◌∷◌, length, sum_by}
use Rattle.std.specs.List.{enumerate_from}
use Rattle.tk_base.specs.declared.local_event.LocalEvent.{LocalEvent}
use Rattle.tk_app.specs.Application.{Application, fresh}
use Rattle.tk_app.specs.Commands.{Update}
use Rattle.tk_app.specs.Dispatch.{Action}
use Rattle.tk_app.specs.Moments.{delivered, started_by}
use Rattle.tk_app.specs.Seen.{Meaning}
use Rattle.tk_app.specs.Settle.{IsSettle, IsUpdate}
use Rattle.tk_app.specs.Spec.{Spec}
use Rattle.tk_host.specs.Alone.{after_events_by, alone_by, passed_by}

-- how many steps fewer an application has left
abbrev pub fewer : {M : Type 0} → Application M → Application M → ℕ
fewer before after = before.steps - after.steps

module _ {M : Type 0} (answer : M → Meaning) where
  -- by what `update` and *Settle* are
  module _ (update : Update) (settle : Action) where
    -- an application by itself at the moment of an event, before it is given the event
    abbrev pub before_event_by : Spec M → LocalEvent → List LocalEvent → Application M
    before_event_by spec event earlier = passed_by answer settle event.moment (after_events_by answer update settle spec earlier)

    -- the steps that it takes for its script and for events, with what comes of them, and on the way from each to the next
    abbrev pub used_for_by : Spec M → List LocalEvent → ℕ
    used_for_by spec [] = fewer (fresh spec) (started_by answer update settle 0 spec.script (fresh spec))
    used_for_by spec (event ∷ earlier) =
        used_for_by spec earlier
        + fewer (after_events_by answer update settle spec earlier) (before_event_by spec event earlier)
        + fewer (delivered event (before_event_by spec event earlier)) (after_events_by answer update settle spec (event ∷ earlier))

    -- the steps taken up to a last moment
    abbrev pub used_by : Spec M → List LocalEvent → ℕ → ℕ
    used_by spec routed last = used_for_by spec routed + fewer (after_events_by answer update settle spec routed) (alone_by answer update settle spec routed last)

    -- the steps that events really grant: fewer than its refill where it has nearly its total
    abbrev pub granted_to_by : Spec M → List LocalEvent → ℕ
    granted_to_by spec [] = 0
    granted_to_by spec (event ∷ earlier) =
        granted_to_by spec earlier + fewer (delivered event (before_event_by spec event earlier)) (before_event_by spec event earlier)

    -- the steps that applications take, each with the events that are routed to its slot, and those that they are given
    abbrev pub used_by_all_by : List (Spec M) → (ℕ → List LocalEvent) → ℕ → ℕ
    used_by_all_by specs routed last = sum_by (λ (numbered : ℕ × Spec M). used_by numbered.1 (routed numbered.0) last) (enumerate_from 0 specs)

    abbrev pub given_to_all_by : List (Spec M) → (ℕ → List LocalEvent) → ℕ
    given_to_all_by specs routed = sum_by (λ (numbered : ℕ × Spec M). numbered.1.budget.total + granted_to_by numbered.1 (routed numbered.0)) (enumerate_from 0 specs)

  -- ── laws, by whatever meets the equations of `update` and *Settle* ──

  -- The steps taken and those left are the total and those granted, which are at most as many as the events may grant.
  abbrev pub UsedAndLeft : Type 0
  UsedAndLeft =
      (update : Update) → IsUpdate update → (settle : Action) → IsSettle update settle → (spec : Spec M) (routed : List LocalEvent) (last : ℕ)
      → (used_by update settle spec routed last + (alone_by answer update settle spec routed last).steps ≡ spec.budget.total + granted_to_by update settle spec routed)
      × (granted_to_by update settle spec routed ≤ length routed * spec.budget.refill)

  -- All applications together take at most the sum of their totals and of what they are granted.
  abbrev pub AllWithin : Type 0
  AllWithin =
      (update : Update) → IsUpdate update → (settle : Action) → IsSettle update settle → (specs : List (Spec M)) (routed : ℕ → List LocalEvent) (last : ℕ)
      → used_by_all_by update settle specs routed last ≤ given_to_all_by update settle specs routed
