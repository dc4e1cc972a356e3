-- Meaning. How many steps a stage takes at most. `settled`, `after_event` and `Part` are words of steps, as in `Turns`.
use Rattle.std.specs.Prelude.{ℕ, ◌+◌, ◌-◌, ◌≤◌, List, [], ◌∷◌, length, sum_by}
use Rattle.std.specs.List.{AllByRecursion}
use Rattle.tk_base.specs.declared.local_event.LocalEvent.{LocalEvent}
use Rattle.tk_route.specs.declared.delivery.Delivery.{Delivery}
use Rattle.tk_route.specs.Routes.{events_of}
use Rattle.tk_app.specs.Rounds.{turns_of}
use Rattle.tk_app.specs.Shares.{steps_in}
use Rattle.tk_app.specs.Stages.{turns_at}
use Rattle.tk_app.specs.Application.{Application, next_due}
use Rattle.tk_app.specs.Moments.{delivered}
use Rattle.tk_app.specs.MomentsByJob.{settled}
use Rattle.tk_app.specs.Part.{Part}
use Rattle.tk_app.specs.Seen.{Meaning}
use Rattle.tk_host.specs.AloneByJob.{after_event}
use Rattle.tk_host.specs.Turns.{stages_of, steps_given, steps_left, turns_at_start}

-- no slot is given more than one event of a stage
abbrev pub IsOneEach : List Delivery → Type 0
IsOneEach stage = (slot : ℕ) → length (events_of slot stage) ≤ 1

module _ {M : Type 0} (answer : M → Meaning) where
  -- how many steps events really grant to an application, one event after another
  abbrev pub granted_for : List LocalEvent → Application M → ℕ
  granted_for [] application = 0
  granted_for (event ∷ events) application = (delivered event application).steps - application.steps + granted_for events (after_event answer event application)

  -- and to the applications from a slot on
  abbrev pub granted_in : ℕ → List Delivery → List (Application M) → ℕ
  granted_in slot given [] = 0
  granted_in slot given (application ∷ apps) = granted_for (events_of slot given) application + granted_in (slot + 1) given apps

  -- At most as many steps are taken in a stage as the applications have left at its start, and as it grants them: at the start, at a moment at which something
  -- is due, and in each stage of what a line gives.
  pub record BoundedStages : Type 0 where
    pub start : (slice : ℕ) (parts : List (Part M)) → 1 ≤ slice → steps_in (turns_at_start answer slice parts) ≤ sum_by (λ part. part.application.steps) parts
    pub due : (slice moment : ℕ) (apps : List (Application M)) → 1 ≤ slice
        → steps_in (turns_at next_due (settled answer) steps_left slice moment apps) ≤ sum_by steps_left apps
    pub events : (slice : ℕ) (stage : List Delivery) (apps : List (Application M)) → 1 ≤ slice → IsOneEach stage
        → steps_in (turns_of slice (steps_given answer 0 stage apps)) ≤ sum_by steps_left apps + granted_in 0 stage apps
    pub stages : (given : List Delivery) → AllByRecursion IsOneEach (stages_of given)
