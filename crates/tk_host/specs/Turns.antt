-- Meaning. The turns of the calls that run applications. Words of steps: `settled`, `started`, `after_event` and `passed`, by the code's jobs, which are those in
-- `_by` by whatever meets the equations of `update` and *Settle* (laws `comes_by_settle` of tk_app, `alone_by_settle`); and `Part`, an application with what is
-- under way in it, which `needs` so many steps.
use Rattle.std.specs.Prelude.{ℕ, zero, suc, ◌+◌, ◌-◌, ◌==◌, List, [], ◌∷◌, ◌++◌, map, if◌then◌else◌}
use Rattle.std.specs.List.{list_any}
use Rattle.tk_base.specs.declared.local_event.LocalEvent.{LocalEvent}
use Rattle.tk_route.specs.declared.delivery.Delivery.{Delivery}
use Rattle.tk_route.specs.Routes.{events_of}
use Rattle.tk_app.specs.declared.turns.Turn.{Turn}
use Rattle.tk_app.specs.Rounds.{turns_of}
use Rattle.tk_app.specs.Stages.{turns_at}
use Rattle.tk_app.specs.Application.{Application, fresh, next_due}
use Rattle.tk_app.specs.Moments.{delivered}
use Rattle.tk_app.specs.MomentsByJob.{settled, started}
use Rattle.tk_app.specs.Part.{Part, needs}
use Rattle.tk_app.specs.Seen.{Meaning}
use Rattle.tk_app.specs.Spec.{Spec}
use Rattle.tk_host.specs.AloneByJob.{after_event, passed}

-- The stages of what a line gives: one for the events of different applications; a second event of the same application is a stage of its own.
abbrev pub joined : Delivery → List (List Delivery) → List (List Delivery)
joined delivery [] = (delivery ∷ []) ∷ []
joined delivery (stage ∷ stages) =
    if list_any (λ (other : Delivery). delivery.slot == other.slot) stage then (delivery ∷ []) ∷ stage ∷ stages else (delivery ∷ stage) ∷ stages

abbrev pub stages_of : List Delivery → List (List Delivery)
stages_of [] = []
stages_of (delivery ∷ given) = joined delivery (stages_of given)

module _ {M : Type 0} where
  abbrev pub steps_left : Application M → ℕ
  steps_left application = application.steps

  abbrev pub applications : List (Part M) → List (Application M)
  applications parts = map (λ part. part.application) parts

module _ {M : Type 0} (answer : M → Meaning) where
  -- The turns at the start: one stage, at moment 0, of what is under way in each part, which is its script, and of what comes of it.
  abbrev pub turns_at_start : ℕ → List (Part M) → List Turn
  turns_at_start slice parts = turns_of slice (map (needs answer 0) parts)

  -- The turns on the way to a moment, of applications in which nothing is under way: the moments up to it come one after another, from 0 on, and each
  -- has a stage of those of which something is due then. Where nothing is, nobody takes a step, and so has no turn.
  unfoldable pub turns_on_the_way : ℕ → ℕ → List (Application M) → List Turn
  turns_on_the_way slice zero apps = turns_at next_due (settled answer) steps_left slice zero apps
  turns_on_the_way slice (suc moment) apps =
      turns_on_the_way slice moment apps ++ turns_at next_due (settled answer) steps_left slice (suc moment) (map (passed answer moment) apps)

  -- how many steps the script of an application takes, with what comes of it at moment 0
  abbrev pub steps_at_start : Spec M → ℕ
  steps_at_start spec = spec.budget.total - (started answer 0 spec.script (fresh spec)).steps

  -- ── the events of a line ──

  -- an application after events, one after another
  abbrev pub after_each : List LocalEvent → Application M → Application M
  after_each [] application = application
  after_each (event ∷ events) application = after_each events (after_event answer event application)

  -- how many steps it takes for them
  abbrev pub steps_for : List LocalEvent → Application M → ℕ
  steps_for [] application = 0
  steps_for (event ∷ events) application =
      (delivered event application).steps - (after_event answer event application).steps + steps_for events (after_event answer event application)

  -- the applications from a slot on, each after what it is given
  abbrev pub after_given : ℕ → List Delivery → List (Application M) → List (Application M)
  after_given slot given [] = []
  after_given slot given (application ∷ apps) = after_each (events_of slot given) application ∷ after_given (slot + 1) given apps

  abbrev pub steps_given : ℕ → List Delivery → List (Application M) → List ℕ
  steps_given slot given [] = []
  steps_given slot given (application ∷ apps) = steps_for (events_of slot given) application ∷ steps_given (slot + 1) given apps

  -- the turns of these stages
  abbrev pub turns_given : ℕ → List (List Delivery) → List (Application M) → List Turn
  turns_given slice [] apps = []
  turns_given slice (stage ∷ stages) apps = turns_of slice (steps_given 0 stage apps) ++ turns_given slice stages (after_given 0 stage apps)
