-- Meaning. An application that nothing refills, as each of a session of the first format is: events grant it no step. `settled`, `started`, `passed` and `alone`
-- are words of steps, by the code's jobs: they are those in `_by` by whatever meets the equations (laws `comes_by_settle` of tk_app, `alone_by_settle`).
use Rattle.std.specs.Prelude.{◌≡◌, ℕ, List, [], ◌∷◌}
use Rattle.tk_base.specs.declared.local_event.LocalEvent.{LocalEvent}
use Rattle.tk_panel.specs.Deliver.{delivered_panel}
use Rattle.tk_app.specs.declared.state.AppState.{AppState}
use Rattle.tk_app.specs.declared.state.AppState.TheVariants.{Running, Exhausted, Closed}
use Rattle.tk_app.specs.Application.{Application, fresh, panel_at, with_panel}
use Rattle.tk_app.specs.MomentsByJob.{settled, started}
use Rattle.tk_app.specs.Seen.{Meaning}
use Rattle.tk_app.specs.Spec.{Spec}
use Rattle.tk_host.specs.AloneByJob.{alone, passed}

-- an event is given to an application that runs, and grants it no step
abbrev pub given_as : {M : Type 0} → AppState → LocalEvent → Application M → Application M
given_as Running event application = with_panel (delivered_panel event (panel_at event.moment application)) application
given_as Exhausted event application = application
given_as Closed event application = application

module _ {M : Type 0} (answer : M → Meaning) where
  -- and what comes of it then is done
  abbrev pub after_event_without_refills : LocalEvent → Application M → Application M
  after_event_without_refills event application = settled answer event.moment (given_as application.state event application)

  -- such an application by itself, with the newest event first
  abbrev pub after_events_without_refills : Spec M → List LocalEvent → Application M
  after_events_without_refills spec [] = started answer 0 spec.script (fresh spec)
  after_events_without_refills spec (event ∷ earlier) = after_event_without_refills event (passed answer event.moment (after_events_without_refills spec earlier))

  abbrev pub alone_without_refills : Spec M → List LocalEvent → ℕ → Application M
  alone_without_refills spec routed last = passed answer last (after_events_without_refills spec routed)

  -- Where the refill is 0, *Alone* is the same without any.
  abbrev pub AloneWithoutRefills : Type 0
  AloneWithoutRefills =
      (spec : Spec M) (routed : List LocalEvent) (last : ℕ) → spec.budget.refill ≡ 0 → alone answer spec routed last ≡ alone_without_refills spec routed last
