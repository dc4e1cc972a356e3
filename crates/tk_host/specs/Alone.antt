-- Meaning. What becomes of an application, whatever else there is.
use Rattle.std.specs.Prelude.{ℕ, zero, suc, List, [], ◌∷◌}
use Rattle.tk_base.specs.declared.local_event.LocalEvent.{LocalEvent}
use Rattle.tk_app.specs.Application.{Application, fresh, next_due}
use Rattle.tk_app.specs.Commands.{Update}
use Rattle.tk_app.specs.Dispatch.{Action}
use Rattle.tk_app.specs.Moments.{delivered, settled_by, started_by}
use Rattle.tk_app.specs.Seen.{Meaning}
use Rattle.tk_app.specs.Spec.{Spec}
use Rattle.tk_app.specs.Due.{settled_if_due_at}

module _ {M : Type 0} (answer : M → Meaning) where
  -- by what *Settle* is
  module _ (settle : Action) where
    -- a moment has come: where something of the application's own is due then, what is to be done then has been done
    abbrev pub at_moment_by : ℕ → Application M → Application M
    at_moment_by moment application = settled_if_due_at next_due (settled_by answer settle) moment application

    -- The moments up to a last one have come, each after the one before it, from 0 on. In one that the application has reached before, nothing is
    -- due any more. By its due moments alone, the earliest first, the relation *Passes* says it (`Passes`).
    unfoldable pub passed_by : ℕ → Application M → Application M
    passed_by zero application = at_moment_by zero application
    passed_by (suc moment) application = at_moment_by (suc moment) (passed_by moment application)

    -- an event has been given to it, and what comes of it then is done
    abbrev pub after_event_by : LocalEvent → Application M → Application M
    after_event_by event application = settled_by answer settle event.moment (delivered event application)

  -- by what `update` and *Settle* are
  module _ (update : Update) (settle : Action) where
    -- An application by itself: its script and what comes of it at moment 0, and then the events that are routed to it. They stand with the newest
    -- first; before each come the moments up to the event's.
    abbrev pub after_events_by : Spec M → List LocalEvent → Application M
    after_events_by spec [] = started_by answer update settle 0 spec.script (fresh spec)
    after_events_by spec (event ∷ earlier) = after_event_by settle event (passed_by settle event.moment (after_events_by spec earlier))

    -- And last come the moments up to the last.
    abbrev pub alone_by : Spec M → List LocalEvent → ℕ → Application M
    alone_by spec routed last = passed_by settle last (after_events_by spec routed)
