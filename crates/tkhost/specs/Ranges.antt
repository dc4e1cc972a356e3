-- Meaning. What a session routes is in range, and is told whole: no range of a field decides what a script is told of it.
use Rattle.std.specs.Prelude.{◌≡◌, ℕ, List, ◌∷◌, ◌++◌, Some, slice_get}
use Rattle.tk_base.specs.declared.local_event.LocalEvent.{LocalEvent}
use Rattle.tk_route.specs.Routes.{routed}
use Rattle.tk_app.specs.Commands.{Update}
use Rattle.tk_app.specs.Dispatch.{Action}
use Rattle.tk_app.specs.Seen.{Meaning}
use Rattle.tk_app.specs.Settle.{IsSettle, IsUpdate}
use Rattle.tk_app.specs.Spec.{Spec}
use Rattle.tk_host.specs.Ranges.{AreEventsInRange, ComesWhole}
use Rattle.tk_session.specs.Session.{IsSession, Plan, newest_first, rects_of}
use Rattle.tkhost.specs.Play.{specs_of}

-- the events that a session routes to an application, the newest first
abbrev pub routed_in : Plan → ℕ → List LocalEvent
routed_in plan slot = routed (rects_of plan.apps) (newest_first plan.events) slot

-- the events of an accepted session are in range, whatever application they are routed to
abbrev pub SessionInRange : Type 0
SessionInRange = (bytes : List ℕ) (plan : Plan) → IsSession bytes plan → (slot : ℕ) → AreEventsInRange (routed_in plan slot)

-- So each of them tells its places and its button, by whatever meets the equations of `update` and *Settle*.
abbrev pub SessionComesWhole : {M : Type 0} → (M → Meaning) → Type 0
SessionComesWhole {M} answer =
    (update : Update) → IsUpdate update → (settle : Action) → IsSettle update settle → (bytes : List ℕ) (plan : Plan) → IsSession bytes plan
    → (lists : List (List (List ℕ × M))) (slot : ℕ) (spec : Spec M) → slice_get (specs_of plan.apps lists) slot ≡ Some spec
    → (later : List LocalEvent) (event : LocalEvent) (earlier : List LocalEvent) → routed_in plan slot ≡ later ++ event ∷ earlier
    → ComesWhole answer update settle spec event earlier
