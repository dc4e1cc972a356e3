-- Meaning. How many steps a session takes at most.
use Rattle.std.specs.Prelude.{ℕ, ◌≤◌, List}
use Rattle.tk_route.specs.Routes.{routed}
use Rattle.tk_app.specs.Seen.{Meaning}
use Rattle.tk_app.specs.Commands.{Update}
use Rattle.tk_app.specs.Dispatch.{Action}
use Rattle.tk_app.specs.Settle.{IsSettle, IsUpdate}
use Rattle.tk_host.specs.Used.{given_to_all_by, used_by_all_by}
use Rattle.tk_session.specs.Session.{Plan, newest_first, rects_of}
use Rattle.tkhost.specs.Play.{specs_of}

-- By whatever meets the equations of `update` and *Settle*: the applications of a session together take at most the sum of their totals and of what the
-- events that are routed to them grant.
abbrev pub SessionWithin : {M : Type 0} → (M → Meaning) → Type 0
SessionWithin {M} answer =
    (update : Update) → IsUpdate update → (settle : Action) → IsSettle update settle → (plan : Plan) (lists : List (List (List ℕ × M)))
    → used_by_all_by answer update settle (specs_of plan.apps lists) (routed (rects_of plan.apps) (newest_first plan.events)) plan.end
    ≤ given_to_all_by answer update settle (specs_of plan.apps lists) (routed (rects_of plan.apps) (newest_first plan.events))
