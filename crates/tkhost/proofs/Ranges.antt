-- What a session routes is in range, and is told whole.
use Rattle.std.proofs.Common.{◌≡◌, ℕ, zero, suc, List, [], ◌∷◌, ◌++◌, Option, Some, None, subst}
use Rattle.std.specs.Prelude.{map, slice_get}
use Rattle.tk_base.specs.declared.local_event.LocalEvent.{LocalEvent}
use Rattle.tk_route.specs.Lines.{Line}
use Rattle.tk_route.specs.Refusals.{IsInRange}
use Rattle.tk_app.specs.Ranges.{IsSize}
use Rattle.tk_app.specs.Seen.{Meaning}
use Rattle.tk_app.specs.Spec.{Spec}
use Rattle.tk_host.specs.Ranges.{AreEventsInRange, AreLinesInRange, AreOnScreen}
use Rattle.tk_host.proofs.Ranges.{all_reversed, alone_in_range, routes_in_range}
use Rattle.tk_session.specs.declared.session.AppBlock.{AppBlock}
use Rattle.tk_session.specs.declared.session.EventLine.{EventLine}
use Rattle.tk_session.specs.Session.{AreAllowed, IsAllowed, MayHappen, Plan, line_of, newest_first, rects_of}
use Rattle.tk_session.proofs.Sound.{IsAllowed-from_session}
use Rattle.tkhost.specs.Play.{specs_of}
use Rattle.tkhost.specs.Ranges.{SessionComesWhole, SessionInRange, routed_in}

rects_on_screen : (before apps : List AppBlock) → AreAllowed before apps → AreOnScreen (rects_of apps)
rects_on_screen before [] allowed = tt
rects_on_screen before (app ∷ apps) allowed = (allowed.0.placed, rects_on_screen (before ++ app ∷ []) apps allowed.3)

lines_in_range : (apps : List AppBlock) (before told : List EventLine) → MayHappen apps before told → AreLinesInRange (map line_of told)
lines_in_range apps before [] may = tt
lines_in_range apps before (event ∷ told) may = (may.1, lines_in_range apps (before ++ event ∷ []) told may.3)

session_events : (plan : Plan) → IsAllowed plan → (slot : ℕ) → AreEventsInRange (routed_in plan slot)
session_events plan allowed slot =
    routes_in_range (rects_of plan.apps) (newest_first plan.events) slot (rects_on_screen [] plan.apps allowed.apps_may)
    (all_reversed (λ (line : Line). IsInRange line.line) (map line_of plan.events) (lines_in_range plan.apps [] plan.events allowed.events_may))

pub session_in_range : SessionInRange
session_in_range bytes plan is slot = session_events plan (IsAllowed-from_session bytes plan is) slot

-- those behind the later ones
behind_in_range : (later others : List LocalEvent) → AreEventsInRange (later ++ others) → AreEventsInRange others
behind_in_range [] others in_range = in_range
behind_in_range (event ∷ later) others in_range = behind_in_range later others in_range.1

module _ {M : Type 0} where
  spec_fits : (before apps : List AppBlock) (lists : List (List (List ℕ × M))) (slot : ℕ) (spec : Spec M) → AreAllowed before apps → slice_get (specs_of apps lists) slot ≡ Some spec
      → IsSize spec.width spec.height
  spec_fits before [] lists slot spec allowed at = absurd (cc)
  spec_fits before (app ∷ apps) [] slot spec allowed at = absurd (cc)
  spec_fits before (app ∷ apps) (aliases ∷ lists) zero spec allowed at = subst IsFound at (allowed.0.placed.3, allowed.0.placed.5)
    where
      IsFound : Option (Spec M) → Type 0
      IsFound None = Unit {0}
      IsFound (Some found) = IsSize found.width found.height
  spec_fits before (app ∷ apps) (aliases ∷ lists) (suc slot) spec allowed at = spec_fits (before ++ app ∷ []) apps lists slot spec allowed.3 at

pub session_comes_whole : {M : Type 0} (answer : M → Meaning) → SessionComesWhole answer
session_comes_whole answer update is_update settle meets bytes plan is lists slot spec at later event earlier routes =
    let allowed : IsAllowed plan = IsAllowed-from_session bytes plan is in
    (alone_in_range answer).whole update is_update settle meets spec event earlier (spec_fits [] plan.apps lists slot spec allowed.apps_may at)
    (behind_in_range later (event ∷ earlier) (subst AreEventsInRange routes (session_events plan allowed slot)))
