-- Meaning. What sessions of the first format don't have: refills, and rectangles that move.
use Rattle.std.specs.Prelude.{◌≡◌, ℕ, List, ◌∷◌}
use Rattle.std.specs.List.{AllByRecursion}
use Rattle.tk_route.specs.declared.line.HostLine.{HostLine}
use Rattle.tk_route.specs.declared.line.HostLine.TheVariants.{Rect as Moved}
use Rattle.tk_session.specs.declared.session.AppBlock.{AppBlock}
use Rattle.tk_session.specs.declared.session.EventLine.{EventLine}
use Rattle.tk_session.specs.declared.stage.Format.TheVariants.{First}
use Rattle.tk_session.specs.Session.{IsSession, Plan, heading, lines_of}

-- its events grant no steps
abbrev pub IsRefilledByNothing : AppBlock → Type 0
IsRefilledByNothing app = app.budget.refill ≡ 0

-- the line gives no application another rectangle
abbrev pub MovesNoRectangle : HostLine → Type 0
MovesNoRectangle (Moved slot rect) = ⊥
MovesNoRectangle line = Unit {0}

-- A session of the first format refills nothing and moves no rectangle.
abbrev pub SessionOfTheFirst : Type 0
SessionOfTheFirst =
    (bytes : List ℕ) (plan : Plan) (rest : List (List ℕ)) → lines_of bytes ≡ heading First ∷ rest → IsSession bytes plan
    → AllByRecursion IsRefilledByNothing plan.apps × AllByRecursion (λ (event : EventLine). MovesNoRectangle event.line) plan.events
