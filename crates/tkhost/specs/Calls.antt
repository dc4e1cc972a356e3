-- Steps. The calls of a host by which a session is played.
use Rattle.std.specs.Prelude.{ℕ, List, [], ◌∷◌, ◌++◌, map}
use Rattle.std.specs.List.{enumerate_from}
use Rattle.tk_base.specs.declared.rect.Rect.{Rect}
use Rattle.tk_route.specs.Lines.{Line}
use Rattle.tk_route.specs.Routes.{routed}
use Rattle.tk_app.specs.Section.{section}
use Rattle.tk_app.specs.Seen.{Meaning}
use Rattle.tk_app.specs.Spec.{Spec}
use Rattle.tk_host.specs.AloneByJob.{alone}
use Rattle.tk_host.specs.Held.{Call, AddApp, End, LineAt, Start}
use Rattle.tk_host.specs.Spec.{Given, given}
use Rattle.tk_session.specs.declared.session.AppBlock.{AppBlock}
use Rattle.tk_session.specs.declared.session.EventLine.{EventLine}
use Rattle.tk_session.specs.Session.{Plan}

-- the calls that hand the events to a host
abbrev pub lining : {M : Type 0} → List EventLine → List (Call M)
lining [] = []
lining (event ∷ events) = LineAt event.moment event.line ∷ lining events

module _ {M : Type 0} where
  -- an application as a host is given it
  abbrev pub given_of : AppBlock → List (List ℕ × M) → Given M
  given_of app aliases = given app.name app.rect app.script app.budget aliases

  -- the calls that add applications
  abbrev pub adding : List AppBlock → List (List (List ℕ × M)) → List (Call M)
  adding [] lists = []
  adding (app ∷ apps) [] = []
  adding (app ∷ apps) (aliases ∷ lists) = AddApp (given_of app aliases) ∷ adding apps lists

  -- the calls by which a session is played
  abbrev pub calls_of : Plan → List (List (List ℕ × M)) → List (Call M)
  calls_of plan lists = adding plan.apps lists ++ Start ∷ (lining plan.events ++ End plan.end ∷ [])

module _ {M : Type 0} (answer : M → Meaning) where
  -- the sections of applications from a slot on, up to a last moment, with the events that these lines route to each
  abbrev pub sections_from : ℕ → List Rect → List Line → ℕ → List (Spec M) → List (List ℕ)
  sections_from end first lines slot specs =
      map (λ (numbered : ℕ × Spec M). section (alone answer numbered.1 (routed first lines numbered.0) end)) (enumerate_from slot specs)
