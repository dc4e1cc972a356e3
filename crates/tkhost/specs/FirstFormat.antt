-- Meaning. What is written of a session of the first format.
use Rattle.std.specs.Prelude.{◌≡◌, ℕ, List, ◌∷◌, map, take, codes}
use Rattle.std.specs.List.{enumerate_from}
use Rattle.tk_route.specs.Routes.{routed}
use Rattle.tk_app.specs.Section.{section}
use Rattle.tk_app.specs.Seen.{Meaning}
use Rattle.tk_app.specs.Spec.{Spec}
use Rattle.tk_host.specs.FirstFormat.{alone_without_refills}
use Rattle.tk_session.specs.Session.{IsSession, Plan, lines_of, newest_first, rects_at, rects_of}
use Rattle.tkhost.specs.Play.{specs_of}
use Rattle.tkhost.specs.Sections.{sections_in}

module _ {M : Type 0} (answer : M → Meaning) where
  -- the section of each application, to which events grant nothing
  abbrev pub sections_without_refills : Plan → List (List (List ℕ × M)) → List (List ℕ)
  sections_without_refills plan lists =
      map (λ (numbered : ℕ × Spec M). section (alone_without_refills answer numbered.1 (routed (rects_of plan.apps) (newest_first plan.events) numbered.0) plan.end))
      (enumerate_from 0 (specs_of plan.apps lists))

  -- The sections of a session of the first format, whose first line says so, are those of applications that are granted nothing, and before each of its
  -- events the rectangles are those that the applications came with: so it has the sections that it had before there were refills and rectangles that move.
  abbrev pub FirstFormatSections : Type 0
  FirstFormatSections =
      (bytes : List ℕ) (plan : Plan) (rest : List (List ℕ)) (lists : List (List (List ℕ × M))) → lines_of bytes ≡ codes "tkhost 1" ∷ rest → IsSession bytes plan
      → (sections_in answer plan lists ≡ sections_without_refills plan lists) × ((told : ℕ) → rects_at plan.apps (take told plan.events) ≡ rects_of plan.apps)
