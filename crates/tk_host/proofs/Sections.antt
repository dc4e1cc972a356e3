-- The sections of what a host holds are those by the equations of `update` and *Settle*.
use Rattle.std.proofs.Common.{◌≡◌, ℕ, ◌+◌, List, [], ◌∷◌, map, refl, ap, ◌∙◌}
use Rattle.std.specs.List.{enumerate_from}
use Rattle.tk_base.specs.declared.local_event.LocalEvent.{LocalEvent}
use Rattle.tk_base.specs.declared.rect.Rect.{Rect}
use Rattle.tk_route.specs.Lines.{Line}
use Rattle.tk_route.specs.Routes.{routed}
use Rattle.tk_app.specs.Commands.{Update}
use Rattle.tk_app.specs.Dispatch.{Action}
use Rattle.tk_app.specs.Part.{Part}
use Rattle.tk_app.specs.Section.{section}
use Rattle.tk_app.specs.Seen.{Meaning}
use Rattle.tk_app.specs.Settle.{IsSettle, IsUpdate}
use Rattle.tk_app.specs.Spec.{Spec}
use Rattle.tk_host.specs.declared.phase.Phase.{Phase}
use Rattle.tk_host.specs.declared.phase.Phase.TheVariants.{Adding, Reached, Finished, Lost}
use Rattle.tk_host.specs.Held.{Call, application_in, first_rects, given_by, lines_of, parts_in, phase_after}
use Rattle.tk_host.specs.Sections.{application_by, sections_after, sections_by}
use Rattle.tk_host.specs.Spec.{Given}
use Rattle.tk_host.proofs.BySettle.{alone_by_settle}

module _ {M : Type 0} (answer : M → Meaning) (update : Update) (is_update : IsUpdate update) (settle : Action) (meets : IsSettle update settle) where
  application_same : (phase : Phase) (events : List LocalEvent) (spec : Spec M) → application_in answer phase events spec ≡ application_by answer update settle phase events spec
  application_same Adding events spec = refl
  application_same (Reached moment) events spec = alone_by_settle answer update is_update settle meets spec events moment
  application_same (Finished moment) events spec = alone_by_settle answer update is_update settle meets spec events moment
  application_same Lost events spec = refl

  same_from : (phase : Phase) (first : List Rect) (lines : List Line) (slot : ℕ) (apps : List (Given M))
      → map (λ (part : Part M). section part.application) (parts_in answer phase first lines slot apps)
      ≡ map (λ (numbered : ℕ × Given M). section (application_by answer update settle phase (routed first lines numbered.0) numbered.1.spec)) (enumerate_from slot apps)
  same_from phase first lines slot [] = refl
  same_from phase first lines slot (app ∷ apps) =
      let events : List LocalEvent = routed first lines slot in
      ap
      (λ application. section application ∷ map (λ (part : Part M). section part.application) (parts_in answer phase first lines (slot + 1) apps))
      (application_same phase events app.spec)
      ∙ ap (λ rest. section (application_by answer update settle phase events app.spec) ∷ rest) (same_from phase first lines (slot + 1) apps)

  pub sections_same : (calls : List (Call M)) → sections_after answer calls ≡ sections_by answer update settle calls
  sections_same calls = same_from (phase_after Adding calls) (first_rects calls) (lines_of calls) 0 (given_by calls)
