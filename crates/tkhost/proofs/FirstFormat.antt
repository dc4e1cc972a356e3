-- A session of the first format is what it was before there were refills and rectangles that move.
use Rattle.std.proofs.Common.{◌≡◌, ℕ, zero, suc, ◌+◌, List, [], ◌∷◌, ◌++◌, map, refl, ap, ◌∙◌}
use Rattle.std.specs.Prelude.{take}
use Rattle.std.specs.List.{AllByRecursion, enumerate_from}
use Rattle.std.proofs.lemmas.List.{reverse-append}
use Rattle.tk_base.specs.declared.local_event.LocalEvent.{LocalEvent}
use Rattle.tk_base.specs.declared.rect.Rect.{Rect}
use Rattle.tk_route.specs.Lines.{Line, rects_after, rects_by}
use Rattle.tk_route.specs.Routes.{routed}
use Rattle.tk_route.specs.declared.line.HostLine.{HostLine}
use Rattle.tk_route.specs.declared.line.HostLine.TheVariants.{Move, Press, Release, Keydown, Keyup, Focus, Rect as Moved}
use Rattle.tk_app.specs.Section.{section}
use Rattle.tk_app.specs.Seen.{Meaning}
use Rattle.tk_app.specs.Spec.{Spec}
use Rattle.tk_host.specs.AloneByJob.{alone}
use Rattle.tk_host.specs.FirstFormat.{alone_without_refills}
use Rattle.tk_host.proofs.FirstFormat.{without_refills}
use Rattle.tk_session.specs.declared.session.AppBlock.{AppBlock}
use Rattle.tk_session.specs.declared.session.EventLine.{EventLine}
use Rattle.tk_session.specs.FirstFormat.{IsRefilledByNothing, MovesNoRectangle}
use Rattle.tk_session.specs.Session.{line_of, newest_first, rects_of}
use Rattle.tk_session.proofs.FirstFormat.{of_the_first}
use Rattle.tkhost.specs.FirstFormat.{FirstFormatSections}
use Rattle.tkhost.specs.Play.{specs_of}

-- ── rectangles ──

abbrev MovesNone : EventLine → Type 0
MovesNone event = MovesNoRectangle event.line

same_by : (line : HostLine) (rects : List Rect) → MovesNoRectangle line → rects_by line rects ≡ rects
same_by (Move x y) rects none = refl
same_by (Press button) rects none = refl
same_by (Release button) rects none = refl
same_by (Keydown key) rects none = refl
same_by (Keyup key) rects none = refl
same_by (Focus slot) rects none = refl
same_by (Moved slot rect) rects none = absurd none

-- a line before others, the newest first, that moves nothing
behind : (first : List Rect) (lines : List Line) (line : Line) → MovesNoRectangle line.line → rects_after first (lines ++ line ∷ []) ≡ rects_after first lines
behind first [] line none = same_by line.line first none
behind first (last ∷ lines) line none = ap (rects_by last.line) (behind first lines line none)

stay : (first : List Rect) (told : List EventLine) → AllByRecursion MovesNone told → rects_after first (newest_first told) ≡ first
stay first [] none = refl
stay first (event ∷ told) none =
    ap (rects_after first) (reverse-append (line_of event ∷ []) (map line_of told))
    ∙ behind first (newest_first told) (line_of event) none.0
    ∙ stay first told none.1

all_taken : (told : ℕ) (events : List EventLine) → AllByRecursion MovesNone events → AllByRecursion MovesNone (take told events)
all_taken zero events none = tt
all_taken (suc told) [] none = tt
all_taken (suc told) (event ∷ events) none = (none.0, all_taken told events none.1)

-- ── sections ──

module _ {M : Type 0} (answer : M → Meaning) where
  abbrev IsGrantedNothing : Spec M → Type 0
  IsGrantedNothing spec = spec.budget.refill ≡ 0

  none_granted : (apps : List AppBlock) (lists : List (List (List ℕ × M))) → AllByRecursion IsRefilledByNothing apps → AllByRecursion IsGrantedNothing (specs_of apps lists)
  none_granted [] lists none = tt
  none_granted (app ∷ apps) [] none = tt
  none_granted (app ∷ apps) (aliases ∷ lists) none = (none.0, none_granted apps lists none.1)

  module _ (events : ℕ → List LocalEvent) (end : ℕ) where
    same_sections : (slot : ℕ) (specs : List (Spec M)) → AllByRecursion IsGrantedNothing specs
        → map (λ (numbered : ℕ × Spec M). section (alone answer numbered.1 (events numbered.0) end)) (enumerate_from slot specs)
        ≡ map (λ (numbered : ℕ × Spec M). section (alone_without_refills answer numbered.1 (events numbered.0) end)) (enumerate_from slot specs)
    same_sections slot [] none = refl
    same_sections slot (spec ∷ specs) none =
        ap (λ bytes. bytes ∷ map (λ (numbered : ℕ × Spec M). section (alone answer numbered.1 (events numbered.0) end)) (enumerate_from (slot + 1) specs))
        (ap section (without_refills answer spec (events slot) end none.0))
        ∙ ap (λ rest. section (alone_without_refills answer spec (events slot) end) ∷ rest) (same_sections (slot + 1) specs none.1)

  pub of_the_first_format : FirstFormatSections answer
  of_the_first_format bytes plan rest lists begins is =
      let none = of_the_first bytes plan rest begins is in (
        same_sections (routed (rects_of plan.apps) (newest_first plan.events)) plan.end 0 (specs_of plan.apps lists) (none_granted plan.apps lists none.0),
        λ told. stay (rects_of plan.apps) (take told plan.events) (all_taken told plan.events none.1),
      )
