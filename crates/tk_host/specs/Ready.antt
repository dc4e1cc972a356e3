-- Steps. What a host knows of its parts while it waits for a call.
use Rattle.std.specs.Prelude.{◌≡◌, ◌≤◌, ℕ, true, List, [], ◌∷◌, length}
use Rattle.tk_base.specs.declared.rect.Rect.{Rect}
use Rattle.tk_route.specs.Limits.{most_applications}
use Rattle.tk_route.specs.Lines.{Line, values}
use Rattle.tk_route.specs.Screen.{are_apart}
use Rattle.tk_route.specs.Values.{Values}
use Rattle.tk_app.specs.Stages.{first_moment_due}
use Rattle.tk_app.specs.Due.{IsPast}
use Rattle.tk_app.specs.Application.{next_due}
use Rattle.tk_app.specs.MomentsByJob.{settled}
use Rattle.tk_app.specs.Part.{Part, Rests, added}
use Rattle.tk_app.specs.Seen.{Meaning}
use Rattle.tk_app.specs.Spec.{Spec}
use Rattle.tk_host.specs.declared.phase.Phase.{Phase}
use Rattle.tk_host.specs.declared.phase.Phase.TheVariants.{Adding, Reached, Finished, Lost}
use Rattle.tk_host.specs.Turns.{applications}

-- nothing is under way in any of the parts
abbrev pub AllRest : {M : Type 0} → List (Part M) → Type 0
AllRest [] = Unit {0}
AllRest (part ∷ parts) = (part.work ≡ Rests) × AllRest parts

-- each part is as it was added
abbrev pub AllAdded : {M : Type 0} → List (Part M) → Type 0
AllAdded [] = Unit {0}
AllAdded {M} (part ∷ parts) = ((spec : Spec M) × (part ≡ added spec)) × AllAdded parts

-- Before the start the parts are as they were added, at moment 0. Then nothing is under way in them, and nothing was left undone up to the moment
-- of the last stage, which is not after the one that was reached.
pub record IsReady {M : Type 0} (answer : M → Meaning) (phase : Phase) (moment : ℕ) (parts : List (Part M)) : Type 0 where
  pub adding : phase ≡ Adding → (moment ≡ 0) × AllAdded parts
  pub reached : (last : ℕ) → phase ≡ Reached last → (moment ≤ last) × AllRest parts × IsPast moment (first_moment_due next_due (settled answer) (applications parts))

-- a phase that a host comes to at a moment
abbrev pub IsAt : ℕ → Phase → Type 0
IsAt moment Adding = ⊥
IsAt moment (Reached last) = last ≡ moment
IsAt moment (Finished last) = last ≡ moment
IsAt moment Lost = ⊥

-- Before the start the applications' rectangles are apart, and there are as many as parts; then what is known is known by lines, none of which came after the
-- moment that was reached.
pub record IsRouted {M : Type 0} (phase : Phase) (rects : List Rect) (known : Values) (parts : List (Part M)) : Type 0 where
  pub adding : phase ≡ Adding → (are_apart rects ≡ true) × (length rects ≤ most_applications) × (length rects ≡ length parts)
  pub reached : (last : ℕ) → phase ≡ Reached last → (known.moment ≤ last) × (first : List Rect) × (earlier : List Line) × (known ≡ values first earlier)
