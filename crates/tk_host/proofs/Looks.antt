-- What is looked at of applications.
use Rattle.std.proofs.Common.{◌≡◌, ℕ, List, [], ◌∷◌, Option, None, refl, sym, ap, ◌∙◌}
use Rattle.tk_app.specs.Application.{Application}
use Rattle.tk_app.specs.Inspection.{seen_in}
use Rattle.tk_app.specs.Seen.{Meaning}
use Rattle.tk_host.specs.declared.phase.Phase.{Phase}
use Rattle.tk_host.specs.declared.phase.Phase.TheVariants.{Adding, Reached, Finished, Lost}
use Rattle.tk_host.specs.Held.{AddApp, AdvanceTo, Call, End, HostState, LineAt, Start, held_after, phase_after}
use Rattle.tk_host.specs.Inspection.{seen, seen_after, told_in}

module _ {M T : Type 0} where
  -- no calls lead to a phase in which nothing is told
  told_after : (calls : List (Call M)) (phase : Phase) (x : Option T) → told_in phase x ≡ x → told_in (phase_after phase calls) x ≡ x
  told_after [] phase x is = is
  told_after (AddApp app ∷ calls) phase x is = told_after calls phase x is
  told_after (Start ∷ calls) phase x is = told_after calls (Reached 0) x refl
  told_after (LineAt moment line ∷ calls) phase x is = told_after calls (Reached moment) x refl
  told_after (AdvanceTo moment ∷ calls) phase x is = told_after calls (Reached moment) x refl
  told_after (End moment ∷ calls) phase x is = told_after calls (Finished moment) x refl

module _ {M T : Type 0} (answer : M → Meaning) (look : Application M → Option T) (slot : ℕ) (calls : List (Call M)) (held : HostState M) (is : held ≡ held_after answer calls) where
  pub seen_by_history : seen look slot held ≡ seen_after answer look slot calls
  seen_by_history = ap (seen look slot) is ∙ told_after calls Adding (seen_after answer look slot calls) refl

  pub lost_by_history : held.phase ≡ Lost → None ≡ seen_after answer look slot calls
  lost_by_history lost = ap (λ phase. told_in phase (seen_in look slot held.parts)) (sym lost) ∙ seen_by_history
