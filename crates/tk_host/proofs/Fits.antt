-- What a host holds after calls fits: no application has more steps left than its total.
use Rattle.std.proofs.Common.{◌≡◌, ℕ, zero, suc, ◌+◌, ◌≤◌, List, [], ◌∷◌, refl, sym, subst, arith}
use Rattle.tk_base.specs.declared.budget.Budget.{Budget}
use Rattle.tk_base.specs.declared.rect.Rect.{Rect}
use Rattle.tk_base.specs.declared.local_event.LocalEvent.{LocalEvent}
use Rattle.tk_route.specs.Lines.{Line}
use Rattle.tk_route.specs.Routes.{routed}
use Rattle.tk_app.specs.Application.{Application}
use Rattle.tk_app.specs.Seen.{Meaning}
use Rattle.tk_app.specs.Spec.{Spec}
use Rattle.tk_host.specs.declared.phase.Phase.{Phase}
use Rattle.tk_host.specs.declared.phase.Phase.TheVariants.{Adding, Reached, Finished, Lost}
use Rattle.tk_host.specs.Held.{Call, HostState, application_in, first_rects, given_by, held_after, lines_of, parts_in, phase_after}
use Rattle.tk_host.specs.Slots.{FitsIn}
use Rattle.tk_host.specs.Spec.{Given}
use Rattle.tk_host.proofs.Used.{Fits, fits_alone_to}

module _ {M : Type 0} (answer : M → Meaning) where
  fits_in_phase : (phase : Phase) (routed : List LocalEvent) (spec : Spec M) → Fits spec (application_in answer phase routed spec)
  fits_in_phase Adding routed spec = record { budget = refl; steps = omega arith }
  fits_in_phase (Reached moment) routed spec = fits_alone_to answer spec routed moment
  fits_in_phase (Finished moment) routed spec = fits_alone_to answer spec routed moment
  fits_in_phase Lost routed spec = record { budget = refl; steps = omega arith }

  one_fits : (spec : Spec M) (application : Application M) → Fits spec application → application.steps ≤ application.budget.total
  one_fits spec application fits = subst (λ (budget : Budget). application.steps ≤ budget.total) (sym fits.budget) fits.steps

  all_fit : (phase : Phase) (first : List Rect) (lines : List Line) (n slot : ℕ) (apps : List (Given M)) → FitsIn slot (parts_in answer phase first lines n apps)
  all_fit phase first lines n slot [] = tt
  all_fit phase first lines n zero (app ∷ apps) =
      let mine : List LocalEvent = routed first lines n in
      one_fits app.spec (application_in answer phase mine app.spec) (fits_in_phase phase mine app.spec)
  all_fit phase first lines n (suc slot) (app ∷ apps) = all_fit phase first lines (n + 1) slot apps

  pub fits_held : (calls : List (Call M)) (held : HostState M) → held ≡ held_after answer calls → (slot : ℕ) → FitsIn slot held.parts
  fits_held calls held is = λ slot.
      subst (λ (h : HostState M). FitsIn slot h.parts) (sym is) (all_fit (phase_after Adding calls) (first_rects calls) (lines_of calls) 0 slot (given_by calls))
