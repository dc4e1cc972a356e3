-- Where nothing is refilled, events grant nothing.
use Rattle.std.proofs.Common.{◌≡◌, ℕ, ◌≤◌, List, [], ◌∷◌, refl, sym, ap, ◌∙◌, subst, arith}
use Rattle.tk_base.specs.declared.budget.Budget.{Budget}
use Rattle.tk_base.specs.declared.local_event.LocalEvent.{LocalEvent}
use Rattle.tk_app.specs.declared.state.AppState.{AppState}
use Rattle.tk_app.specs.declared.state.AppState.TheVariants.{Running, Exhausted, Closed}
use Rattle.tk_app.specs.Application.{Application}
use Rattle.tk_app.specs.Moments.{delivered, delivered_as, granted}
use Rattle.tk_app.specs.MomentsByJob.{settled}
use Rattle.tk_app.specs.Seen.{Meaning}
use Rattle.tk_app.specs.Spec.{Spec}
use Rattle.tk_host.specs.AloneByJob.{after_events, passed}
use Rattle.tk_host.specs.FirstFormat.{AloneWithoutRefills, after_events_without_refills, after_event_without_refills, given_as}
use Rattle.tk_host.specs.UsedByJob.{before_event}
use Rattle.tk_host.proofs.Used.{Fits, fits_before}

none_granted : (budget : Budget) (steps : ℕ) → budget.refill ≡ 0 → steps ≤ budget.total → granted budget steps ≡ steps
none_granted budget steps none le = omega (arith, none, le)

module _ {M : Type 0} (answer : M → Meaning) where
  given : (spec : Spec M) (event : LocalEvent) (application : Application M) → Fits spec application → spec.budget.refill ≡ 0 → delivered event application ≡ given_as application.state event application
  unfolding delivered
  given spec event application fits none = by application.state
    where
      kept : granted application.budget application.steps ≡ application.steps
      kept =
          none_granted application.budget application.steps (ap (λ (budget : Budget). budget.refill) fits.budget ∙ none)
          (subst (λ (budget : Budget). application.steps ≤ budget.total) (sym fits.budget) fits.steps)

      by : (state : AppState) → delivered_as state event application ≡ given_as state event application
      by Running = ap (λ steps. record (given_as Running event application) { steps = steps }) kept
      by Exhausted = refl
      by Closed = refl

  all_given : (spec : Spec M) (routed : List LocalEvent) → spec.budget.refill ≡ 0 → after_events answer spec routed ≡ after_events_without_refills answer spec routed
  all_given spec [] none = refl
  all_given spec (event ∷ earlier) none =
      let before : Application M = before_event answer spec event earlier in
      ap (settled answer event.moment) (given spec event before (fits_before answer spec event earlier) none)
      ∙ ap (λ (application : Application M). after_event_without_refills answer event (passed answer event.moment application)) (all_given spec earlier none)

  pub without_refills : AloneWithoutRefills answer
  without_refills spec routed last none = ap (passed answer last) (all_given spec routed none)
