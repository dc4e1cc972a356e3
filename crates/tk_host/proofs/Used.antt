-- The steps that an application takes, and those that are left.
use Rattle.std.proofs.Common.{◌≡◌, ℕ, zero, suc, ◌+◌, ◌*◌, ◌≤◌, Bool, true, false, Option, Some, None, List, [], ◌∷◌, length, refl, ap, ◌∙◌, subst, arith}
use Rattle.std.specs.Prelude.{if◌then◌else◌, nat_eq, sum_by}
use Rattle.std.specs.List.{enumerate_from}
use Rattle.std.proofs.Math.Nat.{suc-mul}
use Rattle.std.proofs.lemmas.List.Sums.{sum_by-cons}
use Rattle.tcl_interp.specs.Evaluation.{Outcome, Ended, OutOfSteps}
use Rattle.tk_base.specs.declared.local_event.LocalEvent.{LocalEvent}
use Rattle.tk_app.specs.declared.state.AppState.{AppState}
use Rattle.tk_app.specs.declared.state.AppState.TheVariants.{Running, Exhausted, Closed}
use Rattle.tk_app.specs.Application.{Application, fresh, next_due}
use Rattle.tk_app.specs.Moments.{after_outcome, delivered, delivered_as, settled_as, settled_by, started_by}
use Rattle.tk_app.specs.MomentsByJob.{settled, started}
use Rattle.tk_app.specs.Part.{Part, Rests, added, settling_begun}
use Rattle.tk_app.specs.Seen.{Meaning, Seen}
use Rattle.tk_app.specs.SettleJob.{settle_meaning}
use Rattle.tk_app.specs.Spec.{Spec}
use Rattle.tk_app.specs.Due.{settled_if}
use Rattle.tk_app.proofs.Parts.{begins_with_script, settles_from_rest}
use Rattle.tk_app.proofs.Slices.{done_within}
use Rattle.tk_host.specs.Alone.{passed_by}
use Rattle.tk_host.specs.AloneByJob.{after_events, alone, at_moment, passed}
use Rattle.tk_host.specs.UsedByJob.{AllWithinByJob, UsedAndLeftByJob, before_event, granted_to, used, used_for}

-- the budget stays, and steps only fall
record Keeps {M : Type 0} (before after : Application M) : Type 0 where
  pub budget : after.budget ≡ before.budget
  pub steps : after.steps ≤ before.steps

-- an application begun with this has its budget, and at most the total left
pub record Fits {M : Type 0} (spec : Spec M) (application : Application M) : Type 0 where
  pub budget : application.budget ≡ spec.budget
  pub steps : application.steps ≤ spec.budget.total

kept_fits : {M : Type 0} (spec : Spec M) (before after : Application M) → Keeps before after → Fits spec before → Fits spec after
kept_fits spec before after keeps fits = record { budget = keeps.budget ∙ fits.budget; steps = omega (arith, keeps.steps, fits.steps) }

budget_after : {M : Type 0} (outcome : Outcome Seen) (application : Application M) → (after_outcome outcome application).budget ≡ application.budget
budget_after (Ended left code text) application = refl
budget_after (OutOfSteps left) application = refl

module _ {M : Type 0} (answer : M → Meaning) where
  settled_budget : (moment : ℕ) (application : Application M) → (settled answer moment application).budget ≡ application.budget
  unfolding settled_by
  settled_budget moment application = by application.state
    where
      by : (state : AppState) → (settled_as answer settle_meaning state moment application).budget ≡ application.budget
      by Running = budget_after _ application
      by Exhausted = refl
      by Closed = refl

  settled_keeps : (moment : ℕ) (application : Application M) → Keeps application (settled answer moment application)
  settled_keeps moment application = record {
    budget = settled_budget moment application;
    steps = subst (λ (part : Part M). part.application.steps ≤ application.steps) (settles_from_rest answer moment application)
        (done_within answer moment (settling_begun (record { application = application; work = Rests })));
  }

  started_budget : (spec : Spec M) → (started answer 0 spec.script (fresh spec)).budget ≡ spec.budget
  unfolding started_by
  started_budget spec = budget_after _ (fresh spec)

  started_keeps : (spec : Spec M) → Keeps (fresh spec) (started answer 0 spec.script (fresh spec))
  started_keeps spec = record {
    budget = started_budget spec;
    steps = subst (λ (part : Part M). part.application.steps ≤ spec.budget.total) (begins_with_script answer 0 spec) (done_within answer 0 (added spec));
  }

  at_moment_keeps : (moment : ℕ) (application : Application M) → Keeps application (at_moment answer moment application)
  at_moment_keeps moment application = by (next_due application)
    where
      by_test : (b : Bool) → Keeps application (if b then settled answer moment application else application)
      by_test true = settled_keeps moment application
      by_test false = record { budget = refl; steps = omega arith }

      by : (o : Option ℕ) → Keeps application (settled_if next_due (settled answer) o moment application)
      by None = record { budget = refl; steps = omega arith }
      by (Some due) = by_test (nat_eq due moment)

  passed_keeps : (last : ℕ) (application : Application M) → Keeps application (passed answer last application)
  unfolding passed_by
  passed_keeps zero application = at_moment_keeps 0 application
  passed_keeps (suc last) application =
      let before = passed_keeps last application in
      let here = at_moment_keeps (suc last) (passed answer last application) in
      record { budget = here.budget ∙ before.budget; steps = omega (arith, here.steps, before.steps) }

  -- an event grants none or some, and at most the refill
  record Grants (spec : Spec M) (event : LocalEvent) (application : Application M) : Type 0 where
    pub fits : Fits spec (delivered event application)
    pub more : application.steps ≤ (delivered event application).steps
    pub most : (delivered event application).steps ≤ application.steps + spec.budget.refill

  grants : (spec : Spec M) (event : LocalEvent) (application : Application M) → Fits spec application → Grants spec event application
  unfolding delivered
  grants spec event application fits =
      let there = by application.state in
      record { fits = there.0; more = there.1; most = there.2 }
    where
      total : application.budget.total ≡ spec.budget.total
      total = ap (λ budget. budget.total) fits.budget

      refill : application.budget.refill ≡ spec.budget.refill
      refill = ap (λ budget. budget.refill) fits.budget

      by : (state : AppState) → Fits spec (delivered_as state event application)
          × (application.steps ≤ (delivered_as state event application).steps) × ((delivered_as state event application).steps ≤ application.steps + spec.budget.refill)
      by Running = (
        record { budget = fits.budget; steps = omega (arith, total) },
        omega (arith, total, fits.steps),
        omega (arith, refill),
      )
      by Exhausted = (fits, omega arith, omega arith)
      by Closed = (fits, omega arith, omega arith)

  -- an application by itself
  fits_alone : (spec : Spec M) (routed : List LocalEvent) → Fits spec (after_events answer spec routed)
  fits_alone spec [] = kept_fits spec (fresh spec) _ (started_keeps spec) (record { budget = refl; steps = omega arith })
  fits_alone spec (event ∷ earlier) =
      let before = before_event answer spec event earlier in
      let there = kept_fits spec (after_events answer spec earlier) before (passed_keeps event.moment (after_events answer spec earlier)) (fits_alone spec earlier) in
      kept_fits spec (delivered event before) _ (settled_keeps event.moment (delivered event before)) (grants spec event before there).fits

  pub fits_before : (spec : Spec M) (event : LocalEvent) (earlier : List LocalEvent) → Fits spec (before_event answer spec event earlier)
  fits_before spec event earlier =
      kept_fits spec (after_events answer spec earlier) (before_event answer spec event earlier) (passed_keeps event.moment (after_events answer spec earlier)) (fits_alone spec earlier)

  pub fits_alone_to : (spec : Spec M) (routed : List LocalEvent) (last : ℕ) → Fits spec (alone answer spec routed last)
  fits_alone_to spec routed last = kept_fits spec (after_events answer spec routed) (alone answer spec routed last) (passed_keeps last (after_events answer spec routed)) (fits_alone spec routed)

  left_for : (spec : Spec M) (routed : List LocalEvent)
      → used_for answer spec routed + (after_events answer spec routed).steps ≡ spec.budget.total + granted_to answer spec routed
  left_for spec [] = let keeps = (started_keeps spec).steps in omega (arith, keeps)
  left_for spec (event ∷ earlier) =
      let before = before_event answer spec event earlier in
      let way = passed_keeps event.moment (after_events answer spec earlier) in
      let given = grants spec event before (fits_before spec event earlier) in
      let keeps = settled_keeps event.moment (delivered event before) in
      omega (arith, left_for spec earlier, way.steps, given.more, keeps.steps)

  granted_most : (spec : Spec M) (routed : List LocalEvent) → granted_to answer spec routed ≤ length routed * spec.budget.refill
  granted_most spec [] = omega arith
  granted_most spec (event ∷ earlier) =
      let before = before_event answer spec event earlier in
      let given = grants spec event before (fits_before spec event earlier) in
      let refill = spec.budget.refill in
      let more : suc (length earlier) * refill ≡ length earlier * refill + refill = suc-mul (length earlier) refill in
      omega (arith, granted_most spec earlier, given.most, given.more, more)

  pub used_and_left_holds : UsedAndLeftByJob answer
  used_and_left_holds spec routed last =
      let way = passed_keeps last (after_events answer spec routed) in
      (omega (arith, left_for spec routed, way.steps), granted_most spec routed)

  -- ── all together ──

  sum_within : {X : Type 0} (f g : X → ℕ) → ((x : X) → f x ≤ g x) → (xs : List X) → sum_by f xs ≤ sum_by g xs
  sum_within f g each [] = omega arith
  sum_within f g each (x ∷ xs) = omega (arith, each x, sum_within f g each xs, sum_by-cons f x xs, sum_by-cons g x xs)

  pub all_within_holds : AllWithinByJob answer
  all_within_holds specs routed last =
      sum_within (λ (numbered : ℕ × Spec M). used answer numbered.1 (routed numbered.0) last)
      (λ (numbered : ℕ × Spec M). numbered.1.budget.total + granted_to answer numbered.1 (routed numbered.0))
      (λ numbered. let one = (used_and_left_holds numbered.1 (routed numbered.0) last).0 in omega (arith, one)) (enumerate_from 0 specs)
