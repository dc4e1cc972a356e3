-- What a job leaves: fewer steps, and a state in which nothing came next.
use Rattle.std.proofs.Common.{◌≡◌, ℕ, zero, suc, ◌≤◌, ◌<◌, Bool, true, List, refl, sym, ap, subst, arith}
use Rattle.tcl_vars.specs.Store.{Store}
use Rattle.tcl_control.specs.declared.code.Code.{Code}
use Rattle.tcl_control.specs.declared.context.Context.{Context}
use Rattle.tcl_interp.specs.Evaluation.{State, Outcome, Ended, OutOfSteps, and_then}
use Rattle.tcl_interp.specs.Plans.{run_at}
use Rattle.tcl_interp.specs.Acts.{script_meaning}
use Rattle.tcl_interp.specs.Scripts.{out_of_global}
use Rattle.tcl_interp.proofs.Bounds.{Within, within_run_at, within_script}
use Rattle.tcl_interp.specs.declared.job.Looked.{Looked}
use Rattle.tcl_interp.specs.declared.job.Looked.TheVariants.{Wants, Ends}
use Rattle.tcl_interp.specs.declared.job.Started.{Started}
use Rattle.tcl_interp.specs.Course.{Course}
use Rattle.tcl_interp.specs.Tasks.{outside_of}
use Rattle.tcl_interp.specs.Meaning.{job_meaning, looked, after_script}
use Rattle.tcl_interp.specs.JobLaws.{Calls, EndsBelow, StepsFall, Keeps, LookedLast, EndsLooked}
use Rattle.tcl_interp.proofs.Unrolled.{unrolled}

-- ── steps ──

below_more : {S : Type 0} (m n : ℕ) (o : Outcome S) → m ≤ n → EndsBelow m o → EndsBelow n o
below_more m n (Ended state code text) le below = omega arith
below_more m n (OutOfSteps state) le below = tt

below_then : {S : Type 0} (n : ℕ) (o : Outcome S) (f : State S → Code → List ℕ → Outcome S) → Within n o
    → ((state : State S) (code : Code) (text : List ℕ) → state.steps ≤ n → EndsBelow (suc n) (f state code text)) → EndsBelow (suc n) (and_then o f)
below_then n (Ended state code text) f within below = below state code text within
below_then n (OutOfSteps state) f within below = tt

-- ── the last look ──

-- where a job ends, its last look found nothing to do
abbrev Last : {S J : Type 0} → Course S J → (J → Bool) → Outcome S → Type 0
Last course kind (Ended after code text) = LookedLast course kind code text after
Last course kind (OutOfSteps after) = Unit {0}

last_then : {S J : Type 0} (course : Course S J) (kind : J → Bool) (n : ℕ) (o : Outcome S) (f : State S → Code → List ℕ → Outcome S) → Within n o
    → ((state : State S) (code : Code) (text : List ℕ) → state.steps ≤ n → Last course kind (f state code text)) → Last course kind (and_then o f)
last_then course kind n (Ended state code text) f within last = last state code text within
last_then course kind n (OutOfSteps state) f within last = tt

module _ {S J : Type 0} (course : Course S J) (calls : Calls S J) (room : ℕ) where
  abbrev run : List ℕ → State S → Outcome S
  run = script_meaning (outside_of course calls) room

  abbrev meaning : J → State S → Outcome S
  meaning = job_meaning course calls room

  abbrev state_with : S → Store → Context → ℕ → State S
  state_with shows store context steps = record { shows = shows; store = store; context = context; steps = steps }

  within_started : (left : ℕ) (script : List ℕ) (state : State S) → state.steps ≤ left → Within left (run_at run 1 script state)
  within_started left script state le = within_run_at run (within_script (outside_of course calls) room) left 1 script state le

  -- a step is taken, so fewer are left
  started_below : (left : ℕ) → ((job : J) (state : State S) → state.steps ≤ left → EndsBelow (suc state.steps) (meaning job state))
      → (job : J) (shows : S) (store : Store) (context : Context) → EndsBelow (suc left) (looked course run meaning (Wants job) (state_with shows store context (suc left)))
  started_below left before job shows store context =
      let there : S × Started J = course.start shows store job in
      let state : State S = state_with there.0 store context left in
      below_then left (run_at run 1 there.1.script state) (after_script course run meaning there.1.job) (within_started left there.1.script state (omega arith))
      (λ after code text le.
      let next : S × J = course.ended (out_of_global code) text after.shows there.1.job in
      below_more (suc after.steps) (suc left) _ (omega arith) (before next.1 (record after { shows = next.0 }) le))

  wanted_below : (steps : ℕ) → ((job : J) (state : State S) → state.steps < steps → EndsBelow (suc state.steps) (meaning job state))
      → (job : J) (shows : S) (store : Store) (context : Context) → EndsBelow steps (looked course run meaning (Wants job) (state_with shows store context steps))
  wanted_below zero before job shows store context = tt
  wanted_below (suc left) before job shows store context = started_below left (λ job' state' le. before job' state' (omega arith)) job shows store context

  looked_below : (found : Looked J) (steps : ℕ) → ((job : J) (state : State S) → state.steps < steps → EndsBelow (suc state.steps) (meaning job state))
      → (shows : S) (store : Store) (context : Context) → EndsBelow (suc steps) (looked course run meaning found (state_with shows store context steps))
  looked_below (Ends code text) steps before shows store context = omega arith
  looked_below (Wants job) steps before shows store context = below_more steps (suc steps) _ (omega arith) (wanted_below steps before job shows store context)

  steps_by : (n : ℕ) (job : J) (state : State S) → state.steps < n → EndsBelow (suc state.steps) (meaning job state)
  steps_by zero job state less = absurd (omega arith)
  steps_by (suc n) job state less =
      let there : S × Looked J = course.look state.shows state.store job in
      subst (λ o. EndsBelow (suc state.steps) o) (sym (unrolled course calls room job state))
      (looked_below there.1 state.steps (λ job' state' less'. steps_by n job' state' (omega arith)) there.0 state.store state.context)

  pub fewer : (job next : J) (state : State S) → (course.look state.shows state.store job).1 ≡ Wants next → EndsBelow state.steps (meaning job state)
  fewer job next state is =
      let there : S × Looked J = course.look state.shows state.store job in
      subst (λ o. EndsBelow state.steps o) (sym (unrolled course calls room job state))
      (subst (λ found. EndsBelow state.steps (looked course run meaning found (record state { shows = there.0 }))) (sym is)
      (wanted_below state.steps (λ job' state' less. steps_by (suc state'.steps) job' state' (omega arith)) next there.0 state.store state.context))

  pub no_more : (job : J) (state : State S) → EndsBelow (suc state.steps) (meaning job state)
  no_more job state = steps_by (suc state.steps) job state (omega arith)

  module _ (kind : J → Bool) (keeps : Keeps course kind) where
    last_started : (left : ℕ) → ((job : J) (state : State S) → state.steps ≤ left → kind job ≡ true → Last course kind (meaning job state))
        → (job : J) (shows : S) (store : Store) (context : Context) → kind job ≡ true → Last course kind (looked course run meaning (Wants job) (state_with shows store context (suc left)))
    last_started left before job shows store context is =
        let there : S × Started J = course.start shows store job in
        let state : State S = state_with there.0 store context left in
        last_then course kind left (run_at run 1 there.1.script state) (after_script course run meaning there.1.job) (within_started left there.1.script state (omega arith))
        (λ after code text le.
        let next : S × J = course.ended (out_of_global code) text after.shows there.1.job in
        before next.1 (record after { shows = next.0 }) le (keeps.ends (out_of_global code) text after.shows there.1.job (keeps.starts shows store job is)))

    last_looked : (found : Looked J) (steps : ℕ) → ((job : J) (state : State S) → state.steps < steps → kind job ≡ true → Last course kind (meaning job state))
        → (job : J) (shows : S) (store : Store) (context : Context) → kind job ≡ true → (course.look shows store job).1 ≡ found
        → Last course kind (looked course run meaning found (state_with (course.look shows store job).0 store context steps))
    last_looked (Ends code text) steps before job shows store context is found =
        record { before = shows; last = job; is_kind = is; found = ap (λ (l : Looked J). ((course.look shows store job).0, l)) found }
    last_looked (Wants next) zero before job shows store context is found = tt
    last_looked (Wants next) (suc left) before job shows store context is found =
        last_started left (λ job' state' le. before job' state' (omega arith)) next (course.look shows store job).0 store context (keeps.looks shows store job next is found)

    last_by : (n : ℕ) (job : J) (state : State S) → state.steps < n → kind job ≡ true → Last course kind (meaning job state)
    last_by zero job state less is = absurd (omega arith)
    last_by (suc n) job state less is =
        subst (λ o. Last course kind o) (sym (unrolled course calls room job state))
        (last_looked (course.look state.shows state.store job).1 state.steps (λ job' state' less'. last_by n job' state' (omega arith)) job state.shows state.store state.context is refl)

    pub last_of : (job : J) (state : State S) → kind job ≡ true → Last course kind (meaning job state)
    last_of job state is = last_by (suc state.steps) job state (omega arith) is

pub steps_fall : {S J : Type 0} → StepsFall S J
steps_fall course calls room job state = (no_more course calls room job state, λ next is. fewer course calls room job next state is)

pub ends_looked : {S J : Type 0} → EndsLooked S J
ends_looked course calls room kind keeps job state after code text is ends = subst (λ o. Last course kind o) ends (last_of course calls room kind keeps job state is)
