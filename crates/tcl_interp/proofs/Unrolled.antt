-- A job by its tasks is what comes next of it, and nothing else is.
use Rattle.std.proofs.Common.{◌≡◌, ℕ, zero, suc, ◌≤◌, ◌<◌, List, [], refl, sym, ◌∙◌, arith}
use Rattle.tcl_vars.specs.Store.{Store}
use Rattle.tcl_control.specs.declared.code.Code.{Code}
use Rattle.tcl_control.specs.declared.code.Code.TheVariants.{Normal, Error, Return, Break, Continue}
use Rattle.tcl_control.specs.declared.context.Context.{Context}
use Rattle.tcl_interp.specs.Outside.{Outside}
use Rattle.tcl_interp.specs.Evaluation.{State, Outcome, OutOfSteps, and_then}
use Rattle.tcl_interp.specs.Plans.{run_at}
use Rattle.tcl_interp.specs.Acts.{script_meaning, on_act, after_step, act_meaning, task_meaning}
use Rattle.tcl_interp.specs.Scripts.{out_of_global, at_global}
use Rattle.tcl_interp.proofs.Bounds.{Bounded, and_then_same, stepped_same, within_run_at, within_script, after_step_same}
use Rattle.tcl_interp.specs.declared.job.Looked.{Looked}
use Rattle.tcl_interp.specs.declared.job.Looked.TheVariants.{Wants, Ends}
use Rattle.tcl_interp.specs.declared.job.Started.{Started}
use Rattle.tcl_interp.specs.declared.job.Task.{Task}
use Rattle.tcl_interp.specs.declared.job.Task.TheVariants.{Begins, Waits, Runs, Invoked}
use Rattle.tcl_interp.specs.Course.{Course}
use Rattle.tcl_interp.specs.Tasks.{act_of, outside_of}
use Rattle.tcl_interp.specs.Falls.{jobs_fall}
use Rattle.tcl_interp.specs.Meaning.{job_meaning, next_meaning, looked, after_script}
use Rattle.tcl_interp.specs.JobLaws.{Calls, Unrolls, Determined, TasksGoOn, Invoking}

module _ {S J : Type 0} (course : Course S J) (calls : Calls S J) (room : ℕ) where
  abbrev outside : Outside S (Task J)
  outside = outside_of course calls

  abbrev run : List ℕ → State S → Outcome S
  run = script_meaning outside room

  abbrev meaning : J → State S → Outcome S
  meaning = job_meaning course calls room

  abbrev state_with : S → Store → Context → ℕ → State S
  state_with shows store context steps = record { shows = shows; store = store; context = context; steps = steps }

  run_falls : Bounded run
  run_falls = within_script outside room

  -- how a task goes on after a step, in so many iterations
  abbrev on_step : ℕ → Task J → State S → Outcome S
  on_step iterations = after_step outside run iterations

  -- what was looked for comes to the same whatever bounds its iterations, and runs no script by itself
  act_same : (iterations : ℕ) (found : Looked J) (state : State S) → state.steps ≤ iterations
      → on_act run (on_step iterations) (λ _ state' _ _. OutOfSteps state') [] state (act_of found) ≡ act_meaning outside run [] state (act_of found)
  act_same iterations (Ends code text) state le = refl
  act_same iterations (Wants job) state le =
      stepped_same state.steps state (on_step iterations (Waits job)) (on_step state.steps (Waits job))
      (λ state' less. after_step_same outside run run_falls (jobs_fall course calls) iterations state.steps (Waits job) state' (omega arith) less)

  by_look : (found : Looked J) (shows : S) (store : Store) (context : Context) (steps : ℕ)
      → act_meaning outside run [] (state_with shows store context steps) (act_of found) ≡ looked course run meaning found (state_with shows store context steps)
  by_look (Ends code text) shows store context steps = refl
  by_look (Wants job) shows store context zero = refl
  by_look (Wants job) shows store context (suc left) =
      let there : S × Started J = course.start shows store job in
      let state : State S = state_with there.0 store context left in
      and_then_same left (run_at run 1 there.1.script state) _ (after_script course run meaning there.1.job) (within_run_at run run_falls left 1 there.1.script state (omega arith))
      (λ after code text le.
      let next : S × J = course.ended (out_of_global code) text after.shows there.1.job in
      act_same left (course.look next.0 after.store next.1).1 (record after { shows = (course.look next.0 after.store next.1).0 }) le)

  pub unrolled : (job : J) (state : State S) → meaning job state ≡ next_meaning course run meaning job state
  unrolled job state = let there : S × Looked J = course.look state.shows state.store job in by_look there.1 there.0 state.store state.context state.steps

  -- what comes next, where jobs with fewer steps come to the same
  next_same : (f g : J → State S → Outcome S) (found : Looked J) (shows : S) (store : Store) (context : Context) (steps : ℕ)
      → ((job : J) (state : State S) → state.steps < steps → f job state ≡ g job state)
      → looked course run f found (state_with shows store context steps) ≡ looked course run g found (state_with shows store context steps)
  next_same f g (Ends code text) shows store context steps same = refl
  next_same f g (Wants job) shows store context zero same = refl
  next_same f g (Wants job) shows store context (suc left) same =
      let there : S × Started J = course.start shows store job in
      let state : State S = state_with there.0 store context left in
      and_then_same left (run_at run 1 there.1.script state) (after_script course run f there.1.job) (after_script course run g there.1.job) (within_run_at run run_falls left 1 there.1.script state (omega arith))
      (λ after code text le. let next : S × J = course.ended (out_of_global code) text after.shows there.1.job in same next.1 (record after { shows = next.0 }) (omega arith))

  module _ (done : J → State S → Outcome S) (is : (job : J) (state : State S) → done job state ≡ next_meaning course run done job state) where
    same_by : (n : ℕ) (job : J) (state : State S) → state.steps < n → done job state ≡ meaning job state
    same_by zero job state less = absurd (omega arith)
    same_by (suc n) job state less =
        let there : S × Looked J = course.look state.shows state.store job in
        is job state
        ∙ next_same done meaning there.1 there.0 state.store state.context state.steps (λ job' state' less'. same_by n job' state' (omega arith))
        ∙ sym (unrolled job state)

  -- a job that is resumed behind a script
  pub resumed_same : (job : J) (state : State S) (code : Code) (text : List ℕ)
      → task_meaning outside run (Runs job) state code text ≡ (let there : S × J = course.ended code text state.shows job in meaning there.1 (record state { shows = there.0 }))
  resumed_same job state code text =
      let next : S × J = course.ended code text state.shows job in
      act_same state.steps (course.look next.0 state.store next.1).1 (record state { shows = (course.look next.0 state.store next.1).0 }) (omega arith)

  pub begun_same : (script : List ℕ) (job : J) (state : State S) (code : Code) (text : List ℕ)
      → task_meaning outside run (Begins script job) state code text ≡ and_then (run_at run 1 script state) (after_script course run meaning job)
  begun_same script job state code text =
      and_then_same state.steps (run_at run 1 script state) _ (after_script course run meaning job) (within_run_at run run_falls state.steps 1 script state (omega arith))
      (λ after code' text' le.
      let next : S × J = course.ended (out_of_global code') text' after.shows job in
      act_same state.steps (course.look next.0 after.store next.1).1 (record after { shows = (course.look next.0 after.store next.1).0 }) le)

  pub invoked_same : (state : State S) (code : Code) (text : List ℕ) → task_meaning outside run Invoked state code text ≡ at_global state code text
  invoked_same state Normal text = refl
  invoked_same state Error text = refl
  invoked_same state (Return code) text = refl
  invoked_same state Break text = refl
  invoked_same state Continue text = refl

pub unrolls : {S J : Type 0} → Unrolls S J
unrolls course calls room job state = unrolled course calls room job state

pub determined : {S J : Type 0} → Determined S J
determined course calls room done is job state = same_by course calls room done is (suc state.steps) job state (omega arith)

pub goes_on : {S J : Type 0} → TasksGoOn S J
goes_on course calls room job state code text script = (resumed_same course calls room job state code text, begun_same course calls room script job state code text)

pub invoking : {S J : Type 0} → Invoking S J
invoking course calls room state code text = invoked_same course calls room state code text
