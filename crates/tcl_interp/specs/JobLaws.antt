-- Steps. What holds of all jobs.
use Rattle.std.specs.Prelude.{◌≡◌, ℕ, suc, ◌<◌, Bool, true, List}
use Rattle.tcl_vars.specs.Store.{Store}
use Rattle.tcl_control.specs.declared.code.Code.{Code}
use Rattle.tcl_interp.specs.Outside.{Told}
use Rattle.tcl_interp.specs.Evaluation.{State, Outcome, Ended, OutOfSteps, and_then}
use Rattle.tcl_interp.specs.Plans.{run_at}
use Rattle.tcl_interp.specs.Acts.{script_meaning, task_meaning}
use Rattle.tcl_interp.specs.Scripts.{at_global}
use Rattle.tcl_interp.specs.declared.job.Looked.TheVariants.{Wants, Ends}
use Rattle.tcl_interp.specs.declared.job.Task.{Task}
use Rattle.tcl_interp.specs.declared.job.Task.TheVariants.{Begins, Runs, Invoked}
use Rattle.tcl_interp.specs.Course.{Course}
use Rattle.tcl_interp.specs.Tasks.{outside_of}
use Rattle.tcl_interp.specs.Meaning.{job_meaning, next_meaning, after_script}

-- what the commands of an object do that does jobs
abbrev pub Calls : Type 0 → Type 0 → Type 0
Calls S J = S → Store → List (List ℕ) → Told S (Task J)

-- how its scripts are run
abbrev pub runs : {S J : Type 0} → Course S J → Calls S J → ℕ → List ℕ → State S → Outcome S
runs course calls room = script_meaning (outside_of course calls) room

-- a job is what comes next of it, and so on
abbrev pub Unrolls : Type 0 → Type 0 → Type 0
Unrolls S J = (course : Course S J) (calls : Calls S J) (room : ℕ) (job : J) (state : State S)
    → job_meaning course calls room job state ≡ next_meaning course (runs course calls room) (job_meaning course calls room) job state

-- and nothing else is
abbrev pub Determined : Type 0 → Type 0 → Type 0
Determined S J = (course : Course S J) (calls : Calls S J) (room : ℕ) (done : J → State S → Outcome S)
    → ((job : J) (state : State S) → done job state ≡ next_meaning course (runs course calls room) done job state)
    → (job : J) (state : State S) → done job state ≡ job_meaning course calls room job state

-- tasks of a job go on with it
abbrev pub TasksGoOn : Type 0 → Type 0 → Type 0
TasksGoOn S J = (course : Course S J) (calls : Calls S J) (room : ℕ) (job : J) (state : State S) (code : Code) (text script : List ℕ)
    → (task_meaning (outside_of course calls) (runs course calls room) (Runs job) state code text
    ≡ (let there : S × J = course.ended code text state.shows job in job_meaning course calls room there.1 (record state { shows = there.0 })))
    × (task_meaning (outside_of course calls) (runs course calls room) (Begins script job) state code text
    ≡ and_then (run_at (runs course calls room) 1 script state) (after_script course (runs course calls room) (job_meaning course calls room) job))

-- a script whose end is the answer
abbrev pub Invoking : Type 0 → Type 0 → Type 0
Invoking S J = (course : Course S J) (calls : Calls S J) (room : ℕ) (state : State S) (code : Code) (text : List ℕ)
    → task_meaning (outside_of course calls) (runs course calls room) Invoked state code text ≡ at_global state code text

-- where something ends, fewer steps are left than this
abbrev pub EndsBelow : {S : Type 0} → ℕ → Outcome S → Type 0
EndsBelow n (Ended state code text) = state.steps < n
EndsBelow n (OutOfSteps state) = Unit {0}

abbrev pub StepsFall : Type 0 → Type 0 → Type 0
StepsFall S J = (course : Course S J) (calls : Calls S J) (room : ℕ) (job : J) (state : State S)
    → EndsBelow (suc state.steps) (job_meaning course calls room job state)
    × ((next : J) → (course.look state.shows state.store job).1 ≡ Wants next → EndsBelow state.steps (job_meaning course calls room job state))

-- what holds of a job holds of what each look, start and end make of it
pub record Keeps {S J : Type 0} (course : Course S J) (kind : J → Bool) : Type 0 where
  pub looks : (shows : S) (store : Store) (job next : J) → kind job ≡ true → (course.look shows store job).1 ≡ Wants next → kind next ≡ true
  pub starts : (shows : S) (store : Store) (job : J) → kind job ≡ true → kind (course.start shows store job).1.job ≡ true
  pub ends : (code : Code) (text : List ℕ) (shows : S) (job : J) → kind job ≡ true → kind (course.ended code text shows job).1 ≡ true

-- the last look left the state in which a job ended, and found nothing to do
pub record LookedLast {S J : Type 0} (course : Course S J) (kind : J → Bool) (code : Code) (text : List ℕ) (after : State S) : Type 0 where
  pub before : S
  pub last : J
  pub is_kind : kind last ≡ true
  pub found : course.look before after.store last ≡ (after.shows, Ends code text)

abbrev pub EndsLooked : Type 0 → Type 0 → Type 0
EndsLooked S J = (course : Course S J) (calls : Calls S J) (room : ℕ) (kind : J → Bool) → Keeps course kind
    → (job : J) (state after : State S) (code : Code) (text : List ℕ) → kind job ≡ true → job_meaning course calls room job state ≡ Ended after code text
    → LookedLast course kind code text after
