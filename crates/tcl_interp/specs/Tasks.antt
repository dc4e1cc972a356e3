-- Steps. The tasks of jobs, as outside commands of an interpreter.
use Rattle.std.specs.Prelude.{ℕ, List}
use Rattle.tcl_vars.specs.Store.{Store}
use Rattle.tcl_control.specs.declared.code.Code.{Code}
use Rattle.tcl_control.specs.declared.code.Code.TheVariants.{Error, Break, Continue}
use Rattle.tcl_table.specs.Texts.{break_outside, continue_outside}
use Rattle.tcl_interp.specs.declared.tasks.Act.{Act}
use Rattle.tcl_interp.specs.declared.tasks.Act.TheVariants.{Done, Step, Run}
use Rattle.tcl_interp.specs.Outside.{Outside, Told}
use Rattle.tcl_interp.specs.declared.job.Looked.{Looked}
use Rattle.tcl_interp.specs.declared.job.Looked.TheVariants.{Wants, Ends}
use Rattle.tcl_interp.specs.declared.job.Started.{Started}
use Rattle.tcl_interp.specs.declared.job.Task.{Task}
use Rattle.tcl_interp.specs.declared.job.Task.TheVariants.{Begins, Waits, Runs, Invoked}
use Rattle.tcl_interp.specs.Course.{Course}

-- what comes next waits for its step
abbrev pub act_of : {J : Type 0} → Looked J → Act (Task J)
act_of (Wants job) = Step (Waits job)
act_of (Ends code text) = Done code text

-- what is started runs its script
abbrev pub act_started : {J : Type 0} → Started J → Act (Task J)
act_started started = Run started.script (Runs started.job)

-- the answer of a script at global level, where there is no loop around it
abbrev pub global_act : {J : Type 0} → Code → List ℕ → Act (Task J)
global_act Break text = Done Error break_outside
global_act Continue text = Done Error continue_outside
global_act code text = Done code text

-- an act, where no variable has changed
abbrev pub told : {S J : Type 0} → S → Store → Act (Task J) → Told S (Task J)
told shows store act = record { shows = shows; store = store; act = act }

-- a script that a task runs makes it smaller
abbrev pub size_of : {J : Type 0} → Task J → ℕ
size_of (Begins script job) = 1
size_of (Waits job) = 1
size_of (Runs job) = 0
size_of Invoked = 0

module _ {S J : Type 0} (course : Course S J) where
  -- what comes next of a job
  abbrev pub looked_told : S → Store → J → Told S (Task J)
  looked_told shows store job = (let there : S × Looked J = course.look shows store job in told there.0 store (act_of there.1))

  -- what a job waited for starts
  abbrev pub started_told : S → Store → J → Told S (Task J)
  started_told shows store job = (let there : S × Started J = course.start shows store job in told there.0 store (act_started there.1))

  -- a script of a job has ended
  abbrev pub ended_told : Code → List ℕ → S → Store → J → Told S (Task J)
  ended_told code text shows store job = (let there : S × J = course.ended code text shows job in looked_told there.0 store there.1)

  abbrev pub resumes_of : S → Store → Task J → Code → List ℕ → Told S (Task J)
  resumes_of shows store (Begins script job) code text = told shows store (Run script (Runs job))
  resumes_of shows store (Waits job) code text = started_told shows store job
  resumes_of shows store (Runs job) code text = ended_told code text shows store job
  resumes_of shows store Invoked code text = told shows store (global_act code text)

  -- the outside commands of an object whose commands do this, and whose tasks are those of its jobs
  abbrev pub outside_of : (S → Store → List (List ℕ) → Told S (Task J)) → Outside S (Task J)
  outside_of calls = record {
    calls = λ shows store words. calls shows store words;
    resumes = λ shows store task code text. resumes_of shows store task code text;
    size = λ task. size_of task;
  }
