-- Steps. For who runs applications turn by turn (`Shared`, `AppView`, a host's turns): a part, an application with what is under way in it, and what it
-- comes to once that is done. What is under way is the interpreter's (`Work`, `Finish` of tcl_interp: steps). What becomes of an application by itself
-- needs no part, and stands in `Moments`.
use Rattle.std.specs.Prelude.{◌≡◌, ℕ, ◌-◌, Bool, true, false, List, [], ◌∷◌}
use Rattle.tcl_control.specs.declared.code.Code.TheVariants.{Normal}
use Rattle.tcl_interp.specs.Finish.{Doing, Resumes, Waiting, RestToDo, Running as RestRunning, Idle, Spent, Broken, finish}
use Rattle.tcl_interp.specs.declared.job.Task.{Task}
use Rattle.tcl_interp.specs.declared.job.Task.TheVariants as task
use Rattle.tk_panel.specs.declared.job.Job.{Job}
use Rattle.tk_app.specs.declared.state.AppState.{AppState}
use Rattle.tk_app.specs.declared.state.AppState.TheVariants.{Running, Exhausted, Closed}
use Rattle.tk_app.specs.Application.{Application, fresh}
use Rattle.tk_app.specs.Moments.{after_outcome, state_in}
use Rattle.tk_app.specs.MomentsByJob.{settled, started}
use Rattle.tk_app.specs.Outside.{outside}
use Rattle.tk_app.specs.Seen.{Meaning}
use Rattle.tk_app.specs.SettleJob.{settling}
use Rattle.tk_app.specs.Spec.{Spec}
use Rattle.tcl_text.specs.Limits.{most_running}

-- What is under way: nothing, or what is done now, with the levels that it is done at, and what waits for it, innermost first.
pub data Work : Type 0 where
  Rests : Work
  Goes : List ℕ → Doing (Task Job) → List (Waiting (Task Job)) → Work

pub record Part (M : Type 0) : Type 0 where
  pub application : Application M
  pub work : Work

-- a task alone, at global level
abbrev pub task_begins : Task Job → Work
task_begins task = Goes (0 ∷ []) (Resumes most_running task Normal []) []

-- settling begins, where nothing is under way and the application runs
abbrev pub settling_as : AppState → Work → Work
settling_as Running Rests = task_begins (task.Runs settling)
settling_as Running (Goes levels doing waits) = Goes levels doing waits
settling_as Exhausted work = work
settling_as Closed work = work

-- whether something is under way
abbrev pub is_under_way : Work → Bool
is_under_way Rests = false
is_under_way (Goes levels doing waits) = true

-- what is under way in an interpreter, at these levels
abbrev pub work_of : RestToDo (Task Job) → List ℕ → Work
work_of Idle levels = Rests
work_of (RestRunning doing waits) levels = Goes levels doing waits
work_of Spent levels = Rests
work_of Broken levels = Rests

module _ {M : Type 0} where
  -- an application before its script, with the script as what is to be done
  abbrev pub added : Spec M → Part M
  added spec = record { application = fresh spec; work = task_begins (task.Begins spec.script settling) }

  abbrev pub settling_begun : Part M → Part M
  settling_begun part = record part { work = settling_as part.application.state part.work }

module _ {M : Type 0} (answer : M → Meaning) where
  -- ── what is under way ──

  -- what is under way has been done, at a moment
  abbrev pub done_as : ℕ → Work → Application M → Part M
  done_as moment Rests application = record { application = application; work = Rests }
  done_as moment (Goes levels doing waits) application =
      record { application = after_outcome (finish outside (RestRunning doing waits) (state_in answer levels moment application)) application; work = Rests }

  unfoldable pub stage_done : ℕ → Part M → Part M
  stage_done moment part = done_as moment part.work part.application

  -- how many steps that takes
  abbrev pub needs : ℕ → Part M → ℕ
  needs moment part = part.application.steps - (stage_done moment part).application.steps

  -- ── laws ──

  -- what settles from rest is settled
  abbrev pub SettlesFromRest : Type 0
  SettlesFromRest = (moment : ℕ) (application : Application M)
      → stage_done moment (settling_begun (record { application = application; work = Rests }))
      ≡ record { application = settled answer moment application; work = Rests }

  -- an application begins with its script, and then settles
  abbrev pub BeginsWithScript : Type 0
  BeginsWithScript = (moment : ℕ) (spec : Spec M)
      → stage_done moment (added spec) ≡ record { application = started answer moment spec.script (fresh spec); work = Rests }
