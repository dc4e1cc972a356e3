-- What jobs come to, from what comes next of them.
use Rattle.std.proofs.Common.{◌≡◌, ℕ, [], ◌∷◌, refl, sym, ◌∙◌}
use Rattle.std.specs.Prelude.{Option, Some, None}
use Rattle.tcl_interp.specs.Evaluation.{State}
use Rattle.tcl_interp.specs.JobLaws.{runs}
use Rattle.tcl_interp.specs.Meaning.{looked}
use Rattle.tcl_interp.proofs.Unrolled as jobs
use Rattle.tk_panel.specs.declared.job.Job.{Job}
use Rattle.tk_panel.specs.declared.job.Rest.TheVariants.{Destroys as DestroysRest, Rounds}
use Rattle.tk_panel.specs.Next.{next}
use Rattle.tk_panel.specs.Panel.{Panel}
use Rattle.tk_panel.specs.Settle.{Next}
use Rattle.tk_panel.specs.Start.{without_event}
use Rattle.tk_panel.specs.declared.job.Home.TheVariants.{Settle}
use Rattle.tk_commands.specs.Calls.{calls}
use Rattle.tk_commands.specs.Course.{course, event_job, looked_of, settling}
use Rattle.tk_commands.specs.Laws.{Begins, Destroys, Dispatches, Settles, comes_next, meaning, on_next, state_with_panel}

by_next : (room : ℕ) (job : Option Job) (state : State Panel) → looked course (runs course calls room) (meaning room) (looked_of job) state ≡ on_next room state job
by_next room None state = refl
by_next room (Some job) state = refl

comes : (room : ℕ) (job : Job) (state : State Panel) → meaning room job state ≡ comes_next room state (next job state.store state.shows)
comes room job state =
    let there : Next = next job state.store state.shows in
    jobs.unrolls course calls room job state ∙ by_next room there.1 (state_with_panel there.0 state)

pub settles : Settles
settles room ids home state = comes room (without_event (Rounds ids home)) state

pub destroys : Destroys
destroys room window doomed paths state = comes room (without_event (DestroysRest window doomed paths)) state

pub dispatches : Dispatches
dispatches room script scripts rest state = (
  comes room (event_job [] rest) state ∙ sym (comes room (without_event rest) state),
  comes room (event_job (script ∷ scripts) rest) state,
)

pub begins : Begins
begins room script text state code = (jobs.goes_on course calls room (settling Settle) state code text script).1
