-- What a job comes to is what comes next of it.
use Rattle.std.proofs.Common.{◌≡◌, ℕ, refl, ◌∙◌}
use Rattle.std.specs.Prelude.{Option, Some, None}
use Rattle.tcl_interp.specs.Evaluation.{State}
use Rattle.tcl_interp.specs.JobLaws.{runs}
use Rattle.tcl_interp.specs.Meaning.{looked}
use Rattle.tcl_interp.proofs.Unrolled as jobs
use Rattle.tk_panel.specs.declared.job.Job.{Job}
use Rattle.tk_panel.specs.Next.{next}
use Rattle.tk_panel.specs.Settle.{Next}
use Rattle.tk_commands.specs.Course.{looked_of}
use Rattle.tk_app.specs.Jobs.{GoesByNext, meaning, on_next, with_panel_but_moment}
use Rattle.tk_app.specs.Outside.{calls, course}
use Rattle.tk_app.specs.Seen.{Seen}

-- what is next of a job, where it ends or takes a step
by_next : (room : ℕ) (job : Option Job) (state : State Seen) → looked course (runs course calls room) (meaning room) (looked_of job) state ≡ on_next room state job
by_next room None state = refl
by_next room (Some job) state = refl

pub goes_by_next : GoesByNext
goes_by_next room job state =
    let there : Next = next job state.store state.shows.panel in
    jobs.unrolls course calls room job state ∙ by_next room there.1 (with_panel_but_moment there.0 state)
