-- Steps. What a job of an application comes to: what comes next of it, again and again.
use Rattle.std.specs.Prelude.{◌≡◌, ℕ, List, [], Option, Some, None}
use Rattle.tcl_control.specs.declared.code.Code.{Code}
use Rattle.tcl_control.specs.declared.code.Code.TheVariants.{Normal}
use Rattle.tcl_interp.specs.Evaluation.{State, Outcome, Ended, and_then, with_step}
use Rattle.tcl_interp.specs.Scripts.{out_of_global}
use Rattle.tcl_interp.specs.Meaning.{job_by, job_meaning}
use Rattle.tk_panel.specs.declared.job.Job.{Job}
use Rattle.tk_panel.specs.Next.{next}
use Rattle.tk_panel.specs.Panel.{Panel}
use Rattle.tk_panel.specs.Settle.{Next}
use Rattle.tk_panel.specs.Start.{start}
use Rattle.tk_commands.specs.Course.{ended}
use Rattle.tk_app.specs.Course.{seen_with_panel}
use Rattle.tk_app.specs.Dispatch.{RunsScripts, global_meaning}
use Rattle.tk_app.specs.Outside.{calls, course, run_in}
use Rattle.tk_app.specs.Seen.{Seen}

-- what a job comes to, where scripts are run so
abbrev pub meaning_by : RunsScripts → Job → State Seen → Outcome Seen
meaning_by run job state = job_by course calls run job state

-- the state with another panel, at the moment that it has
abbrev pub with_panel_but_moment : Panel → State Seen → State Seen
with_panel_but_moment panel state = record state { shows = seen_with_panel panel state.shows }

-- with room for so many scripts one in another
module _ (room : ℕ) where
  -- what a job comes to
  abbrev pub meaning : Job → State Seen → Outcome Seen
  meaning job state = job_meaning course calls room job state

  -- a script of a job has ended, and then the job goes on
  abbrev pub goes_on : Job → State Seen → Code → List ℕ → Outcome Seen
  goes_on job state code text =
      (let there : Panel × Job = ended (out_of_global code) text state.shows.panel job in meaning there.1 (with_panel_but_moment there.0 state))

  -- the step of what is next is taken, it starts, and its script runs
  abbrev pub starts : Job → State Seen → Outcome Seen
  starts job state =
      (let there : Panel × (List ℕ × Job) = start job state.shows.panel in and_then (global_meaning (run_in room) there.1.0 (with_panel_but_moment there.0 state)) (goes_on there.1.1))

  abbrev pub on_next : State Seen → Option Job → Outcome Seen
  on_next state None = Ended state Normal []
  on_next state (Some job) = with_step state (starts job)

  abbrev pub comes_next : State Seen → Next → Outcome Seen
  comes_next state there = on_next (with_panel_but_moment there.0 state) there.1

-- what a job comes to is what comes next of it
abbrev pub GoesByNext : Type 0
GoesByNext = (room : ℕ) (job : Job) (state : State Seen) → meaning room job state ≡ comes_next room state (next job state.store state.shows.panel)
