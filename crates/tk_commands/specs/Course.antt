-- Steps. The course of an application's jobs: what comes next of each, what that starts, and what the end of a script makes of it. What jobs come to,
-- the equations of tk_app say (`Settles`, `Dispatches`, `Destroys`).
use Rattle.std.specs.Prelude.{ℕ, List, [], Option, Some, None}
use Rattle.tcl_vars.specs.Store.{Store}
use Rattle.tcl_control.specs.declared.code.Code.{Code}
use Rattle.tcl_control.specs.declared.code.Code.TheVariants.{Normal, Error, Return, Break, Continue}
use Rattle.tcl_interp.specs.declared.job.Looked.{Looked}
use Rattle.tcl_interp.specs.declared.job.Looked.TheVariants.{Wants, Ends}
use Rattle.tcl_interp.specs.declared.job.Started.{Started}
use Rattle.tcl_interp.specs.Course.{Course}
use Rattle.tk_panel.specs.declared.job.Home.{Home}
use Rattle.tk_panel.specs.declared.job.Home.TheVariants.{IdleTasks, Update}
use Rattle.tk_panel.specs.declared.job.Job.{Job}
use Rattle.tk_panel.specs.declared.job.Rest.{Rest}
use Rattle.tk_panel.specs.declared.job.Rest.TheVariants as behind
use Rattle.tk_panel.specs.declared.transcript.Stream.TheVariants.{Err as Errors}
use Rattle.tk_panel.specs.Choice.{chosen}
use Rattle.tk_panel.specs.Next.{next}
use Rattle.tk_panel.specs.Panel.{Panel}
use Rattle.tk_panel.specs.Reports.{with_line}
use Rattle.tk_panel.specs.Settle.{Next}
use Rattle.tk_panel.specs.Start.{start, without_event}
use Rattle.tk_commands.specs.declared.outcome.Begun.{Begun}
use Rattle.tk_commands.specs.declared.outcome.Begun.TheVariants as begun
pub use Rattle.tk_commands.specs.Ends.{with_end}

-- ── what comes next, and what it starts ──

-- a job that has nothing more ends, with the empty text
abbrev pub looked_of : Option Job → Looked Job
looked_of (Some job) = Wants job
looked_of None = Ends Normal []

abbrev pub look : Panel → Store → Job → Panel × Looked Job
look panel store job = (let there : Next = next job store panel in (there.0, looked_of there.1))

abbrev pub job_started : Panel → Store → Job → Panel × Started Job
job_started panel store job = (let there : Panel × (List ℕ × Job) = start job panel in (there.0, record { script = there.1.0; job = there.1.1 }))

-- ── how a script has ended ──

-- the scripts of an event that are still to run, and what comes behind them
abbrev pub event_job : List (List ℕ) → Rest → Job
event_job scripts rest = record { event = Some scripts; rest = rest }

-- A bound script: continue goes on to the next one, break ends the event, and so does an error, which is told (bind(n)).
abbrev pub bound_ended : Code → List ℕ → List (List ℕ) → Rest → Panel → Panel × Job
bound_ended Normal text scripts rest panel = (panel, event_job scripts rest)
bound_ended Error text scripts rest panel = (with_line Errors text panel, event_job [] rest)
bound_ended (Return code) text scripts rest panel = (panel, event_job scripts rest)
bound_ended Break text scripts rest panel = (panel, event_job [] rest)
bound_ended Continue text scripts rest panel = (panel, event_job scripts rest)

abbrev pub ended_by : Option (List (List ℕ)) → Rest → Code → List ℕ → Panel → Panel × Job
ended_by (Some scripts) rest code text panel = bound_ended code text scripts rest panel
ended_by None rest code text panel = (with_end code text panel, without_event rest)

abbrev pub ended : Code → List ℕ → Panel → Job → Panel × Job
ended code text panel job = ended_by job.event job.rest code text panel

-- ── what commands begin ──

-- what is to be done at the moment, where nothing is under way
abbrev pub settling : Home → Job
settling home = without_event (behind.Rounds [] home)

-- the windows of these paths are to be destroyed
abbrev pub destroying : List (List ℕ) → Job
destroying paths = without_event (behind.Destroys None [] paths)

-- the job of what a command begins: the scripts of an event are chosen then
abbrev pub job_of : Begun → Panel → Panel × Job
job_of begun.Updates panel = (panel, settling Update)
job_of begun.UpdatesIdleTasks panel = (panel, settling IdleTasks)
job_of (begun.Destroys paths) panel = (panel, destroying paths)
job_of (begun.Dispatches event) panel = (let there : Panel × List (List ℕ) = chosen event panel in (there.0, event_job there.1 behind.Ends))

-- ── all ──

abbrev pub course : Course Panel Job
course = record {
  look = λ panel store job. look panel store job;
  start = λ panel store job. job_started panel store job;
  ended = λ code text panel job. ended code text panel job;
}
