-- Steps. What jobs come to, big-step.
use Rattle.std.specs.Prelude.{◌≡◌, ℕ, List, [], ◌∷◌, Option, Some, None}
use Rattle.tcl_control.specs.declared.code.Code.{Code}
use Rattle.tcl_control.specs.declared.code.Code.TheVariants.{Normal}
use Rattle.tcl_interp.specs.Evaluation.{State, Outcome, Ended, and_then, with_step}
use Rattle.tcl_interp.specs.Plans.{run_at}
use Rattle.tcl_interp.specs.Acts.{task_meaning}
use Rattle.tcl_interp.specs.Scripts.{out_of_global}
use Rattle.tcl_interp.specs.declared.job.Task.TheVariants as task
use Rattle.tcl_interp.specs.JobLaws.{runs}
use Rattle.tcl_interp.specs.Meaning.{job_meaning}
use Rattle.tcl_interp.specs.Tasks.{outside_of}
use Rattle.tk_panel.specs.declared.job.Home.{Home}
use Rattle.tk_panel.specs.declared.job.Home.TheVariants.{Settle}
use Rattle.tk_panel.specs.declared.job.Job.{Job}
use Rattle.tk_panel.specs.declared.job.Rest.{Rest}
use Rattle.tk_panel.specs.declared.job.Rest.TheVariants.{Destroys as DestroysRest, Rounds}
use Rattle.tk_panel.specs.Destroy.{destroy_next}
use Rattle.tk_panel.specs.Panel.{Panel}
use Rattle.tk_panel.specs.Settle.{Next, rounds_next}
use Rattle.tk_panel.specs.Start.{start, without_event}
use Rattle.tk_commands.specs.Calls.{calls}
use Rattle.tk_commands.specs.Course.{bound_ended, course, ended, event_job, settling, with_end}

-- a script at global level, with room for so many scripts one in another
abbrev pub at_global : ℕ → List ℕ → State Panel → Outcome Panel
at_global room script state = run_at (runs course calls room) 1 script state

-- what a job comes to
abbrev pub meaning : ℕ → Job → State Panel → Outcome Panel
meaning room job state = job_meaning course calls room job state

abbrev pub state_with_panel : Panel → State Panel → State Panel
state_with_panel panel state = record state { shows = panel }

-- ── what comes next, again and again ──

-- a script of a job has ended, and then the job goes on
abbrev pub goes_on : ℕ → Job → State Panel → Code → List ℕ → Outcome Panel
goes_on room job state code text =
    (let there : Panel × Job = ended (out_of_global code) text state.shows job in meaning room there.1 (state_with_panel there.0 state))

-- the step of what is next is taken, it starts, and its script runs
abbrev pub starts : ℕ → Job → State Panel → Outcome Panel
starts room job state =
    (let there : Panel × (List ℕ × Job) = start job state.shows in
    and_then (at_global room there.1.0 (state_with_panel there.0 state)) (goes_on room there.1.1))

abbrev pub on_next : ℕ → State Panel → Option Job → Outcome Panel
on_next room state None = Ended state Normal []
on_next room state (Some job) = with_step state (starts room job)

abbrev pub comes_next : ℕ → State Panel → Next → Outcome Panel
comes_next room state there = on_next room (state_with_panel there.0 state) there.1

-- ── events ──

-- behind a script of an event come the others, or what is behind the event
abbrev pub after_bound : ℕ → List (List ℕ) → Rest → State Panel → Code → List ℕ → Outcome Panel
after_bound room scripts rest state code text =
    (let there : Panel × Job = bound_ended (out_of_global code) text scripts rest state.shows in meaning room there.1 (state_with_panel there.0 state))

abbrev pub Dispatches : Type 0
Dispatches = (room : ℕ) (script : List ℕ) (scripts : List (List ℕ)) (rest : Rest) (state : State Panel)
    → (meaning room (event_job [] rest) state ≡ meaning room (without_event rest) state)
    × (meaning room (event_job (script ∷ scripts) rest) state
    ≡ with_step state (λ state. and_then (at_global room script state) (after_bound room scripts rest)))

-- ── moments and windows ──

abbrev pub Settles : Type 0
Settles = (room : ℕ) (ids : List ℕ) (home : Home) (state : State Panel)
    → meaning room (without_event (Rounds ids home)) state ≡ comes_next room state (rounds_next ids home state.store state.shows)

abbrev pub Destroys : Type 0
Destroys = (room : ℕ) (window : Option ℕ) (doomed : List ℕ) (paths : List (List ℕ)) (state : State Panel)
    → meaning room (without_event (DestroysRest window doomed paths)) state ≡ comes_next room state (destroy_next window doomed paths state.shows)

-- ── the beginning ──

abbrev pub after_script : ℕ → State Panel → Code → List ℕ → Outcome Panel
after_script room state code text = meaning room (settling Settle) (state_with_panel (with_end (out_of_global code) text state.shows) state)

abbrev pub Begins : Type 0
Begins = (room : ℕ) (script text : List ℕ) (state : State Panel) (code : Code)
    → task_meaning (outside_of course calls) (runs course calls room) (task.Begins script (settling Settle)) state code text
    ≡ and_then (at_global room script state) (after_script room)
