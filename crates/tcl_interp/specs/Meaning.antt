-- Steps. What a job comes to: by its tasks, and step by step.
use Rattle.std.specs.Prelude.{ℕ, List, []}
use Rattle.tcl_vars.specs.Store.{Store}
use Rattle.tcl_control.specs.declared.code.Code.{Code}
use Rattle.tcl_interp.specs.Outside.{Told}
use Rattle.tcl_interp.specs.Evaluation.{State, Outcome, Ended, and_then, with_step}
use Rattle.tcl_interp.specs.Plans.{run_at}
use Rattle.tcl_interp.specs.Acts.{act_meaning, script_meaning, told_state}
use Rattle.tcl_interp.specs.Scripts.{out_of_global}
use Rattle.tcl_interp.specs.declared.job.Looked.{Looked}
use Rattle.tcl_interp.specs.declared.job.Looked.TheVariants.{Wants, Ends}
use Rattle.tcl_interp.specs.declared.job.Started.{Started}
use Rattle.tcl_interp.specs.declared.job.Task.{Task}
use Rattle.tcl_interp.specs.Course.{Course}
use Rattle.tcl_interp.specs.Tasks.{looked_told, outside_of}

module _ {S J : Type 0} (course : Course S J) where
  -- what an interpreter makes of a job, by its tasks, where the commands of scripts do this, and scripts are run so
  abbrev pub job_by : (S → Store → List (List ℕ) → Told S (Task J)) → (List ℕ → State S → Outcome S) → J → State S → Outcome S
  job_by calls run job state =
      (let there : Told S (Task J) = looked_told course state.shows state.store job in
      act_meaning (outside_of course calls) run [] (told_state there state) there.act)

  -- with room for so many scripts one in another
  abbrev pub job_meaning : (S → Store → List (List ℕ) → Told S (Task J)) → ℕ → J → State S → Outcome S
  job_meaning calls room = job_by calls (script_meaning (outside_of course calls) room)

  -- How a script is run is given, and what a job comes to that is looked at.
  module _ (run : List ℕ → State S → Outcome S) (done : J → State S → Outcome S) where
    -- a script of a job has ended
    abbrev pub after_script : J → State S → Code → List ℕ → Outcome S
    after_script job state code text =
        (let there : S × J = course.ended (out_of_global code) text state.shows job in done there.1 (record state { shows = there.0 }))

    -- what is next starts, its step being taken, and its script runs at global level
    abbrev pub started : J → State S → Outcome S
    started job state =
        (let there : S × Started J = course.start state.shows state.store job in
        and_then (run_at run 1 there.1.script (record state { shows = there.0 })) (after_script there.1.job))

    -- the job ends; or what is next takes a step, and starts
    abbrev pub looked : Looked J → State S → Outcome S
    looked (Ends code text) state = Ended state code text
    looked (Wants job) state = with_step state (started job)

    -- what comes next of a job
    abbrev pub next_meaning : J → State S → Outcome S
    next_meaning job state = (let there : S × Looked J = course.look state.shows state.store job in looked there.1 (record state { shows = there.0 }))
