-- What a part comes to, by what is done at a moment.
use Rattle.std.proofs.Common.{◌≡◌, ℕ, List, [], refl, sym, ap, ◌∙◌}
use Rattle.std.proofs.Math.Path.{fun_ext}
use Rattle.tcl_control.specs.declared.code.Code.{Code}
use Rattle.tcl_control.specs.declared.code.Code.TheVariants.{Normal}
use Rattle.tcl_interp.specs.Evaluation.{State, Outcome, Ended, OutOfSteps, and_then}
use Rattle.tcl_interp.specs.Acts.{script_meaning, task_meaning}
use Rattle.tcl_interp.specs.Finish.{waits_meaning}
use Rattle.tcl_interp.specs.Scripts.{out_of_global}
use Rattle.tcl_interp.specs.declared.job.Task.TheVariants as task
use Rattle.tcl_interp.proofs.Unrolled as jobs
use Rattle.tk_app.specs.declared.state.AppState.{AppState}
use Rattle.tk_app.specs.declared.state.AppState.TheVariants.{Running, Exhausted, Closed}
use Rattle.tk_app.specs.Application.{Application, fresh}
use Rattle.tk_app.specs.Outside.{calls, course, outside, run_in}
use Rattle.tk_app.specs.Moments.{after_outcome, settled_as, settled_by, started_by, state_at}
use Rattle.tk_app.specs.Part.{Rests, BeginsWithScript, SettlesFromRest, done_as, settling_as, stage_done}
use Rattle.tk_app.specs.Seen.{Meaning, Seen}
use Rattle.tk_app.specs.Dispatch.{RunsScripts, global_meaning}
use Rattle.tk_app.specs.Settle.{after_script, start_meaning}
use Rattle.tk_app.specs.SettleJob.{settle_meaning, settling, update_meaning}
use Rattle.tk_app.proofs.Commands.{scripts_run}
use Rattle.tk_app.proofs.Equations.{end_shown}

-- nothing comes behind the end
ended_alone : (outcome : Outcome Seen) → and_then outcome (waits_meaning outside []) ≡ outcome
ended_alone (Ended state code text) = refl
ended_alone (OutOfSteps state) = refl

-- the task with which settling begins comes to what settling is
pub settles : (state : State Seen) → task_meaning outside (script_meaning outside 200) (task.Runs settling) state Normal [] ≡ settle_meaning state
unfolding settle_meaning
settles state = (jobs.goes_on course calls 200 settling state Normal [] []).0

-- the task of an application's own script comes to the script and what settling is
pub starts : (script : List ℕ) (state : State Seen) → task_meaning outside (script_meaning outside 200) (task.Begins script settling) state Normal [] ≡ start_meaning update_meaning settle_meaning script state
unfolding settle_meaning
starts script state =
    (jobs.goes_on course calls 200 settling state Normal [] script).1
    ∙ ap (λ (after : State Seen → Code → List ℕ → Outcome Seen). and_then (global_meaning (run_in 200) script state) after)
    (fun_ext (λ left. fun_ext (λ code. fun_ext (λ text. ap settle_meaning (end_shown (out_of_global code) text left)))))
    ∙ ap (λ (run : RunsScripts). and_then (global_meaning run script state) (after_script settle_meaning)) (sym (scripts_run 200))

module _ {M : Type 0} (answer : M → Meaning) where
  from_rest : (s : AppState) (moment : ℕ) (application : Application M) → application.state ≡ s
      → done_as answer moment (settling_as s Rests) application ≡ record { application = settled_as answer settle_meaning s moment application; work = Rests }
  from_rest Running moment application is =
      let state = state_at answer moment application in
      ap (λ o. record { application = after_outcome o application; work = Rests })
      (ended_alone (task_meaning outside (script_meaning outside 200) (task.Runs settling) state Normal []) ∙ settles state)
  from_rest Exhausted moment application is = refl
  from_rest Closed moment application is = refl

  pub settles_from_rest : SettlesFromRest answer
  unfolding stage_done settled_by
  settles_from_rest moment application = from_rest application.state moment application refl

  pub begins_with_script : BeginsWithScript answer
  unfolding stage_done started_by
  begins_with_script moment spec =
      let application = fresh spec in
      let state = state_at answer moment application in
      ap (λ o. record { application = after_outcome o application; work = Rests })
      (ended_alone (task_meaning outside (script_meaning outside 200) (task.Begins spec.script settling) state Normal []) ∙ starts spec.script state)
