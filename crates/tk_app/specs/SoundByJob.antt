-- Steps. Windows stay numbered as they were made by the code's jobs, too; and an application comes to the same by whatever meets the equations.
use Rattle.std.specs.Prelude.{◌≡◌, ℕ, List}
use Rattle.tcl_interp.specs.Evaluation.{State}
use Rattle.tk_panel.specs.declared.job.Job.{Job}
use Rattle.tk_tree.specs.Own.{IsSound}
use Rattle.tk_app.specs.Application.{Application}
use Rattle.tk_app.specs.Commands.{Update, scripts_in}
use Rattle.tk_app.specs.Dispatch.{Action, global_meaning}
use Rattle.tk_app.specs.Jobs.{meaning}
use Rattle.tk_app.specs.Moments.{settled_by, started_by}
use Rattle.tk_app.specs.MomentsByJob.{settled, started}
use Rattle.tk_app.specs.Seen.{Meaning, Seen}
use Rattle.tk_app.specs.Settle.{IsSettle, IsSoundIn, IsUpdate}
use Rattle.tk_app.specs.Sound.{EndsSound, RunsSound}

-- a script at global level leaves them so, by whatever meets the equation of `update`, and so does every job
abbrev pub KeepsSound : Type 0
KeepsSound = (room : ℕ) (state : State Seen) → IsSoundIn state
    → ((update : Update) → IsUpdate update → (script : List ℕ) → EndsSound (global_meaning (scripts_in update room) script state)) × ((job : Job) → EndsSound (meaning room job state))

module _ {M : Type 0} (answer : M → Meaning) where
  -- Whatever meets the equations of `update` and *Settle* makes the same of an application: of one that begins, and of one that runs on.
  pub record BySettle : Type 0 where
    pub started : (update : Update) → IsUpdate update → (settle : Action) → IsSettle update settle → (moment : ℕ) (script : List ℕ) (application : Application M)
        → IsSound application.windowing.tree → started answer moment script application ≡ started_by answer update settle moment script application
    pub settled : (update : Update) → IsUpdate update → (settle : Action) → IsSettle update settle → (moment : ℕ) (application : Application M)
        → RunsSound application → settled answer moment application ≡ settled_by answer settle moment application
