-- Steps. *Settle* and `update` by the code's jobs: what these come to meets the equations, and nothing else does; what holds of it then.
use Rattle.std.specs.Prelude.{◌≡◌, ℕ, false, List, []}
use Rattle.tcl_control.specs.declared.code.Code.{Code}
use Rattle.tcl_control.specs.declared.code.Code.TheVariants.{Normal}
use Rattle.tcl_interp.specs.Evaluation.{State, Outcome, Ended}
use Rattle.tk_screen.specs.Layout.{changes_due}
use Rattle.tk_panel.specs.declared.job.Home.TheVariants.{Settle, Update as UpdateHome}
use Rattle.tk_panel.specs.declared.job.Job.{Job}
use Rattle.tk_panel.specs.Panel.{is_closed}
use Rattle.tk_commands.specs.Course.{settling as settling_to}
use Rattle.tk_app.specs.Commands.{Update, scripts_in}
use Rattle.tk_app.specs.Dispatch.{Action}
use Rattle.tk_app.specs.Items.{item_meaning}
use Rattle.tk_app.specs.Jobs.{meaning, meaning_by}
use Rattle.tk_app.specs.Seen.{Seen}
use Rattle.tcl_text.specs.Limits.{most_running}
use Rattle.tk_app.specs.Settle.{IsSettle, IsSoundIn, IsUpdate}

-- what is to be done at a moment, where nothing is under way
abbrev pub settling : Job
settling = settling_to Settle

-- *Settle*: all that is to be done at a moment, as what its job comes to. It meets its equation, and nothing else does (`Settles`, `OnlySettle`).
unfoldable pub settle_meaning : State Seen → Outcome Seen
settle_meaning state = meaning most_running settling state

-- `update`, as what its job comes to. It meets its equation, and nothing else does (`Updates`, `OnlyUpdate`).
unfoldable pub update_meaning : Update
update_meaning run state = meaning_by run (settling_to UpdateHome) state

-- The job of *Settle* meets its equation, where scripts are run by the job of `update`.
abbrev pub Settles : Type 0
Settles = IsSettle update_meaning settle_meaning

-- Nothing else does: what meets it wherever windows are numbered so is *Settle* there, by whatever meets the equation of `update`.
abbrev pub OnlySettle : Type 0
OnlySettle = (update : Update) → IsUpdate update → (other : Action) → IsSettle update other
    → (state : State Seen) → IsSoundIn state → other state ≡ settle_meaning state

-- The job of `update` meets its own.
abbrev pub Updates : Type 0
Updates = IsUpdate update_meaning

-- Nor does anything else meet this one, in any room, by whatever scripts are run there.
abbrev pub OnlyUpdate : Type 0
OnlyUpdate = (update : Update) → IsUpdate update → (room : ℕ) (other : Action)
    → ((state : State Seen) → IsSoundIn state → other state ≡ item_meaning (scripts_in update room) other state)
    → (state : State Seen) → IsSoundIn state → other state ≡ update_meaning (scripts_in update_meaning room) state

-- So whatever meets it gives each script the same meaning, wherever windows are numbered so.
abbrev pub OneUpdate : Type 0
OneUpdate = (update : Update) → IsUpdate update → (room : ℕ) (script : List ℕ) (state : State Seen) → IsSoundIn state
    → scripts_in update room script state ≡ scripts_in update_meaning room script state

-- Once all that is to be done has been done and there is a main window, the windows lie where a layout from nothing puts them.
abbrev pub EndsLaidOut : Type 0
EndsLaidOut = (state after : State Seen) (code : Code) (text : List ℕ) → settle_meaning state ≡ Ended after code text
    → IsSoundIn after → is_closed after.shows.panel ≡ false → changes_due after.shows.panel.windowing after.store ≡ []

-- Then *Settle* again does nothing: there is no main window, or nothing waits and no layout changes anything.
abbrev pub SettlesTwice : Type 0
SettlesTwice = (state after : State Seen) (code : Code) (text : List ℕ) → settle_meaning state ≡ Ended after code text
    → IsSoundIn after → settle_meaning after ≡ Ended after Normal []
