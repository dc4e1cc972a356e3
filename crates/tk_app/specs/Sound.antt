-- Meaning. The windows of an application stay numbered as they were made, whatever its scripts do: the equations of `update` and *Settle* are of such states.
use Rattle.std.specs.Prelude.{◌≡◌, ◌≤◌, ℕ, List, Some}
use Rattle.tcl_control.specs.declared.code.Code.{Code}
use Rattle.tcl_interp.specs.Evaluation.{State, Outcome, Ended, OutOfSteps}
use Rattle.tk_base.specs.declared.local_event.LocalEvent.{LocalEvent}
use Rattle.tk_screen.specs.Own.{Windowing}
use Rattle.tk_tree.specs.Own.{IsSound}
use Rattle.tk_app.specs.declared.state.AppState.TheVariants.{Running}
use Rattle.tk_app.specs.Application.{Application, fresh}
use Rattle.tk_app.specs.Commands.{Update, scripts_in}
use Rattle.tk_app.specs.Dispatch.{Action, global_meaning}
use Rattle.tk_app.specs.Items.{first_item}
use Rattle.tk_app.specs.Moments.{delivered, settled_by, started_by}
use Rattle.tk_app.specs.Seen.{Meaning, Seen}
use Rattle.tk_app.specs.Settle.{IsSettle, IsSoundIn, IsUpdate}
use Rattle.tk_app.specs.Spec.{Spec}

-- the windows are numbered so
abbrev pub AreSound : Windowing → Type 0
AreSound own = IsSound own.tree

-- where something ends, this holds of what is on the screen
abbrev pub EndsWith : (Windowing → Type 0) → Outcome Seen → Type 0
EndsWith holds (Ended state code text) = holds state.shows.panel.windowing
EndsWith holds (OutOfSteps state) = Unit {0}

abbrev pub EndsSound : Outcome Seen → Type 0
EndsSound outcome = EndsWith AreSound outcome

-- ── scripts, by whatever meets the equation of `update` ──

-- a script at global level leaves them so
abbrev pub ScriptsKeepSound : Type 0
ScriptsKeepSound = (update : Update) → IsUpdate update → (room : ℕ) (script : List ℕ) (state : State Seen) → IsSoundIn state
    → EndsSound (global_meaning (scripts_in update room) script state)

-- and so does each item of what is to be done at a moment: *Dispatch* of an event, a timer, a layout, a round of idle scripts
abbrev pub ItemsKeepSound : Type 0
ItemsKeepSound = (update : Update) → IsUpdate update → (room : ℕ) (state : State Seen) (item : Outcome Seen) → IsSoundIn state
    → first_item (scripts_in update room) state ≡ Some item → EndsSound item

-- and where one has ended, no more steps are left than it was begun with, as loops want it
abbrev pub ScriptsTakeNoSteps : Type 0
ScriptsTakeNoSteps = (update : Update) → IsUpdate update → (room : ℕ) (script : List ℕ) (state after : State Seen) (code : Code) (text : List ℕ) → IsSoundIn state
    → scripts_in update room script state ≡ Ended after code text → after.steps ≤ state.steps

-- ── an application by itself ──

-- something holds of what is on the screen while it runs; one that is closed or out of steps does nothing more
abbrev pub RunsWith : {M : Type 0} → (Windowing → Type 0) → Application M → Type 0
RunsWith holds application = application.state ≡ Running → holds application.windowing

-- the windows are numbered so while it runs
abbrev pub RunsSound : {M : Type 0} → Application M → Type 0
RunsSound application = RunsWith AreSound application

module _ {M : Type 0} (answer : M → Meaning) where
  module _ (update : Update) (settle : Action) (holds : Windowing → Type 0) where
    -- it holds at first, once its script has run, once it was given an event, and once it has settled
    pub record StaysWith : Type 0 where
      pub fresh : (spec : Spec M) → RunsWith holds (fresh spec)
      pub started : (moment : ℕ) (script : List ℕ) (application : Application M) → holds application.windowing
          → RunsWith holds (started_by answer update settle moment script application)
      pub delivered : (event : LocalEvent) (application : Application M) → RunsWith holds application → RunsWith holds (delivered event application)
      pub settled : (moment : ℕ) (application : Application M) → RunsWith holds application → RunsWith holds (settled_by answer settle moment application)

  -- the windows are numbered so, by whatever meets the equations of `update` and *Settle*
  abbrev pub StaysSound : Type 0
  StaysSound = (update : Update) → IsUpdate update → (settle : Action) → IsSettle update settle → StaysWith update settle AreSound
