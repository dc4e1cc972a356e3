-- Meaning. What *Settle* leaves, by whatever meets its equation: a layout has nothing to change, and nothing is left to do.
use Rattle.std.specs.Prelude.{◌≡◌, ℕ, false, List, []}
use Rattle.tcl_control.specs.declared.code.Code.{Code}
use Rattle.tcl_control.specs.declared.code.Code.TheVariants.{Normal}
use Rattle.tcl_interp.specs.Evaluation.{State, Ended}
use Rattle.tk_screen.specs.Layout.{changes_due}
use Rattle.tk_panel.specs.Panel.{is_closed}
use Rattle.tk_app.specs.Commands.{Update}
use Rattle.tk_app.specs.Dispatch.{Action}
use Rattle.tk_app.specs.Seen.{Seen}
use Rattle.tk_app.specs.Settle.{IsSettle, IsSoundIn, IsUpdate}

-- where it has ended and there is a main window, the windows lie where a layout from nothing puts them
abbrev pub LeavesLaidOut : Type 0
LeavesLaidOut = (update : Update) → IsUpdate update → (settle : Action) → IsSettle update settle
    → (state after : State Seen) (code : Code) (text : List ℕ) → IsSoundIn state → settle state ≡ Ended after code text
    → is_closed after.shows.panel ≡ false → changes_due after.shows.panel.windowing after.store ≡ []

-- and *Settle* again does nothing: there is no main window, or nothing waits and no layout changes anything
abbrev pub LeavesSettled : Type 0
LeavesSettled = (update : Update) → IsUpdate update → (settle : Action) → IsSettle update settle
    → (state after : State Seen) (code : Code) (text : List ℕ) → IsSoundIn state → settle state ≡ Ended after code text → settle after ≡ Ended after Normal []
