-- A loop in a script of an application is the only thing that goes round by its equation, where windows are sound.
use Rattle.std.proofs.Common.{ℕ, subst}
use Rattle.tcl_interp.specs.Evaluation.{Outcome}
use Rattle.tcl_interp.specs.ScriptLaws.{Kept, KeepsRun}
use Rattle.tcl_interp.proofs.Loops.{loops_go_on_for, only_loop_for}
use Rattle.tk_app.specs.Commands.{Update, scripts_in}
use Rattle.tk_app.specs.Loops.{LoopsGoRound, OnlyLoops}
use Rattle.tk_app.specs.Seen.{Seen}
use Rattle.tk_app.specs.Settle.{IsUpdate}
use Rattle.tk_app.proofs.ByUpdate.{scripts_same, scripts_take_no_steps}
use Rattle.tk_app.proofs.Sound.{IsSoundShown, run_keeps}

keeps : (update : Update) → IsUpdate update → (room : ℕ) → KeepsRun IsSoundShown (scripts_in update room)
keeps update meets room script state sound =
    subst (λ (o : Outcome Seen). Kept IsSoundShown o) (scripts_same update meets room script state sound) (run_keeps room script state sound)

pub loops_go_round : LoopsGoRound
loops_go_round update meets room = loops_go_on_for IsSoundShown (scripts_in update room) (keeps update meets room) (scripts_take_no_steps update meets room)

pub only_loops : OnlyLoops
only_loops update meets room = only_loop_for IsSoundShown (scripts_in update room) (keeps update meets room) (scripts_take_no_steps update meets room)
