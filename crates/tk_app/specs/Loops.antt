-- Meaning. What a loop is in a script of an application, as an equation, and that it is the only one: how often it may go round needn't be read.
use Rattle.std.specs.Prelude.{◌≡◌, ℕ}
use Rattle.tcl_control.specs.declared.loops.Loop.{Loop}
use Rattle.tcl_interp.specs.Evaluation.{State}
use Rattle.tcl_interp.specs.LoopLaws.{goes_round}
use Rattle.tcl_interp.specs.Plans.{loop_meaning}
use Rattle.tk_app.specs.Commands.{Update, scripts_in}
use Rattle.tk_app.specs.Dispatch.{Action}
use Rattle.tk_app.specs.Seen.{Seen}
use Rattle.tk_app.specs.Settle.{IsSoundIn, IsUpdate}

-- By whatever meets the equation of `update`, in any room for scripts in one another: a loop goes round, a step, the test, the body, and is itself again.
abbrev pub LoopsGoRound : Type 0
LoopsGoRound = (update : Update) → IsUpdate update → (room : ℕ) (looping : Loop) (state : State Seen) → IsSoundIn state
    → loop_meaning (scripts_in update room) looping state ≡ goes_round (scripts_in update room) (loop_meaning (scripts_in update room)) looping state

-- and nothing else does, where the windows are sound
abbrev pub OnlyLoops : Type 0
OnlyLoops = (update : Update) → IsUpdate update → (room : ℕ) (other : Loop → Action)
    → ((looping : Loop) (state : State Seen) → IsSoundIn state → other looping state ≡ goes_round (scripts_in update room) other looping state)
    → (looping : Loop) (state : State Seen) → IsSoundIn state → other looping state ≡ loop_meaning (scripts_in update room) looping state
