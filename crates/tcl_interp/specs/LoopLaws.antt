-- Meaning. What a loop is, as an equation, and that it is the only one: its definition, by as many iterations as steps are left, needn't be read.
use Rattle.std.specs.Prelude.{◌≡◌, ℕ, ◌≤◌, Bool, true, List}
use Rattle.tcl_control.specs.declared.code.Code.{Code}
use Rattle.tcl_control.specs.declared.loops.Loop.{Loop}
use Rattle.tcl_interp.specs.Evaluation.{State, Outcome, Ended, with_step}
use Rattle.tcl_interp.specs.Plans.{test_meaning, iteration_meaning, loop_meaning}
use Rattle.tcl_interp.specs.ScriptLaws.{KeepsRun}

-- Where a script has ended, no more steps are left than it was begun with.
abbrev pub TakesNoStepsBack : {S : Type 0} → (List ℕ → State S → Outcome S) → Type 0
TakesNoStepsBack {S} run = (script : List ℕ) (state after : State S) (code : Code) (text : List ℕ) → run script state ≡ Ended after code text
    → after.steps ≤ state.steps

-- a step, the test, the body with what `for` runs behind it, and then, given by what, the loop again with what is left to be tested
abbrev pub goes_round : {S : Type 0} → (List ℕ → State S → Outcome S) → (Loop → State S → Outcome S) → Loop → State S → Outcome S
goes_round run again looping state = with_step state (test_meaning run looping.test (λ test. iteration_meaning run looping (again (record looping { test = test }))))

-- a loop goes round, and is itself again
abbrev pub LoopsGoOn : Type 0 → Type 0
LoopsGoOn S = (run : List ℕ → State S → Outcome S) → TakesNoStepsBack run
    → (looping : Loop) (state : State S) → loop_meaning run looping state ≡ goes_round run (loop_meaning run) looping state

-- and nothing else does
abbrev pub OnlyLoop : Type 0 → Type 0
OnlyLoop S = (run : List ℕ → State S → Outcome S) → TakesNoStepsBack run
    → (other : Loop → State S → Outcome S) → ((looping : Loop) (state : State S) → other looping state ≡ goes_round run other looping state)
    → (looping : Loop) (state : State S) → other looping state ≡ loop_meaning run looping state

-- ── where something holds of what is shown ──

-- Of a property that scripts keep: where one has ended that was begun where it holds, it holds again.
module _ {S : Type 0} (P : S → Type 0) where
  -- and no more steps are left than such a script was begun with
  abbrev pub TakesNoStepsBackWhere : (List ℕ → State S → Outcome S) → Type 0
  TakesNoStepsBackWhere run = (script : List ℕ) (state after : State S) (code : Code) (text : List ℕ) → P state.shows → run script state ≡ Ended after code text
      → after.steps ≤ state.steps

  -- a loop goes round where it holds
  abbrev pub GoesOnWhere : Type 0
  GoesOnWhere = (run : List ℕ → State S → Outcome S) → KeepsRun P run → TakesNoStepsBackWhere run
      → (looping : Loop) (state : State S) → P state.shows → loop_meaning run looping state ≡ goes_round run (loop_meaning run) looping state

  -- and what goes round there is a loop there, whatever it is elsewhere
  abbrev pub OnlyWhere : Type 0
  OnlyWhere = (run : List ℕ → State S → Outcome S) → KeepsRun P run → TakesNoStepsBackWhere run → (other : Loop → State S → Outcome S)
      → ((looping : Loop) (state : State S) → P state.shows → other looping state ≡ goes_round run other looping state)
      → (looping : Loop) (state : State S) → P state.shows → other looping state ≡ loop_meaning run looping state

-- so it is of whatever is tested of what is shown
abbrev pub LoopsGoOnWhere : Type 0 → Type 0
LoopsGoOnWhere S = (holds : S → Bool) → GoesOnWhere (λ (shows : S). holds shows ≡ true)

abbrev pub OnlyLoopWhere : Type 0 → Type 0
OnlyLoopWhere S = (holds : S → Bool) → OnlyWhere (λ (shows : S). holds shows ≡ true)
