-- Meaning, for the interpreter by itself: what scripts of an application do needs none of this. What of an object that serves outside commands no script changes.
use Rattle.std.specs.Prelude.{◌≡◌, ℕ, List}
use Rattle.tcl_vars.specs.Store.{Store}
use Rattle.tcl_control.specs.declared.code.Code.{Code}
use Rattle.tcl_interp.specs.Evaluation.{State, Outcome, Ended, OutOfSteps}
use Rattle.tcl_interp.specs.Outside.{Outside}
use Rattle.tcl_interp.specs.Acts.{script_meaning, task_meaning}

-- something of what an object shows is this where an evaluation has come to an end
abbrev pub EndsWith : {S T : Type 0} → (S → T) → T → Outcome S → Type 0
EndsWith f value (Ended state code text) = f state.shows ≡ value
EndsWith f value (OutOfSteps state) = Unit {0}

-- the calls and the tasks leave it as it is
pub record Leaves {S K T : Type 0} (f : S → T) (outside : Outside S K) : Type 0 where
  pub calls : (shows : S) (store : Store) (words : List (List ℕ)) → f (outside.calls shows store words).shows ≡ f shows
  pub resumes : (shows : S) (store : Store) (task : K) (code : Code) (text : List ℕ) → f (outside.resumes shows store task code text).shows ≡ f shows

-- and so does every script, and every task with all that it runs
abbrev pub ScriptsLeave : Type 0 → Type 0 → Type 0 → Type 0
ScriptsLeave S K T = (f : S → T) (outside : Outside S K) → Leaves f outside → (room : ℕ) (script : List ℕ) (state : State S)
    → EndsWith f (f state.shows) (script_meaning outside room script state)

abbrev pub TasksLeave : Type 0 → Type 0 → Type 0 → Type 0
TasksLeave S K T = (f : S → T) (outside : Outside S K) → Leaves f outside → (room : ℕ) (task : K) (state : State S) (code : Code) (text : List ℕ)
    → EndsWith f (f state.shows) (task_meaning outside (script_meaning outside room) task state code text)
