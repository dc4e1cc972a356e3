-- Meaning, for the interpreter by itself: what scripts of an application do needs none of this. The outside commands: what an object that serves them answers, as two functions of what it shows, the store and the arguments.
use Rattle.std.specs.Prelude.{ℕ, List, ◌<◌}
use Rattle.tcl_vars.specs.Store.{Store}
use Rattle.tcl_control.specs.declared.code.Code.{Code}
use Rattle.tcl_interp.specs.declared.tasks.Act.{Act}
use Rattle.tcl_interp.specs.declared.tasks.Act.TheVariants.{Done, Step, Run, Unknown}

-- what a call answers, and what the object shows and the store is then
pub record Told (S K : Type 0) : Type 0 where
  pub shows : S
  pub store : Store
  pub act : Act K

-- what the calls of an object mean, and how large each of its tasks is
pub record Outside (S K : Type 0) : Type 0 where
  pub calls : S → Store → List (List ℕ) → Told S K
  pub resumes : S → Store → K → Code → List ℕ → Told S K
  pub size : K → ℕ

-- where a script is run, the task that waits for it is smaller than this
abbrev pub RunsBelow : {K : Type 0} → (K → ℕ) → ℕ → Act K → Type 0
RunsBelow size bound (Done code text) = Unit {0}
RunsBelow size bound (Step task) = Unit {0}
RunsBelow size bound (Run script task) = size task < bound
RunsBelow size bound Unknown = Unit {0}

-- a task that is resumed and runs a script becomes smaller
abbrev pub Falls : {S K : Type 0} → Outside S K → Type 0
Falls {S} {K} outside =
    (shows : S) (store : Store) (task : K) (code : Code) (text : List ℕ)
    → RunsBelow outside.size (outside.size task) (outside.resumes shows store task code text).act
