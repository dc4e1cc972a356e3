-- Steps. What an interpreter stands for, and what a slice of it reaches.
use Rattle.std.specs.Prelude.{◌≡◌, ℕ, ◌+◌, min, List, [], ◌∷◌}
use Rattle.tcl_vars.specs.Store.{Store}
use Rattle.tcl_control.specs.declared.context.Context.{Context}
use Rattle.tcl_table.specs.Table.{first_commands}
use Rattle.tcl_interp.specs.declared.interp.Interp.{Interp}
use Rattle.tcl_interp.specs.declared.interp.SliceEnd.{SliceEnd}
use Rattle.tcl_interp.specs.declared.interp.SliceEnd.TheVariants.{Done, More, Exhausted}
use Rattle.tcl_interp.specs.Evaluation.{State, Outcome, Ended, OutOfSteps}
use Rattle.tcl_interp.specs.Finish.{Doing, Waiting, RestToDo, Idle, Running, Spent}
use Rattle.tcl_interp.specs.Rests.{rest_by, waits_of}

-- the context at first: global level, and the commands, with these outside ones
abbrev pub first_context : List (List ℕ) → Context
first_context names = record { levels = 0 ∷ []; commands = first_commands names }

-- the context at global level
abbrev pub at_top : Context → Context
at_top context = record context { levels = 0 ∷ [] }

module _ {K : Type 0} where
  -- what it still has to do
  abbrev pub rest_of : Interp K → RestToDo K
  rest_of interp = rest_by interp.machine (waits_of interp.frames.items)

  -- how many steps are left
  abbrev pub left_of : Interp K → ℕ
  left_of interp = interp.left

  -- how many there are in all
  abbrev pub budget_of : Interp K → ℕ
  budget_of interp = interp.budget

  -- How many steps are left once so many more are granted: the budget at most, and none more where they are spent.
  abbrev pub granted : RestToDo K → ℕ → ℕ → ℕ → ℕ
  granted Spent steps budget left = left
  granted rest steps budget left = min (left + steps) budget

  -- the levels and the commands
  abbrev pub context_of : Interp K → Context
  context_of interp = interp.context

  -- the state that it acts on, with the object of the outside commands and the variables
  abbrev pub state_of : {S : Type 0} → Interp K → S → Store → State S
  state_of interp shows store = record { shows = shows; store = store; context = interp.context; steps = interp.left }

  abbrev pub IsRunning : RestToDo K → Type 0
  IsRunning rest = (doing : Doing K) × (waits : List (Waiting K)) × (rest ≡ Running doing waits)

  -- what is left to do after a slice
  abbrev pub LeavesRest : SliceEnd → RestToDo K → Type 0
  LeavesRest (Done code text) rest = rest ≡ Idle
  LeavesRest More rest = IsRunning rest
  LeavesRest Exhausted rest = rest ≡ Spent

-- What a slice reaches: the outcome, in the state that it leaves, or a rest that has the same outcome.
abbrev pub Reaches : {S : Type 0} → SliceEnd → Outcome S → State S → Outcome S → Type 0
Reaches (Done code text) outcome state after = outcome ≡ Ended state code text
Reaches More outcome state after = outcome ≡ after
Reaches Exhausted outcome state after = outcome ≡ OutOfSteps state
