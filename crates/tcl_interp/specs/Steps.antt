-- Steps. Steps: what needs one, and what it leads to.
use Rattle.std.specs.Prelude.{◌≡◌, ℕ, suc, ◌+◌, Bool, true, List, []}
use Rattle.tcl_vars.specs.Store.{Store}
use Rattle.tcl_control.specs.declared.code.Code.{Code}
use Rattle.tcl_control.specs.declared.context.Context.{Context}
use Rattle.tcl_interp.specs.Outside.{Outside}
use Rattle.tcl_interp.specs.Evaluation.{State, Outcome}
use Rattle.tcl_interp.specs.Finish.{Doing, GoesOn, Calls, Tests, Steps, Ends, Waiting, Running, finish}
use Rattle.tcl_interp.specs.declared.tasks.Act.{Act}
use Rattle.tcl_interp.specs.Moves.{Moved, Standing, act_move}

module _ {K : Type 0} where
  -- a step is needed
  abbrev pub NeedsStep : Doing K → Type 0
  NeedsStep (Calls room words) = Unit {0}
  NeedsStep (Tests room looping) = Unit {0}
  NeedsStep (Steps room task) = Unit {0}
  NeedsStep doing = ⊥

  -- a step is needed, or all has ended; or a command is in front, where moves may stop before one
  abbrev pub IsSettledBy : Bool → Doing K → List (Waiting K) → Type 0
  IsSettledBy pauses (Ends code text) waits = waits ≡ []
  IsSettledBy pauses (GoesOn room commands result) waits = pauses ≡ true
  IsSettledBy pauses doing waits = NeedsStep doing

  abbrev pub IsSettled : Bool → Moved K → Type 0
  IsSettled pauses m = IsSettledBy pauses m.doing m.waits

  -- a step is needed, or a command is in front
  abbrev pub GoesByStep : Doing K → Type 0
  GoesByStep (GoesOn room commands result) = Unit {0}
  GoesByStep doing = NeedsStep doing

  -- how often moves stop before the next step without one: before a command, and then no more
  abbrev pub pauses_left : Doing K → ℕ
  pauses_left (GoesOn room commands result) = 1
  pauses_left doing = 0

-- what is shown, the variables, the context, and how many steps are left
abbrev pub state_with : {S : Type 0} → S → Store → Context → ℕ → State S
state_with shows store context steps = record { shows = shows; store = store; context = context; steps = steps }

module _ {S K : Type 0} (outside : Outside S K) where
  -- the outcome from here on, with so many steps left
  abbrev pub finish_from : Standing K → S → ℕ → Outcome S
  finish_from m shows steps =
      finish outside (Running m.moved.doing m.moved.waits) (record { shows = shows; store = m.store; context = m.context; steps = steps })

  -- with a step taken, the outcome stays
  abbrev pub TakesStep : Standing K → S → Standing K → S → Type 0
  TakesStep before shows after shows' = (left : ℕ) → finish_from before shows (suc left) ≡ finish_from after shows' left

  -- with so many steps taken, the outcome stays
  abbrev pub TakesSteps : ℕ → Standing K → S → Standing K → S → Type 0
  TakesSteps count before shows after shows' = (left : ℕ) → finish_from before shows (count + left) ≡ finish_from after shows' left

  -- without one, the outcome stays
  abbrev pub TakesNone : Standing K → S → Standing K → S → Type 0
  TakesNone before shows after shows' = (left : ℕ) → finish_from before shows left ≡ finish_from after shows' left

-- a task was resumed, and this is what its act leads to
abbrev pub Resumed : {S K : Type 0} → Outside S K → ℕ → K → Code → List ℕ → List (Waiting K) → S → Store → Context → Standing K → S → Type 0
Resumed {S} {K} outside room task code text waits shows store context after shows' =
    (store' : Store) × (act : Act K) × (record { shows = shows'; store = store'; act = act } ≡ outside.resumes shows store task code text)
    × (after ≡ act_move room [] store' context waits act)
