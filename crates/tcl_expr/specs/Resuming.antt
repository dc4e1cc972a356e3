-- Steps. An evaluation that is resumed: what is still to come of it, and what an answer says of that.
use Rattle.std.specs.Prelude.{◌≡◌, ◌⊎◌, ℕ, Bool, true, false, List, [], ◌∷◌, drop, Option, Some, None, Result, Ok, Err}
use Rattle.tcl_expr.specs.declared.ask.Ask.{Ask}
use Rattle.tcl_expr.specs.declared.ask.Ask.TheVariants.{Value as ValueOf}
use Rattle.tcl_expr.specs.declared.fault.ExprFault.{ExprFault}
use Rattle.tcl_expr.specs.declared.fault.EvalFault.{EvalFault}
use Rattle.tcl_expr.specs.declared.fault.EvalFault.TheVariants.{NoMemory}
use Rattle.tcl_expr.specs.declared.value.Value.{Value}
use Rattle.tcl_expr.specs.declared.value.Value.TheVariants.{Words}
use Rattle.tcl_expr.specs.declared.step.Step.{Step}
use Rattle.tcl_expr.specs.declared.state.State.{State}
use Rattle.tcl_expr.specs.declared.state.State.TheVariants.{Ready, Waiting, Ended, Failed}
use Rattle.tcl_expr.specs.Run.{Run, Ends}
use Rattle.tcl_expr.specs.Steps.{asks, execute}

-- the steps that are left, the values that wait for them, and whether something was asked
pub record Resumption : Type 0 where
  pub steps : List Step
  pub stack : List Value
  pub state : State

-- the steps of an expression
abbrev pub steps_in : Result (List Step) ExprFault → List Step
steps_in (Ok steps) = steps
steps_in (Err fault) = []

-- what is left from a place on
abbrev pub evaluation_at : ℕ → Result (List Step) ExprFault → List Value → State → Resumption
evaluation_at place compiled stack state = record { steps = drop place (steps_in compiled); stack = stack; state = state }

-- the stack with an answer, if one is given
abbrev pub with_given : Option (List ℕ) → List Value → List Value
with_given None stack = stack
with_given (Some text) stack = Words text ∷ stack

abbrev pub is_waiting : State → Bool
is_waiting Waiting = true
is_waiting _ = false

-- what is still to come, where this is given
abbrev pub to_come : State → List Step → List Value → Run
to_come (Ended text) steps stack = Ends (Ok text)
to_come (Failed fault) steps stack = Ends (Err fault)
to_come _ steps stack = execute 0 steps stack

abbrev pub evaluation_told : Resumption → Option (List ℕ) → Run
evaluation_told evaluation given = to_come evaluation.state evaluation.steps (with_given given evaluation.stack)

-- what an answer to the question leads to
abbrev pub answered : Resumption → List ℕ → Run
answered evaluation text = evaluation_told evaluation (Some text)

abbrev pub state_after : Ask → State
state_after (ValueOf text) = Ended text
state_after _ = Waiting

-- What is told is what was to come, and what is left is what comes then; a value or a fault stays.
abbrev pub Tells : Run → Result Ask EvalFault → Resumption → Type 0
Tells run (Ok ask) after = (run ≡ asks ask (answered after)) × (after.state ≡ state_after ask)
Tells run (Err fault) after = ((run ≡ Ends (Err fault)) ⊎ (fault ≡ NoMemory)) × (after.state ≡ Failed fault)

-- what an evaluation that is over answers again
abbrev pub Repeats : State → Option (Result Ask EvalFault) → Type 0
Repeats (Ended text) (Some (Ok ask)) = ask ≡ ValueOf text
Repeats (Ended text) (Some (Err fault)) = fault ≡ NoMemory
Repeats (Failed fault) (Some (Ok ask)) = ⊥
Repeats (Failed fault) (Some (Err again)) = (again ≡ fault) ⊎ (again ≡ NoMemory)
Repeats (Ended text) None = ⊥
Repeats (Failed fault) None = ⊥
Repeats Ready answer = answer ≡ None
Repeats Waiting answer = answer ≡ None
