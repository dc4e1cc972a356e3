-- Steps. What an evaluation of tcl_expr asks for is answered by the variables, and by running scripts. It comes to the value of the tree (`TreeRuns`).
use Rattle.std.specs.Prelude.{◌≡◌, ℕ, List, Result, Ok, Err}
use Rattle.tcl_expr.specs.declared.fault.EvalFault.{EvalFault}
use Rattle.tcl_expr.specs.Messages.{eval_message}
use Rattle.tcl_expr.specs.Run.{Run, AsksVariable, AsksElement, AsksCommand, Ends, evaluation}
use Rattle.tcl_expr.specs.Trees.{Tree}
use Rattle.tcl_control.specs.declared.code.Code.TheVariants.{Normal, Error}
use Rattle.tcl_interp.specs.Evaluation.{State, Outcome, Ended, and_then, on_normal, with_value_of}
use Rattle.tcl_interp.specs.Expressions.{tree_meaning, with_value_at}

-- the value of an expression, or its fault
abbrev pub value_ended : {S : Type 0} → State S → Result (List ℕ) EvalFault → Outcome S
value_ended state (Ok value) = Ended state Normal value
value_ended state (Err fault) = Ended state Error (eval_message fault)

-- How a script is run is given.
module _ {S : Type 0} (run : List ℕ → State S → Outcome S) where
  -- what is still to come of an evaluation
  abbrev pub run_meaning : Run → State S → Outcome S
  run_meaning (AsksVariable name go) state = with_value_of name state (λ state' value. run_meaning (go value) state')
  run_meaning (AsksElement array index go) state = with_value_at array index state (λ state' value. run_meaning (go value) state')
  run_meaning (AsksCommand script go) state = and_then (run script state) (on_normal (λ state' value. run_meaning (go value) state'))
  run_meaning (Ends result) state = value_ended state result

  -- all that is asked on the way is answered so: the value of the tree
  abbrev pub TreeRuns : Type 0
  TreeRuns = (tree : Tree) (state : State S) → run_meaning (evaluation tree) state ≡ tree_meaning run state (Ok tree)
