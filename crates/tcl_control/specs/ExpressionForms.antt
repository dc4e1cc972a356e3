-- Steps. How an expression that was read is kept, and begins.
use Rattle.std.specs.Prelude.{◌≡◌, ℕ, ℤ, List, [], Option, Result, Ok, Err}
use Rattle.tcl_expr.specs.declared.fault.ExprFault.{ExprFault}
use Rattle.tcl_expr.specs.declared.state.State.TheVariants.{Ready}
use Rattle.tcl_expr.specs.declared.step.Step.{Step}
use Rattle.tcl_expr.specs.Messages.{parse_message}
use Rattle.tcl_expr.specs.Reading.{compiled}
use Rattle.tcl_expr.specs.Resuming.{Resumption}
use Rattle.tcl_expr.specs.Straight.{ComesTo}
use Rattle.tcl_control.specs.declared.expression.ExpressionForm.{ExpressionForm}
use Rattle.tcl_control.specs.declared.expression.ExpressionForm.TheVariants.{Read, Faulty}

-- the evaluation of an expression from its beginning, or the text of its fault
abbrev pub evaluation_begun : List ℕ → Result (List Step) ExprFault → Result Resumption (List ℕ)
evaluation_begun text (Ok steps) = Ok (record { steps = steps; stack = []; state = Ready })
evaluation_begun text (Err fault) = Err (parse_message text fault)

unfoldable pub evaluation_begins : List ℕ → Result Resumption (List ℕ)
evaluation_begins text = evaluation_begun text (compiled text)

-- an expression of this text begins with an evaluation that comes to an integer, where `number` tells which integers variables are
abbrev pub IsIntegerBy : (List ℕ → Option ℤ) → List ℕ → ℤ → Type 0
IsIntegerBy number text n = (evaluation : Resumption) × (evaluation_begins text ≡ Ok evaluation) × ComesTo number evaluation n

-- the text of an expression, whether or not it could be read
abbrev pub expression_text : ExpressionForm → List ℕ
expression_text (Read expr) = expr
expression_text (Faulty text told) = text

-- where a fault's text is kept, it is that of the expression
abbrev pub HasToldFault : ExpressionForm → Type 0
HasToldFault (Read expr) = Unit {0}
HasToldFault (Faulty text told) = evaluation_begins text ≡ Err told
