-- Steps. How an expression begins of which straight code may say the value.
use Rattle.std.specs.Prelude.{◌≡◌, ℕ, Bool, List, Ok, Err, ℤ}
use Rattle.std.specs.Fmt.{signed_decimal}
use Rattle.tcl_expr.specs.declared.state.State.TheVariants.{Ready}
use Rattle.tcl_vars.specs.Store.{Store, number_in}
use Rattle.tcl_control.specs.ExpressionForms.{IsIntegerBy, evaluation_begins}
use Rattle.tcl_control.specs.Expressions.{truth_of_text}
use Rattle.tcl_interp.specs.declared.openings.Opening.{Opening}
use Rattle.tcl_interp.specs.declared.openings.Opening.TheVariants as opening
use Rattle.tcl_interp.specs.declared.openings.Condition.{Condition}
use Rattle.tcl_interp.specs.declared.openings.Condition.TheVariants as condition
use Rattle.tcl_interp.specs.Moves.{expression_begins}
use Rattle.tcl_interp.specs.Rests.{doing_of}

-- an expression of this text begins with an evaluation that comes to an integer, where variables are those of a level
abbrev pub IsInteger : Store → ℕ → List ℕ → ℤ → Type 0
IsInteger store level text n = IsIntegerBy (number_in store level) text n

abbrev pub Opens : Store → ℕ → List ℕ → Opening → Type 0
Opens store level text (opening.Integer n) = IsInteger store level text n
Opens store level text (opening.Evaluation eval) = (evaluation_begins text ≡ Ok eval) × (eval.state ≡ Ready)
Opens store level text (opening.Fault told) = evaluation_begins text ≡ Err told

-- a condition of this text is an integer, by which it holds or doesn't
abbrev pub Knows : Store → ℕ → List ℕ → Bool → Type 0
Knows store level text holds = (n : ℤ) × IsInteger store level text n × (truth_of_text (signed_decimal n) ≡ Ok holds)

-- a condition of this text begins so, with this room for scripts in it
abbrev pub OpensAs : {K : Type 0} → Store → ℕ → ℕ → List ℕ → Condition K → Type 0
OpensAs store level room text (condition.Known holds) = Knows store level text holds
OpensAs store level room text (condition.Begins now) = doing_of now ≡ expression_begins room text
