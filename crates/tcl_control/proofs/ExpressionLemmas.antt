-- An expression that could be read begins with all of its steps.
use Rattle.std.proofs.Common.{◌≡◌, ℕ, List, [], Option, Some, None, IfSome, Result, Ok, Err, IsOk, refl, sym, ap}
use Rattle.std.specs.Prelude.{ℤ}
use Rattle.tcl_expr.specs.declared.fault.ExprFault.{ExprFault}
use Rattle.tcl_expr.specs.declared.state.State.TheVariants.{Ready}
use Rattle.tcl_expr.specs.Resuming.{evaluation_at}
use Rattle.tcl_expr.specs.Reading.{tree_of, compiled, compiled_by}
use Rattle.tcl_expr.specs.Straight.{ComesTo}
use Rattle.tcl_expr.specs.Trees.{Tree}
use Rattle.tcl_expr.proofs.GrammarLaws.{expr_parse_is_read, one_expr_parse}
use Rattle.tcl_control.specs.Expressions.{tree_or_text, expression_of}
use Rattle.tcl_control.specs.ExpressionForms.{IsIntegerBy, evaluation_begun, evaluation_begins}

begins_by : (text : List ℕ) (tree : Result Tree ExprFault) → IsOk tree → Ok (evaluation_at 0 (compiled_by tree) [] Ready) ≡ evaluation_begun text (compiled_by tree)
begins_by text (Ok tree) read = refl
begins_by text (Err fault) read = cc

pub begins : (text : List ℕ) → IsOk (tree_of text) → Ok (evaluation_at 0 (compiled text) [] Ready) ≡ evaluation_begins text
unfolding evaluation_begins tree_of
begins text read = begins_by text (tree_of text) read

-- where straight code says an integer, the evaluation that begins comes to it
pub integer_by : (number : List ℕ → Option ℤ) (text : List ℕ) (said : Option ℤ) → IsOk (tree_of text) → IfSome said (ComesTo number (evaluation_at 0 (compiled text) [] Ready)) → IfSome said (IsIntegerBy number text)
integer_by number text (Some n) read comes = (evaluation_at 0 (compiled text) [] Ready, sym (begins text read), comes)
integer_by number text None read comes = comes

-- an expression is what is read of its text
pub expression_walk : (text : List ℕ) → expression_of text ≡ tree_or_text text (tree_of text)
unfolding expression_of
expression_walk text = ap (tree_or_text text) (expr_parse_is_read text (one_expr_parse text).it (one_expr_parse text).holds)
