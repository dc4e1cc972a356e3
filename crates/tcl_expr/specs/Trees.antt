-- Meaning. The tree of an expression, and what its parts make of values. Its value is `value_meaning` of tcl_interp, where variables and scripts are.
use Rattle.std.specs.Prelude.{ℕ, ◌++◌, List, length, nat_le, if◌then◌else◌, ℤ, Option, Some, None, Result, Ok, Err}
use Rattle.std.specs.Fmt.{signed_decimal}
use Rattle.tcl_text.specs.Readings.{integer_of}
use Rattle.tcl_expr.specs.declared.fault.EvalFault.{EvalFault}
use Rattle.tcl_expr.specs.declared.fault.EvalFault.TheVariants.{TooLong, Overflow}
use Rattle.tcl_expr.specs.declared.operators.UnaryOperator.{UnaryOperator}
use Rattle.tcl_expr.specs.declared.operators.BinaryOperator.{BinaryOperator}
use Rattle.tcl_expr.specs.declared.value.Value.{Value}
use Rattle.tcl_expr.specs.declared.value.Value.TheVariants.{Number, Words}
use Rattle.tcl_expr.specs.Values.{text_of_value}
use Rattle.tcl_text.specs.Limits.{most_bytes}

pub data Tree : Type 0 where
  -- an integer as it is spelled
  Integer : List ℕ → Tree
  -- a text: a boolean word, what stands in braces, or a part of what stands in quotes
  Plain : List ℕ → Tree
  -- the value of a variable, and of an element, whose index is the text of a tree
  Variable : List ℕ → Tree
  Element : List ℕ → Tree → Tree
  -- the result of a script in brackets
  Command : List ℕ → Tree
  -- two parts of what stands in quotes or is an index, one after the other
  Joined : Tree → Tree → Tree
  Unary : UnaryOperator → Tree → Tree
  Binary : BinaryOperator → Tree → Tree → Tree
  And : Tree → Tree → Tree
  Or : Tree → Tree → Tree
  -- a condition, and what is chosen where it is true and where it is false
  Choice : Tree → Tree → Tree → Tree

-- an integer keeps its spelling, where 64 bits hold it
abbrev pub literal : List ℕ → Option ℤ → Result Value EvalFault
literal spelling (Some n) = Ok (Words spelling)
literal spelling None = Err Overflow

-- two texts, one after the other
abbrev pub joined_values : Value → Value → Result Value EvalFault
joined_values x y = if nat_le (length (text_of_value x ++ text_of_value y)) most_bytes then Ok (Words (text_of_value x ++ text_of_value y)) else Err TooLong

-- a value that is an integer is given in decimal
abbrev pub final_by : Value → Option ℤ → List ℕ
final_by v (Some n) = signed_decimal n
final_by v None = text_of_value v

abbrev pub final_text : Value → List ℕ
final_text (Number n) = signed_decimal n
final_text (Words text) = final_by (Words text) (integer_of text)
