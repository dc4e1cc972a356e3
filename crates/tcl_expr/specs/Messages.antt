-- Meaning. What an application is told of a fault.
use Rattle.std.specs.Prelude.{ℕ, List, [], ◌++◌, codes}
use Rattle.tcl_text.specs.FaultTexts.{boolean_text, list_text, parse_text}
use Rattle.tcl_expr.specs.declared.operators.UnaryOperator.{UnaryOperator}
use Rattle.tcl_expr.specs.declared.operators.UnaryOperator.TheVariants.{Negate, Keep, Complement, Not}
use Rattle.tcl_expr.specs.declared.operators.ArithmeticOperator.{ArithmeticOperator}
use Rattle.tcl_expr.specs.declared.operators.ArithmeticOperator.TheVariants.{Multiply, Divide, Remainder, Add, Subtract, ShiftLeft, ShiftRight, BitAnd, BitXor, BitOr}
use Rattle.tcl_expr.specs.declared.operators.NumberOperator.{NumberOperator}
use Rattle.tcl_expr.specs.declared.operators.NumberOperator.TheVariants.{Unary, Arithmetic}
use Rattle.tcl_expr.specs.declared.fault.ExprFault.{ExprFault}
use Rattle.tcl_expr.specs.declared.fault.ExprFault.TheVariants as parse
use Rattle.tcl_expr.specs.declared.fault.EvalFault.{EvalFault}
use Rattle.tcl_expr.specs.declared.fault.EvalFault.TheVariants as eval
use Rattle.tcl_text.specs.Messages.{limit_text, message, quoted, too_large_text}

abbrev pub unary_name : UnaryOperator → List ℕ
unary_name Negate = codes "-"
unary_name Keep = codes "+"
unary_name Complement = codes "~"
unary_name Not = codes "!"

abbrev pub arithmetic_name : ArithmeticOperator → List ℕ
arithmetic_name Multiply = codes "*"
arithmetic_name Divide = codes "/"
arithmetic_name Remainder = codes "%"
arithmetic_name Add = codes "+"
arithmetic_name Subtract = codes "-"
arithmetic_name ShiftLeft = codes "<<"
arithmetic_name ShiftRight = codes ">>"
arithmetic_name BitAnd = codes "&"
arithmetic_name BitXor = codes "^"
arithmetic_name BitOr = codes "|"

abbrev pub operator_name : NumberOperator → List ℕ
operator_name (Unary operator) = unary_name operator
operator_name (Arithmetic operator) = arithmetic_name operator

-- of an expression with this source; want of memory has no such text
abbrev pub parse_message : List ℕ → ExprFault → List ℕ
parse_message source (parse.Script fault) = message (parse_text fault)
parse_message source parse.Syntax = message (codes "syntax error in expression " ++ quoted source)

abbrev pub eval_message : EvalFault → List ℕ
eval_message (eval.NotBoolean text) = message (boolean_text text)
eval_message (eval.BadList fault) = message (list_text fault)
eval_message eval.TooLong = limit_text
eval_message eval.DivideByZero = codes "divide by zero"
eval_message eval.Overflow = too_large_text
eval_message (eval.NotNumber operator) = message (codes "can't use non-numeric string as operand of " ++ quoted (operator_name operator))
eval_message eval.NoMemory = []
