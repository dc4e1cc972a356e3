-- Meaning. Operators between operands: how tight each binds, and the tree that it makes.
use Rattle.std.specs.Prelude.{ℕ}
use Rattle.tcl_expr.specs.declared.operators.ArithmeticOperator.{ArithmeticOperator}
use Rattle.tcl_expr.specs.declared.operators.ArithmeticOperator.TheVariants.{Multiply, Divide, Remainder, Add, Subtract, ShiftLeft, ShiftRight, BitAnd, BitXor, BitOr}
use Rattle.tcl_expr.specs.declared.operators.Comparison.{Comparison}
use Rattle.tcl_expr.specs.declared.operators.Comparison.TheVariants as comparison
use Rattle.tcl_expr.specs.declared.operators.BinaryOperator.{BinaryOperator}
use Rattle.tcl_expr.specs.declared.operators.BinaryOperator.TheVariants as binary
use Rattle.tcl_expr.specs.declared.operators.Infix.{Infix}
use Rattle.tcl_expr.specs.declared.operators.Infix.TheVariants as infixed
use Rattle.tcl_expr.specs.Trees.{Tree, Binary, And, Or}

-- ── levels: an operator binds tighter than those of a lower level ──

abbrev pub arithmetic_level : ArithmeticOperator → ℕ
arithmetic_level Multiply = 10
arithmetic_level Divide = 10
arithmetic_level Remainder = 10
arithmetic_level Add = 9
arithmetic_level Subtract = 9
arithmetic_level ShiftLeft = 8
arithmetic_level ShiftRight = 8
arithmetic_level BitAnd = 5
arithmetic_level BitXor = 4
arithmetic_level BitOr = 3

abbrev pub comparison_level : Comparison → ℕ
comparison_level comparison.Same = 6
comparison_level comparison.Different = 6
comparison_level _ = 7

abbrev pub binary_level : BinaryOperator → ℕ
binary_level (binary.Arithmetic operator) = arithmetic_level operator
binary_level (binary.Comparison operator) = comparison_level operator
binary_level (binary.Text operator) = 6

abbrev pub level_of : Infix → ℕ
level_of infixed.Or = 1
level_of infixed.And = 2
level_of (infixed.Binary operator) = binary_level operator

-- two trees with an operator between them
abbrev pub between : Infix → Tree → Tree → Tree
between infixed.Or a b = Or a b
between infixed.And a b = And a b
between (infixed.Binary operator) a b = Binary operator a b
