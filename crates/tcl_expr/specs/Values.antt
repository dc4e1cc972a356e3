-- Meaning. What operators make of values: integers that were computed, and texts, which may spell integers.
use Rattle.std.specs.Prelude.{ℕ, zero, Bool, true, false, not, List, ℤ, pos, ◌+ℤ◌, ◌-ℤ◌, ◌*ℤ◌, neg_ℤ, Option, Some, None, Result, Ok, Err, bytes_eq, bit_and, bit_or, bit_xor}
use Rattle.std.specs.List.{list_any}
use Rattle.std.specs.Int.{w64, cast_signed, cast_unsigned}
use Rattle.std.specs.Fmt.{signed_decimal}
use Rattle.std.specs.Ordering.{nat_cmp, int_cmp}
use Rattle.std.specs.Cmp.Lexicographic.{slice_cmp}
use Rattle.std.specs.declared.cmp.Ordering.{Ordering}
use Rattle.std.specs.declared.cmp.Ordering.TheVariants as ordering
use Rattle.tcl_text.specs.Readings.{integer_of, boolean_of, is_nonzero, list_of}
use Rattle.tcl_text.specs.declared.fault.ListFault.{ListFault}
use Rattle.tcl_expr.specs.Arithmetic.{in_64_bits, complement, floor_quotient, floor_remainder, shifted_left, shifted_right}
use Rattle.tcl_expr.specs.declared.operators.UnaryOperator.{UnaryOperator}
use Rattle.tcl_expr.specs.declared.operators.UnaryOperator.TheVariants.{Negate, Keep, Complement, Not}
use Rattle.tcl_expr.specs.declared.operators.ArithmeticOperator.{ArithmeticOperator}
use Rattle.tcl_expr.specs.declared.operators.ArithmeticOperator.TheVariants.{Multiply, Divide, Remainder, Add, Subtract, ShiftLeft, ShiftRight, BitAnd, BitXor, BitOr}
use Rattle.tcl_expr.specs.declared.operators.Comparison.{Comparison}
use Rattle.tcl_expr.specs.declared.operators.Comparison.TheVariants as comparison
use Rattle.tcl_expr.specs.declared.operators.TextOperator.{TextOperator}
use Rattle.tcl_expr.specs.declared.operators.TextOperator.TheVariants as text_test
use Rattle.tcl_expr.specs.declared.operators.BinaryOperator.{BinaryOperator}
use Rattle.tcl_expr.specs.declared.operators.BinaryOperator.TheVariants as binary
use Rattle.tcl_expr.specs.declared.operators.NumberOperator.{NumberOperator}
use Rattle.tcl_expr.specs.declared.operators.NumberOperator.TheVariants as number_operator
use Rattle.tcl_expr.specs.declared.fault.EvalFault.{EvalFault}
use Rattle.tcl_expr.specs.declared.fault.EvalFault.TheVariants.{NotBoolean, BadList, DivideByZero, Overflow, NotNumber}
use Rattle.tcl_expr.specs.declared.value.Value.{Value}
use Rattle.tcl_expr.specs.declared.value.Value.TheVariants.{Number, Words}

-- the rest of a computation, unless a step before it was refused
infixl 10 ◌>>=◌
abbrev pub ◌>>=◌ : {T U : Type 0} → Result T EvalFault → (T → Result U EvalFault) → Result U EvalFault
Ok value >>= rest = rest value
Err fault >>= rest = Err fault

-- ── what a value is ──

abbrev pub number_of : Value → Option ℤ
number_of (Number n) = Some n
number_of (Words text) = integer_of text

abbrev pub truth_of : Value → Option Bool
truth_of (Number n) = Some (is_nonzero n)
truth_of (Words text) = boolean_of text

abbrev pub text_of_value : Value → List ℕ
text_of_value (Number n) = signed_decimal n
text_of_value (Words text) = text

abbrev pub truth_value : Bool → Value
truth_value true = Number (pos 1)
truth_value false = Number (pos 0)

-- ── what an operator needs ──

abbrev pub truth_or_fault : Value → Option Bool → Result Bool EvalFault
truth_or_fault value (Some truth) = Ok truth
truth_or_fault value None = Err (NotBoolean (text_of_value value))

abbrev pub needed_truth : Value → Result Bool EvalFault
needed_truth value = truth_or_fault value (truth_of value)

abbrev pub number_or_fault : NumberOperator → Option ℤ → Result ℤ EvalFault
number_or_fault operator (Some n) = Ok n
number_or_fault operator None = Err (NotNumber operator)

abbrev pub needed_number : NumberOperator → Value → Result ℤ EvalFault
needed_number operator value = number_or_fault operator (number_of value)

-- ── arithmetic ──

-- an integer that 64 bits hold, or the fault
abbrev pub or_overflow : Option ℤ → Result ℤ EvalFault
or_overflow (Some n) = Ok n
or_overflow None = Err Overflow

abbrev pub quotient : ℤ → ℤ → Result ℤ EvalFault
quotient a (pos zero) = Err DivideByZero
quotient a b = or_overflow (in_64_bits (floor_quotient a b))

abbrev pub remainder : ℤ → ℤ → Result ℤ EvalFault
remainder a (pos zero) = Err DivideByZero
remainder a b = Ok (floor_remainder a b)

-- an operation on the 64 bits of both, in two's complement
abbrev pub on_bits : (ℕ → ℕ → ℕ) → ℤ → ℤ → ℤ
on_bits operation a b = cast_signed w64 (operation (cast_unsigned w64 a) (cast_unsigned w64 b))

abbrev pub arithmetic : ArithmeticOperator → ℤ → ℤ → Result ℤ EvalFault
arithmetic Multiply a b = or_overflow (in_64_bits (a *ℤ b))
arithmetic Divide a b = quotient a b
arithmetic Remainder a b = remainder a b
arithmetic Add a b = or_overflow (in_64_bits (a +ℤ b))
arithmetic Subtract a b = or_overflow (in_64_bits (a -ℤ b))
arithmetic ShiftLeft a b = or_overflow (shifted_left a b)
arithmetic ShiftRight a b = or_overflow (shifted_right a b)
arithmetic BitAnd a b = Ok (on_bits bit_and a b)
arithmetic BitXor a b = Ok (on_bits bit_xor a b)
arithmetic BitOr a b = Ok (on_bits bit_or a b)

-- ── comparisons and tests ──

-- as integers where both are, else as texts by their bytes
abbrev pub order_by : Option ℤ → Option ℤ → Value → Value → Ordering
order_by (Some a) (Some b) x y = int_cmp a b
order_by _ _ x y = slice_cmp nat_cmp (text_of_value x) (text_of_value y)

abbrev pub order : Value → Value → Ordering
order x y = order_by (number_of x) (number_of y) x y

abbrev pub holds : Comparison → Ordering → Bool
holds comparison.Less ordering.Less = true
holds comparison.Less _ = false
holds comparison.LessOrEqual ordering.Greater = false
holds comparison.LessOrEqual _ = true
holds comparison.Greater ordering.Greater = true
holds comparison.Greater _ = false
holds comparison.GreaterOrEqual ordering.Less = false
holds comparison.GreaterOrEqual _ = true
holds comparison.Same ordering.Equal = true
holds comparison.Same _ = false
holds comparison.Different ordering.Equal = false
holds comparison.Different _ = true

abbrev pub is_among : List ℕ → List (List ℕ) → Bool
is_among text items = list_any (λ item. bytes_eq item text) items

abbrev pub among_or_fault : List ℕ → Result (List (List ℕ)) ListFault → Result Bool EvalFault
among_or_fault text (Ok items) = Ok (is_among text items)
among_or_fault text (Err fault) = Err (BadList fault)

abbrev pub is_in : List ℕ → List ℕ → Result Bool EvalFault
is_in text list = among_or_fault text (list_of list)

abbrev pub test : TextOperator → List ℕ → List ℕ → Result Bool EvalFault
test text_test.Same a b = Ok (bytes_eq a b)
test text_test.Different a b = Ok (not (bytes_eq a b))
test text_test.In a b = is_in a b
test text_test.NotIn a b = is_in a b >>= λ found. Ok (not found)

-- ── operators on values ──

abbrev pub unary_value : UnaryOperator → Value → Result Value EvalFault
unary_value Not x = needed_truth x >>= λ truth. Ok (truth_value (not truth))
unary_value Negate x = needed_number (number_operator.Unary Negate) x >>= λ n. or_overflow (in_64_bits (neg_ℤ n)) >>= λ m. Ok (Number m)
unary_value Keep x = needed_number (number_operator.Unary Keep) x >>= λ n. Ok (Number n)
unary_value Complement x = needed_number (number_operator.Unary Complement) x >>= λ n. Ok (Number (complement n))

-- first the left operand has to be an integer, then the right one
abbrev pub arithmetic_value : ArithmeticOperator → Value → Value → Result Value EvalFault
arithmetic_value operator x y =
    needed_number (number_operator.Arithmetic operator) x >>= λ a.
    needed_number (number_operator.Arithmetic operator) y >>= λ b.
    arithmetic operator a b >>= λ n. Ok (Number n)

abbrev pub binary_value : BinaryOperator → Value → Value → Result Value EvalFault
binary_value (binary.Arithmetic operator) x y = arithmetic_value operator x y
binary_value (binary.Comparison operator) x y = Ok (truth_value (holds operator (order x y)))
binary_value (binary.Text operator) x y = test operator (text_of_value x) (text_of_value y) >>= λ truth. Ok (truth_value truth)
