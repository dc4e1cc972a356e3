-- Steps. Straight code: the steps of an expression, performed on integers alone. A stack is a list of integers, the topmost first. It says nothing
-- where something else is needed than integers, or where an operator refuses them.
use Rattle.std.specs.Prelude.{◌≡◌, ◌<◌, ◌≤◌, ℕ, zero, suc, Bool, true, false, not, if◌then◌else◌, List, [], ◌∷◌, drop, length, ℤ, pos, neg_ℤ, Option, Some, None, option_and_then, Result, Ok, Err}
use Rattle.std.specs.Ordering.{int_cmp}
use Rattle.std.specs.Fmt.{signed_decimal}
use Rattle.tcl_text.specs.Readings.{integer_of, is_nonzero}
use Rattle.tcl_expr.specs.Arithmetic.{in_64_bits, complement}
use Rattle.tcl_expr.specs.declared.fault.EvalFault.{EvalFault}
use Rattle.tcl_expr.specs.declared.operators.UnaryOperator.{UnaryOperator}
use Rattle.tcl_expr.specs.declared.operators.UnaryOperator.TheVariants.{Negate, Keep, Complement, Not}
use Rattle.tcl_expr.specs.declared.operators.BinaryOperator.{BinaryOperator}
use Rattle.tcl_expr.specs.declared.operators.BinaryOperator.TheVariants as binary
use Rattle.tcl_expr.specs.declared.state.State.TheVariants.{Ready}
use Rattle.tcl_expr.specs.declared.step.Step.{Step}
use Rattle.tcl_expr.specs.declared.step.Step.TheVariants as step
use Rattle.tcl_expr.specs.Resuming.{Resumption, evaluation_told}
use Rattle.tcl_expr.specs.Run.{Run, AsksVariable, AsksElement, AsksCommand, Ends}
use Rattle.tcl_expr.specs.Values.{arithmetic, holds}

-- ── integers that wait ──

abbrev pub top_integer : List ℤ → ℤ
top_integer [] = pos 0
top_integer (n ∷ stack) = n

abbrev pub without_integer : List ℤ → List ℤ
without_integer [] = []
without_integer (n ∷ stack) = stack

-- ── operators ──

abbrev pub if_held : Result ℤ EvalFault → Option ℤ
if_held (Ok n) = Some n
if_held (Err fault) = None

abbrev pub truth_integer : Bool → ℤ
truth_integer true = pos 1
truth_integer false = pos 0

abbrev pub unary_integer : UnaryOperator → ℤ → Option ℤ
unary_integer Not n = Some (truth_integer (not (is_nonzero n)))
unary_integer Negate n = in_64_bits (neg_ℤ n)
unary_integer Keep n = Some n
unary_integer Complement n = Some (complement n)

abbrev pub binary_integer : BinaryOperator → ℤ → ℤ → Option ℤ
binary_integer (binary.Arithmetic operator) a b = if_held (arithmetic operator a b)
binary_integer (binary.Comparison comparison) a b = Some (truth_integer (holds comparison (int_cmp a b)))
binary_integer (binary.Text operator) a b = None

-- ── steps ──

-- on with an integer, if there is one
abbrev pub put : Option ℤ → List ℤ → (ℕ → List ℤ → Option ℤ) → Option ℤ
put number stack go = option_and_then (λ n. go 0 (n ∷ stack)) number

-- What a step makes of a stack, where `number` tells which integers variables are, and `go` is what comes behind it with so many steps left out.
abbrev pub perform : (List ℕ → Option ℤ) → Step → List ℤ → (ℕ → List ℤ → Option ℤ) → Option ℤ
perform number step.TooLarge stack go = None
perform number (step.Plain text) stack go = put (integer_of text) stack go
perform number (step.Variable name) stack go = put (number name) stack go
perform number (step.Element array) stack go = None
perform number (step.Command script) stack go = None
perform number step.Join stack go = None
perform number (step.Unary operator) stack go = put (unary_integer operator (top_integer stack)) (without_integer stack) go
perform number (step.Binary operator) stack go =
    put (binary_integer operator (top_integer (without_integer stack)) (top_integer stack)) (without_integer (without_integer stack)) go
perform number (step.And count) stack go = if is_nonzero (top_integer stack) then go 0 (without_integer stack) else go count (pos 0 ∷ without_integer stack)
perform number (step.Or count) stack go = if is_nonzero (top_integer stack) then go count (pos 1 ∷ without_integer stack) else go 0 (without_integer stack)
perform number step.Truth stack go = go 0 (truth_integer (is_nonzero (top_integer stack)) ∷ without_integer stack)
perform number (step.Branch count) stack go = if is_nonzero (top_integer stack) then go 0 (without_integer stack) else go count (without_integer stack)
perform number (step.Jump count) stack go = go count stack

-- the integer that steps come to, of which so many are left out
abbrev pub straight : (List ℕ → Option ℤ) → ℕ → List Step → List ℤ → Option ℤ
straight number skip [] stack = Some (top_integer stack)
straight number (suc skip) (step ∷ steps) stack = straight number skip steps stack
straight number zero (step ∷ steps) stack = perform number step stack (λ skip next. straight number skip steps next)

-- the integer that an evaluation comes to which hasn't begun
abbrev pub ComesTo : (List ℕ → Option ℤ) → Resumption → ℤ → Type 0
ComesTo number evaluation n = (evaluation.state ≡ Ready) × (evaluation.stack ≡ []) × (straight number 0 evaluation.steps [] ≡ Some n)

-- ── what it says ──

-- what evaluating comes to where variables have these texts, if it asks for nothing else
abbrev pub told_by : (List ℕ → Option (List ℕ)) → Run → Option (Result (List ℕ) EvalFault)
told_by values (AsksVariable name go) = option_and_then (λ text. told_by values (go text)) (values name)
told_by values (AsksElement array index go) = None
told_by values (AsksCommand script go) = None
told_by values (Ends result) = Some result

-- where straight code says an integer, that is the value of the evaluation, in decimal
abbrev pub StraightGives : Type 0
StraightGives = (values : List ℕ → Option (List ℕ)) (evaluation : Resumption) (n : ℤ) → ComesTo (λ name. option_and_then integer_of (values name)) evaluation n
    → told_by values (evaluation_told evaluation None) ≡ Some (Ok (signed_decimal n))

-- ── what the code does ──

-- where an integer is put on a stack, the steps go on
abbrev pub Puts : Option ℤ → List ℤ → Option ℕ → List ℤ → Type 0
Puts number old (Some skip) new = (go : ℕ → List ℤ → Option ℤ) → put number old go ≡ go skip new
Puts number old None new = Unit {0}

-- a step, from a stack to a stack, whatever comes behind it
abbrev pub Performs : (List ℕ → Option ℤ) → Step → List ℤ → Option ℕ → List ℤ → Type 0
Performs number step old (Some skip) new = (go : ℕ → List ℤ → Option ℤ) → perform number step old go ≡ go skip new
Performs number step old None new = Unit {0}

-- one step at a place of the steps
abbrev pub Advances : (List ℕ → Option ℤ) → List Step → ℕ → List ℤ → List ℤ → ℕ → Type 0
Advances number steps place old new next =
    (straight number 0 (drop place steps) old ≡ straight number 0 (drop next steps) new) × (place < next) × (next ≤ length steps)
