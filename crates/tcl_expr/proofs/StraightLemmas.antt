-- Straight code says what the evaluation comes to.
use Rattle.std.proofs.Common.{◌≡◌, ℕ, zero, suc, ◌+◌, ◌-◌, ◌<◌, ◌≤◌, min, Bool, true, false, not, List, [], ◌∷◌, length, drop, get_or, Option, Some, None, Result, Ok, Err, refl, sym, ap, subst, ◌∙◌, arith, ◌⊎◌, inl, inr, if◌then◌else◌, is_some, option_and_then}
use Rattle.std.specs.Prelude.{ℤ, pos, neg_ℤ}
use Rattle.std.specs.Ordering.{int_cmp}
use Rattle.std.specs.Fmt.{signed_decimal}
use Rattle.std.proofs.Math.Seq.{drop-cons}
use Rattle.std.proofs.lemmas.List.{drop-drop}
use Rattle.tcl_text.specs.Readings.{integer_of, is_nonzero, boolean_of, boolean_by}
use Rattle.tcl_expr.specs.Arithmetic.{in_64_bits, complement}
use Rattle.tcl_expr.specs.declared.fault.EvalFault.{EvalFault}
use Rattle.tcl_expr.specs.declared.operators.UnaryOperator.{UnaryOperator}
use Rattle.tcl_expr.specs.declared.operators.UnaryOperator.TheVariants.{Negate, Keep, Complement, Not}
use Rattle.tcl_expr.specs.declared.operators.ArithmeticOperator.{ArithmeticOperator}
use Rattle.tcl_expr.specs.declared.operators.BinaryOperator.{BinaryOperator}
use Rattle.tcl_expr.specs.declared.operators.BinaryOperator.TheVariants.{Arithmetic, Comparison, Text}
use Rattle.tcl_expr.specs.declared.operators.NumberOperator.TheVariants as number_operator
use Rattle.tcl_expr.specs.declared.step.Step.{Step}
use Rattle.tcl_expr.specs.declared.value.Value.{Value}
use Rattle.tcl_expr.specs.declared.value.Value.TheVariants.{Number, Words}
use Rattle.tcl_expr.specs.Values.{number_of, number_or_fault, truth_of, truth_or_fault, needed_truth, or_overflow, arithmetic, truth_value, holds, order_by, unary_value, binary_value, ◌>>=◌}
use Rattle.tcl_expr.specs.Trees.{final_by, final_text}
use Rattle.tcl_expr.specs.declared.step.Step.TheVariants as step
use Rattle.tcl_expr.specs.declared.state.State.{State}
use Rattle.tcl_expr.specs.declared.state.State.TheVariants.{Ready}
use Rattle.tcl_expr.specs.Resuming.{Resumption, evaluation_told, is_waiting, to_come}
use Rattle.tcl_expr.specs.Run.{Run, Ends, on_result, on_truth}
use Rattle.tcl_expr.specs.Steps.{top_of, without_top, execute}
use Rattle.tcl_expr.specs.Straight.{top_integer, without_integer, if_held, truth_integer, unary_integer, binary_integer, put, perform, straight, told_by, StraightGives}
use Rattle.tcl_expr.proofs.StepLemmas.{drop_all, drop_capped, swap_sides}
use Rattle.std.proofs.lemmas.Bool.{cases_lt}

-- ── steps in a row ──

-- steps that are left out are as if they weren't there
straight_skip : (number : List ℕ → Option ℤ) (n : ℕ) (steps : List Step) (stack : List ℤ) → straight number n steps stack ≡ straight number 0 (drop n steps) stack
straight_skip number zero steps stack = refl
straight_skip number (suc n) [] stack = refl
straight_skip number (suc n) (step ∷ steps) stack = straight_skip number n steps stack

-- behind the step at a place, with so many left out, the steps go on
pub straight_on : (number : List ℕ → Option ℤ) (steps : List Step) (place next count : ℕ) (step : Step) (old new : List ℤ) → place < length steps → step ≡ get_or steps place step →
    next ≡ place + 1 + min count (length steps - place - 1) → ((go : ℕ → List ℤ → Option ℤ) → perform number step old go ≡ go count new) →
    straight number 0 (drop place steps) old ≡ straight number 0 (drop next steps) new
straight_on number steps place next count step old new h i e p =
    let at : drop place steps ≡ step ∷ drop (suc place) steps = drop-cons steps place step h ∙ ap (λ s. s ∷ drop (suc place) steps) (sym i) in
    ap (λ s. straight number 0 s old) at
    ∙ p (λ skip rest. straight number skip (drop (suc place) steps) rest)
    ∙ straight_skip number count (drop (suc place) steps) new
    ∙ ap (λ s. straight number 0 s new) (drop-drop count (suc place) steps ∙ drop_capped place count steps h (swap_sides (cases_lt (length steps - place - 1) count)) ∙ ap (λ n. drop n steps) (sym e))

-- no step is left
pub straight_ends : (number : List ℕ → Option ℤ) (steps : List Step) (place : ℕ) (stack : List ℤ) (whole : Option ℤ) → length steps ≤ place →
    straight number 0 (drop place steps) stack ≡ whole → whole ≡ Some (top_integer stack)
straight_ends number steps place stack whole h w = sym w ∙ ap (λ s. straight number 0 s stack) (drop_all place steps h)

-- ── values that are integers ──

-- a value is this integer
abbrev pub Is : Value → ℤ → Type 0
Is v n = number_of v ≡ Some n

-- all that wait are these integers
abbrev pub Matches : List Value → List ℤ → Type 0
Matches [] [] = Unit {0}
Matches (v ∷ values) (n ∷ stack) = Is v n × Matches values stack
Matches values stack = ⊥

pub top_is : (values : List Value) (stack : List ℤ) → Matches values stack → Is (top_of values) (top_integer stack)
top_is [] [] m = refl
top_is (v ∷ values) (n ∷ stack) m = m.0
top_is [] (n ∷ stack) m = absurd m
top_is (v ∷ values) [] m = absurd m

pub without_is : (values : List Value) (stack : List ℤ) → Matches values stack → Matches (without_top values) (without_integer stack)
without_is [] [] m = tt
without_is (v ∷ values) (n ∷ stack) m = m.1
without_is [] (n ∷ stack) m = absurd m
without_is (v ∷ values) [] m = absurd m

pub truth_is : (b : Bool) → Is (truth_value b) (truth_integer b)
truth_is true = refl
truth_is false = refl

abbrev truth_by : Option ℤ → Result Bool EvalFault
truth_by (Some n) = Ok (is_nonzero n)
truth_by None = Ok false

-- as a boolean
pub truth_of_is : (v : Value) (n : ℤ) → Is v n → needed_truth v ≡ Ok (is_nonzero n)
unfolding boolean_of
truth_of_is (Number m) n h = ap truth_by h
truth_of_is (Words text) n h = ap (λ o. truth_or_fault (Words text) (boolean_by o text)) h

-- its decimal form
pub final_is : (v : Value) (n : ℤ) → Is v n → final_text v ≡ signed_decimal n
final_is (Number m) n h = ap (λ o. final_by (Number m) o) h
final_is (Words text) n h = ap (final_by (Words text)) h

-- ── operators ──

held_is : (o : Option ℤ) (n : ℤ) → o ≡ Some n → (or_overflow o >>= (λ k. Ok (Number k))) ≡ Ok (Number n)
held_is o n h = ap (λ p. or_overflow p >>= (λ k. Ok (Number k))) h

-- a unary operator on an integer
pub unary_is : (operator : UnaryOperator) (v : Value) (i n : ℤ) → Is v i → unary_integer operator i ≡ Some n → (w : Value) × Is w n × (unary_value operator v ≡ Ok w)
unary_is Not v i n h e = (truth_value (not (is_nonzero i)), truth_is (not (is_nonzero i)) ∙ e, ap (λ r. r >>= (λ truth. Ok (truth_value (not truth)))) (truth_of_is v i h))
unary_is Negate v i n h e = (
  Number n,
  refl,
  ap (λ o. number_or_fault (number_operator.Unary Negate) o >>= (λ k. or_overflow (in_64_bits (neg_ℤ k)) >>= (λ m. Ok (Number m)))) h ∙ held_is (in_64_bits (neg_ℤ i)) n e,
)
unary_is Keep v i n h e = (Number i, e, ap (λ o. number_or_fault (number_operator.Unary Keep) o >>= (λ k. Ok (Number k))) h)
unary_is Complement v i n h e = (Number (complement i), e, ap (λ o. number_or_fault (number_operator.Unary Complement) o >>= (λ k. Ok (Number (complement k)))) h)

computed : (operator : ArithmeticOperator) (x y : Value) (i j n : ℤ) → (r : Result ℤ EvalFault) → arithmetic operator i j ≡ r → Is x i → Is y j → if_held r ≡ Some n
    → (v : Value) × Is v n × (binary_value (Arithmetic operator) x y ≡ Ok v)
computed operator x y i j n (Ok m) is hx hy h = (
  Number m,
  h,
  ap (λ o. number_or_fault (number_operator.Arithmetic operator) o >>= (λ a. number_or_fault (number_operator.Arithmetic operator) (number_of y) >>= (λ b. arithmetic operator a b >>= (λ k. Ok (Number k))))) hx
      ∙ ap (λ o. number_or_fault (number_operator.Arithmetic operator) o >>= (λ b. arithmetic operator i b >>= (λ k. Ok (Number k)))) hy
      ∙ ap (λ r. r >>= (λ k. Ok (Number k))) is,
)
computed operator x y i j n (Err fault) is hx hy h = absurd (cc)

-- an operator between two integers
pub binary_is : (operator : BinaryOperator) (x y : Value) (i j n : ℤ) → Is x i → Is y j → binary_integer operator i j ≡ Some n → (v : Value) × Is v n × (binary_value operator x y ≡ Ok v)
binary_is (Arithmetic operator) x y i j n hx hy h = computed operator x y i j n (arithmetic operator i j) refl hx hy h
binary_is (Comparison comparison) x y i j n hx hy h = (
  truth_value (holds comparison (int_cmp i j)),
  truth_is (holds comparison (int_cmp i j)) ∙ h,
  ap (λ o. Ok (truth_value (holds comparison (order_by o (number_of y) x y)))) hx ∙ ap (λ o. Ok (truth_value (holds comparison (order_by (Some i) o x y)))) hy,
)
binary_is (Text operator) x y i j n hx hy h = absurd (cc)

-- ── an evaluation ──

on_some : {T : Type 0} (o : Option ℤ) (f : ℤ → Option ℤ) (n : ℤ) → option_and_then f o ≡ Some n → ((i : ℤ) → o ≡ Some i → f i ≡ Some n → T) → T
on_some (Some i) f n h go = go i refl h
on_some None f n h go = absurd (cc)

on_either : {T : Type 0} (b : Bool) (x y : Option ℤ) (n : ℤ) → (if b then x else y) ≡ Some n → (b ≡ true → x ≡ Some n → T) → (b ≡ false → y ≡ Some n → T) → T
on_either true x y n h first second = first refl h
on_either false x y n h first second = second refl h

-- one way or the other, by a value that is an integer
either_run : (v : Value) (i : ℤ) (b : Bool) (x y : Run) → Is v i → is_nonzero i ≡ b → on_truth v (λ truth. if truth then x else y) ≡ (if b then x else y)
either_run v i b x y is e = ap (λ r. on_result r (λ truth. if truth then x else y)) (truth_of_is v i is ∙ ap Ok e)

-- What is left of an evaluation is `At` its steps, whatever that means: steps that ask nothing are passed, and where a variable is asked that is an
-- integer, its text is given.
module _ (number : List ℕ → Option ℤ) (n : ℤ) (At : List Step → Run → Type 0)
    (past : (own : Step) (steps : List Step) (run next : Run) → run ≡ next → At (own ∷ steps) run → At steps next)
    (asked : (name : List ℕ) (steps : List Step) (values : List Value) (i : ℤ) → number name ≡ Some i → At (step.Variable name ∷ steps) (execute 0 (step.Variable name ∷ steps) values)
    → (text : List ℕ) × (integer_of text ≡ Some i) × At steps (execute 0 steps (Words text ∷ values))) where
  -- Straight code that comes to an integer leads to its decimal form: by how many steps are left out, and what waits.
  pub goes : (steps : List Step) (skip : ℕ) (stack : List ℤ) (values : List Value) → Matches values stack → straight number skip steps stack ≡ Some n
      → At steps (execute skip steps values) → At [] (Ends (Ok (signed_decimal n)))
  goes [] skip stack values m h at = subst (λ text. At [] (Ends (Ok text))) (final_is (top_of values) n (top_is values stack m ∙ h)) at
  goes (own ∷ steps) (suc skip) stack values m h at = goes steps skip stack values m h (past own steps _ _ refl at)
  goes (step.TooLarge ∷ steps) zero stack values m h at = absurd (cc)
  goes (step.Plain text ∷ steps) zero stack values m h at =
      on_some (integer_of text) (λ i. straight number 0 steps (i ∷ stack)) n h
      (λ i e h'. goes steps 0 (i ∷ stack) (Words text ∷ values) (e, m) h' (past (step.Plain text) steps _ _ refl at))
  goes (step.Variable name ∷ steps) zero stack values m h at =
      on_some (number name) (λ i. straight number 0 steps (i ∷ stack)) n h
      (λ i e h'. let it = asked name steps values i e at in goes steps 0 (i ∷ stack) (Words it.0 ∷ values) (it.1, m) h' it.2)
  goes (step.Element array ∷ steps) zero stack values m h at = absurd (cc)
  goes (step.Command script ∷ steps) zero stack values m h at = absurd (cc)
  goes (step.Join ∷ steps) zero stack values m h at = absurd (cc)
  goes (step.Unary operator ∷ steps) zero stack values m h at =
      on_some (unary_integer operator (top_integer stack)) (λ i. straight number 0 steps (i ∷ without_integer stack)) n h
      (λ i e h'. let done = unary_is operator (top_of values) (top_integer stack) i (top_is values stack m) e in
      goes steps 0 (i ∷ without_integer stack) (done.0 ∷ without_top values) (done.1, without_is values stack m) h'
      (past (step.Unary operator) steps _ _ (ap (λ r. on_result r (λ v. execute 0 steps (v ∷ without_top values))) done.2) at))
  goes (step.Binary operator ∷ steps) zero stack values m h at =
      let under = without_is values stack m in
      let left = top_is (without_top values) (without_integer stack) under in
      on_some (binary_integer operator (top_integer (without_integer stack)) (top_integer stack)) (λ i. straight number 0 steps (i ∷ without_integer (without_integer stack))) n h
      (λ i e h'. let done = binary_is operator (top_of (without_top values)) (top_of values) (top_integer (without_integer stack)) (top_integer stack) i left (top_is values stack m) e in
      goes steps 0 (i ∷ without_integer (without_integer stack)) (done.0 ∷ without_top (without_top values)) (done.1, without_is (without_top values) (without_integer stack) under) h'
      (past (step.Binary operator) steps _ _ (ap (λ r. on_result r (λ v. execute 0 steps (v ∷ without_top (without_top values)))) done.2) at))
  goes (step.And count ∷ steps) zero stack values m h at =
      let rest = without_is values stack m in
      let first = execute 0 steps (without_top values) in
      let second = execute count steps (truth_value false ∷ without_top values) in
      on_either (is_nonzero (top_integer stack)) (straight number 0 steps (without_integer stack)) (straight number count steps (pos 0 ∷ without_integer stack)) n h
      (λ e h'. goes steps 0 (without_integer stack) (without_top values) rest h'
      (past (step.And count) steps _ _ (either_run (top_of values) (top_integer stack) true first second (top_is values stack m) e) at))
      (λ e h'. goes steps count (pos 0 ∷ without_integer stack) (truth_value false ∷ without_top values) (refl, rest) h'
      (past (step.And count) steps _ _ (either_run (top_of values) (top_integer stack) false first second (top_is values stack m) e) at))
  goes (step.Or count ∷ steps) zero stack values m h at =
      let rest = without_is values stack m in
      let first = execute count steps (truth_value true ∷ without_top values) in
      let second = execute 0 steps (without_top values) in
      on_either (is_nonzero (top_integer stack)) (straight number count steps (pos 1 ∷ without_integer stack)) (straight number 0 steps (without_integer stack)) n h
      (λ e h'. goes steps count (pos 1 ∷ without_integer stack) (truth_value true ∷ without_top values) (refl, rest) h'
      (past (step.Or count) steps _ _ (either_run (top_of values) (top_integer stack) true first second (top_is values stack m) e) at))
      (λ e h'. goes steps 0 (without_integer stack) (without_top values) rest h'
      (past (step.Or count) steps _ _ (either_run (top_of values) (top_integer stack) false first second (top_is values stack m) e) at))
  goes (step.Truth ∷ steps) zero stack values m h at =
      let b = is_nonzero (top_integer stack) in
      goes steps 0 (truth_integer b ∷ without_integer stack) (truth_value b ∷ without_top values) (truth_is b, without_is values stack m) h
      (past step.Truth steps _ _ (ap (λ r. on_result r (λ truth. execute 0 steps (truth_value truth ∷ without_top values))) (truth_of_is (top_of values) (top_integer stack) (top_is values stack m))) at)
  goes (step.Branch count ∷ steps) zero stack values m h at =
      let rest = without_is values stack m in
      let first = execute 0 steps (without_top values) in
      let second = execute count steps (without_top values) in
      on_either (is_nonzero (top_integer stack)) (straight number 0 steps (without_integer stack)) (straight number count steps (without_integer stack)) n h
      (λ e h'. goes steps 0 (without_integer stack) (without_top values) rest h'
      (past (step.Branch count) steps _ _ (either_run (top_of values) (top_integer stack) true first second (top_is values stack m) e) at))
      (λ e h'. goes steps count (without_integer stack) (without_top values) rest h'
      (past (step.Branch count) steps _ _ (either_run (top_of values) (top_integer stack) false first second (top_is values stack m) e) at))
  goes (step.Jump count ∷ steps) zero stack values m h at = goes steps count stack values m h (past (step.Jump count) steps _ _ refl at)

told_ready : (evaluation : Resumption) → evaluation.state ≡ Ready → evaluation.stack ≡ [] → evaluation_told evaluation None ≡ execute 0 evaluation.steps []
told_ready evaluation ready empty = ap (λ s. to_come s evaluation.steps evaluation.stack) ready ∙ ap (λ s. execute 0 evaluation.steps s) empty

none_given : (given : Option (List ℕ)) (state : State) → state ≡ Ready → is_some given ≡ is_waiting state → given ≡ None
none_given None state ready e = refl
none_given (Some text) state ready e = absurd (cc)

-- an evaluation that hasn't begun is that of its steps
pub begins_ready : (evaluation : Resumption) (given : Option (List ℕ)) → is_some given ≡ is_waiting evaluation.state → evaluation.state ≡ Ready → evaluation.stack ≡ []
    → evaluation_told evaluation given ≡ execute 0 evaluation.steps []
begins_ready evaluation given answered ready empty =
    ap (λ g. evaluation_told evaluation g) (none_given given evaluation.state ready answered) ∙ told_ready evaluation ready empty

-- where variables have these texts, straight code says what the evaluation comes to
pub straight_gives : StraightGives
straight_gives values evaluation n (ready, empty, comes) =
    ap (told_by values) (told_ready evaluation ready empty)
    ∙ goes (λ name. option_and_then integer_of (values name)) n (λ steps run. told_by values (execute 0 evaluation.steps []) ≡ told_by values run)
    (λ own steps run next e at. at ∙ ap (told_by values) e)
    (λ name steps read i e at. asked name (λ text. execute 0 steps (Words text ∷ read)) i (values name) e at)
    evaluation.steps 0 [] [] tt comes refl
  where
    asked : (name : List ℕ) (go : List ℕ → Run) (i : ℤ) (o : Option (List ℕ)) → option_and_then integer_of o ≡ Some i
        → told_by values (execute 0 evaluation.steps []) ≡ option_and_then (λ text. told_by values (go text)) o
        → (text : List ℕ) × (integer_of text ≡ Some i) × (told_by values (execute 0 evaluation.steps []) ≡ told_by values (go text))
    asked name go i (Some text) e at = (text, e, at)
    asked name go i None e at = absurd (cc)
