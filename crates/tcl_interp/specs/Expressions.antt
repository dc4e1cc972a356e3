-- Meaning. The values of expressions (expr(n)): operands are read and scripts in brackets are run from the left to the right.
use Rattle.std.specs.Prelude.{ℕ, Bool, true, false, List, [], ◌∷◌, if◌then◌else◌, Option, Some, None, Result, Ok, Err}
use Rattle.tcl_vars.specs.Store.{element_in}
use Rattle.tcl_commands.specs.declared.branches.Branch.{Branch}
use Rattle.tcl_expr.specs.declared.fault.EvalFault.{EvalFault}
use Rattle.tcl_expr.specs.Messages.{eval_message}
use Rattle.tcl_expr.specs.declared.value.Value.{Value}
use Rattle.tcl_expr.specs.declared.value.Value.TheVariants.{Words}
use Rattle.tcl_expr.specs.Trees.{Tree, Integer, Plain, Variable, Element, Command, Joined, Unary, Binary, And, Or, Choice, final_text, joined_values, literal}
use Rattle.tcl_expr.specs.Values.{binary_value, needed_truth, text_of_value, truth_value, unary_value}
use Rattle.tcl_text.specs.Readings.{integer_of}
use Rattle.tcl_control.specs.declared.code.Code.{Code}
use Rattle.tcl_control.specs.declared.code.Code.TheVariants.{Normal, Error}
use Rattle.tcl_control.specs.Expressions.{expression_of, truth_of_text}
use Rattle.tcl_table.specs.Texts.{element_name}
use Rattle.tcl_interp.specs.Evaluation.{State, Outcome, Ended, seen_frame, and_then, on_normal, on_read, with_value_of}

-- with the value of an element
abbrev pub with_value_at : {S : Type 0} → List ℕ → List ℕ → State S → (State S → List ℕ → Outcome S) → Outcome S
with_value_at array index state after = on_read (element_name array index) state after (element_in state.store (seen_frame state) array index)

-- with what an operator gives, unless it was refused
abbrev pub with_result : {S T : Type 0} → State S → (State S → T → Outcome S) → Result T EvalFault → Outcome S
with_result state after (Ok value) = after state value
with_result state after (Err fault) = Ended state Error (eval_message fault)

-- with a value as a boolean
abbrev pub with_truth_of : {S : Type 0} → Value → State S → (State S → Bool → Outcome S) → Outcome S
with_truth_of value state after = with_result state after (needed_truth value)

-- what comes of the value of a condition as a boolean
abbrev pub with_truth : {S : Type 0} → State S → (Bool → State S → Outcome S) → Result Bool (List ℕ) → Outcome S
with_truth state after (Ok truth) = after truth state
with_truth state after (Err text) = Ended state Error text

abbrev pub on_value : {S : Type 0} → (Bool → State S → Outcome S) → State S → Code → List ℕ → Outcome S
on_value after = on_normal (λ state value. with_truth state after (truth_of_text value))

-- one or the other
abbrev pub if_holds : {S : Type 0} → (State S → Outcome S) → (State S → Outcome S) → Bool → State S → Outcome S
if_holds first second true state = first state
if_holds first second false state = second state

-- How a script is run is given.
module _ {S : Type 0} (run : List ℕ → State S → Outcome S) where
  -- The value of a tree, and what is done with it. Operands come from the left to the right; `&&`, `||` and a choice take only those that they need.
  abbrev pub value_meaning : Tree → State S → (State S → Value → Outcome S) → Outcome S
  value_meaning (Integer spelling) state after = with_result state after (literal spelling (integer_of spelling))
  value_meaning (Plain text) state after = after state (Words text)
  value_meaning (Variable name) state after = with_value_of name state (λ left text. after left (Words text))
  value_meaning (Element array index) state after = value_meaning index state (λ left v. with_value_at array (text_of_value v) left (λ read text. after read (Words text)))
  value_meaning (Command script) state after = and_then (run script state) (on_normal (λ left text. after left (Words text)))
  value_meaning (Joined a b) state after = value_meaning a state (λ left x. value_meaning b left (λ next y. with_result next after (joined_values x y)))
  value_meaning (Unary operator a) state after = value_meaning a state (λ left x. with_result left after (unary_value operator x))
  value_meaning (Binary operator a b) state after = value_meaning a state (λ left x. value_meaning b left (λ next y. with_result next after (binary_value operator x y)))
  value_meaning (And a b) state after =
      value_meaning a state (λ left x. with_truth_of x left (λ tested truth. if truth then value_meaning b tested (λ next y. with_truth_of y next (λ last other. after last (truth_value other))) else after tested (truth_value false)))
  value_meaning (Or a b) state after =
      value_meaning a state (λ left x. with_truth_of x left (λ tested truth. if truth then after tested (truth_value true) else value_meaning b tested (λ next y. with_truth_of y next (λ last other. after last (truth_value other)))))
  value_meaning (Choice a b c) state after = value_meaning a state (λ left x. with_truth_of x left (λ tested truth. if truth then value_meaning b tested after else value_meaning c tested after))

  -- an expression that was read: a value that is an integer is given in decimal
  abbrev pub tree_meaning : State S → Result Tree (List ℕ) → Outcome S
  tree_meaning state (Ok tree) = value_meaning tree state (λ left value. Ended left Normal (final_text value))
  tree_meaning state (Err text) = Ended state Error text

  -- an expression
  abbrev pub expression_meaning : List ℕ → State S → Outcome S
  expression_meaning text state = tree_meaning state (expression_of text)

  -- a condition, and what comes of it
  abbrev pub condition_meaning : List ℕ → (Bool → State S → Outcome S) → State S → Outcome S
  condition_meaning text after state = and_then (expression_meaning text state) (on_value after)

  -- the body of `if` where no condition holds
  abbrev pub otherwise_meaning : Option (List ℕ) → State S → Outcome S
  otherwise_meaning (Some body) state = run body state
  otherwise_meaning None state = Ended state Normal []

  -- the first body whose condition holds
  abbrev pub choices_meaning : List Branch → Option (List ℕ) → State S → Outcome S
  choices_meaning [] otherwise state = otherwise_meaning otherwise state
  choices_meaning (branch ∷ branches) otherwise state = condition_meaning branch.test (if_holds (run branch.body) (choices_meaning branches otherwise)) state
