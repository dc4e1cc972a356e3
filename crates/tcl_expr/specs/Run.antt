-- Meaning. What the calls of this crate, where there are no variables and no scripts, make of a tree: its value, a fault, or what has to be asked before
-- evaluating goes on. With the answers that variables and scripts give it is the value of the tree, `value_meaning` of tcl_interp.
use Rattle.std.specs.Prelude.{ℕ, Bool, true, false, List, if◌then◌else◌, Result, Ok, Err}
use Rattle.tcl_expr.specs.declared.fault.EvalFault.{EvalFault}
use Rattle.tcl_expr.specs.declared.value.Value.{Value}
use Rattle.tcl_expr.specs.declared.value.Value.TheVariants.{Words}
use Rattle.tcl_expr.specs.Values.{truth_value, text_of_value, needed_truth, unary_value, binary_value}
use Rattle.tcl_expr.specs.Trees.{Tree, Integer, Plain, Variable, Element, Command, Joined, Unary, Binary, And, Or, Choice, literal, joined_values, final_text}
use Rattle.tcl_text.specs.Readings.{integer_of}

pub data Run : Type 0 where
  -- the value of a variable of this name, and what its value leads to
  AsksVariable : List ℕ → (List ℕ → Run) → Run
  -- the value of an element of an array of this name, by its index
  AsksElement : List ℕ → List ℕ → (List ℕ → Run) → Run
  -- the result of a script
  AsksCommand : List ℕ → (List ℕ → Run) → Run
  Ends : Result (List ℕ) EvalFault → Run

-- what comes of a result, unless it was refused
abbrev pub on_result : {T : Type 0} → Result T EvalFault → (T → Run) → Run
on_result (Ok value) go = go value
on_result (Err fault) go = Ends (Err fault)

-- what comes of a value as a boolean
abbrev pub on_truth : Value → (Bool → Run) → Run
on_truth value go = on_result (needed_truth value) go

-- The value of a tree, and what it leads to. Operands come from the left to the right; `&&`, `||` and a choice take only those that they need.
abbrev pub value : Tree → (Value → Run) → Run
value (Integer spelling) go = on_result (literal spelling (integer_of spelling)) go
value (Plain text) go = go (Words text)
value (Variable name) go = AsksVariable name (λ text. go (Words text))
value (Element array index) go = value index (λ v. AsksElement array (text_of_value v) (λ text. go (Words text)))
value (Command script) go = AsksCommand script (λ text. go (Words text))
value (Joined a b) go = value a (λ x. value b (λ y. on_result (joined_values x y) go))
value (Unary operator a) go = value a (λ x. on_result (unary_value operator x) go)
value (Binary operator a b) go = value a (λ x. value b (λ y. on_result (binary_value operator x y) go))
value (And a b) go = value a (λ x. on_truth x (λ truth. if truth then value b (λ y. on_truth y (λ other. go (truth_value other))) else go (truth_value false)))
value (Or a b) go = value a (λ x. on_truth x (λ truth. if truth then go (truth_value true) else value b (λ y. on_truth y (λ other. go (truth_value other)))))
value (Choice a b c) go = value a (λ x. on_truth x (λ truth. if truth then value b go else value c go))

-- all that the evaluation of a tree comes to
abbrev pub evaluation : Tree → Run
evaluation tree = value tree (λ v. Ends (Ok (final_text v)))
