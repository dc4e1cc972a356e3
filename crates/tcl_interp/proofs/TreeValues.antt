-- What an evaluation asks for is answered by the variables and by running scripts: so it comes to the value of its tree.
use Rattle.std.proofs.Common.{◌≡◌, ℕ, Bool, true, false, List, if◌then◌else◌, Result, Ok, Err, refl, ap, ◌∙◌}
use Rattle.std.proofs.Math.Path.{fun_ext}
use Rattle.tcl_text.specs.Readings.{integer_of}
use Rattle.tcl_expr.specs.declared.fault.EvalFault.{EvalFault}
use Rattle.tcl_expr.specs.declared.value.Value.{Value}
use Rattle.tcl_expr.specs.declared.value.Value.TheVariants.{Words}
use Rattle.tcl_expr.specs.Run.{Run, AsksElement, Ends, on_result, on_truth, value}
use Rattle.tcl_expr.specs.Trees.{Tree, Integer, Plain, Variable, Element, Command, Joined, Unary, Binary, And, Or, Choice, final_text, joined_values, literal}
use Rattle.tcl_expr.specs.Values.{binary_value, needed_truth, text_of_value, truth_value, unary_value}
use Rattle.tcl_interp.specs.Asked.{TreeRuns, run_meaning}
use Rattle.tcl_interp.specs.Evaluation.{State, Outcome}
use Rattle.tcl_interp.specs.Expressions.{value_meaning, with_result, with_truth_of}

module _ {S : Type 0} (run : List ℕ → State S → Outcome S) where
  -- what is still to come behind a value
  abbrev behind : {T : Type 0} → (T → Run) → State S → T → Outcome S
  behind go state x = run_meaning run (go x) state

  result_runs : {T : Type 0} (go : T → Run) (result : Result T EvalFault) (state : State S)
      → run_meaning run (on_result result go) state ≡ with_result state (behind go) result
  result_runs go (Ok x) state = refl
  result_runs go (Err fault) state = refl

  -- continuations that agree give the same
  same_behind : (tree : Tree) (state : State S) (f g : State S → Value → Outcome S) → ((left : State S) (v : Value) → f left v ≡ g left v)
      → value_meaning run tree state f ≡ value_meaning run tree state g
  same_behind tree state f g h = ap (value_meaning run tree state) (fun_ext (λ left. fun_ext (λ v. h left v)))

  same_truth : (v : Value) (state : State S) (f g : State S → Bool → Outcome S) → ((left : State S) (truth : Bool) → f left truth ≡ g left truth)
      → with_truth_of v state f ≡ with_truth_of v state g
  same_truth v state f g h = ap (with_truth_of v state) (fun_ext (λ left. fun_ext (λ truth. h left truth)))

  -- the value of a tree, and what it leads to
  abbrev ValueRuns : Tree → Type 0
  ValueRuns tree = (go : Value → Run) (state : State S) → run_meaning run (value tree go) state ≡ value_meaning run tree state (behind go)

  truth_told : (go : Value → Run) (v : Value) (state : State S)
      → run_meaning run (on_truth v (λ other. go (truth_value other))) state ≡ with_truth_of v state (λ last other. behind go last (truth_value other))
  truth_told go v state = result_runs (λ other. go (truth_value other)) (needed_truth v) state

  last_operand : (tree : Tree) → ValueRuns tree → (go : Value → Run) (state : State S)
      → run_meaning run (value tree (λ y. on_truth y (λ other. go (truth_value other)))) state
      ≡ value_meaning run tree state (λ next y. with_truth_of y next (λ last other. behind go last (truth_value other)))
  last_operand tree runs go state =
      runs (λ y. on_truth y (λ other. go (truth_value other))) state
      ∙ same_behind tree state (behind (λ y. on_truth y (λ other. go (truth_value other)))) (λ next y. with_truth_of y next (λ last other. behind go last (truth_value other)))
      (λ left v. truth_told go v left)

  -- a first operand as a boolean, and what is done by it
  by_truth : (tree : Tree) → ValueRuns tree → (go : Bool → Run) (after : State S → Bool → Outcome S)
      → ((state : State S) (truth : Bool) → run_meaning run (go truth) state ≡ after state truth) → (state : State S)
      → run_meaning run (value tree (λ x. on_truth x go)) state ≡ value_meaning run tree state (λ left x. with_truth_of x left after)
  by_truth tree runs go after h state =
      runs (λ x. on_truth x go) state
      ∙ same_behind tree state (behind (λ x. on_truth x go)) (λ left x. with_truth_of x left after)
      (λ left x. result_runs go (needed_truth x) left ∙ same_truth x left (behind go) after h)

  two_operands : (a b : Tree) → ValueRuns a → ValueRuns b → (operation : Value → Value → Result Value EvalFault) (go : Value → Run) (state : State S)
      → run_meaning run (value a (λ x. value b (λ y. on_result (operation x y) go))) state
      ≡ value_meaning run a state (λ left x. value_meaning run b left (λ next y. with_result next (behind go) (operation x y)))
  two_operands a b first second operation go state =
      first (λ x. value b (λ y. on_result (operation x y) go)) state
      ∙ same_behind a state (behind (λ x. value b (λ y. on_result (operation x y) go))) (λ left x. value_meaning run b left (λ next y. with_result next (behind go) (operation x y)))
      (λ left x.
      second (λ y. on_result (operation x y) go) left
      ∙ same_behind b left (behind (λ y. on_result (operation x y) go)) (λ next y. with_result next (behind go) (operation x y)) (λ next y. result_runs go (operation x y) next))

  value_runs : (tree : Tree) → ValueRuns tree
  value_runs (Integer spelling) go state = result_runs go (literal spelling (integer_of spelling)) state
  value_runs (Plain text) go state = refl
  value_runs (Variable name) go state = refl
  value_runs (Element array index) go state = value_runs index (λ v. AsksElement array (text_of_value v) (λ text. go (Words text))) state
  value_runs (Command script) go state = refl
  value_runs (Joined a b) go state = two_operands a b (value_runs a) (value_runs b) joined_values go state
  value_runs (Unary operator a) go state =
      value_runs a (λ x. on_result (unary_value operator x) go) state
      ∙ same_behind a state (behind (λ x. on_result (unary_value operator x) go)) (λ left x. with_result left (behind go) (unary_value operator x))
      (λ left x. result_runs go (unary_value operator x) left)
  value_runs (Binary operator a b) go state = two_operands a b (value_runs a) (value_runs b) (binary_value operator) go state
  value_runs (And a b) go state =
      by_truth a (value_runs a) (λ truth. if truth then value b (λ y. on_truth y (λ other. go (truth_value other))) else go (truth_value false))
      (λ tested truth. if truth then value_meaning run b tested (λ next y. with_truth_of y next (λ last other. behind go last (truth_value other))) else behind go tested (truth_value false))
      (by (value_runs b)) state
    where
      by : ValueRuns b → (tested : State S) (truth : Bool)
          → run_meaning run (if truth then value b (λ y. on_truth y (λ other. go (truth_value other))) else go (truth_value false)) tested
          ≡ (if truth then value_meaning run b tested (λ next y. with_truth_of y next (λ last other. behind go last (truth_value other))) else behind go tested (truth_value false))
      by second tested true = last_operand b second go tested
      by second tested false = refl
  value_runs (Or a b) go state =
      by_truth a (value_runs a) (λ truth. if truth then go (truth_value true) else value b (λ y. on_truth y (λ other. go (truth_value other))))
      (λ tested truth. if truth then behind go tested (truth_value true) else value_meaning run b tested (λ next y. with_truth_of y next (λ last other. behind go last (truth_value other))))
      (by (value_runs b)) state
    where
      by : ValueRuns b → (tested : State S) (truth : Bool)
          → run_meaning run (if truth then go (truth_value true) else value b (λ y. on_truth y (λ other. go (truth_value other)))) tested
          ≡ (if truth then behind go tested (truth_value true) else value_meaning run b tested (λ next y. with_truth_of y next (λ last other. behind go last (truth_value other))))
      by second tested true = refl
      by second tested false = last_operand b second go tested
  value_runs (Choice a b c) go state =
      by_truth a (value_runs a) (λ truth. if truth then value b go else value c go) (λ tested truth. if truth then value_meaning run b tested (behind go) else value_meaning run c tested (behind go))
      (by (value_runs b) (value_runs c)) state
    where
      by : ValueRuns b → ValueRuns c → (tested : State S) (truth : Bool)
          → run_meaning run (if truth then value b go else value c go) tested
          ≡ (if truth then value_meaning run b tested (behind go) else value_meaning run c tested (behind go))
      by second third tested true = second go tested
      by second third tested false = third go tested

  pub tree_runs : TreeRuns run
  tree_runs tree state = value_runs tree (λ v. Ends (Ok (final_text v))) state
