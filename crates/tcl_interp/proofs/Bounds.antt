-- Steps never rise, so the number of iterations that bounds a loop or a task doesn't matter.
use Rattle.std.proofs.Common.{◌≡◌, ℕ, zero, suc, ◌≤◌, ◌<◌, Bool, true, false, cond, List, [], ◌∷◌, ◌++◌, length, nat_le, Option, Some, None, Result, Ok, Err, refl, sym, subst, arith}
use Rattle.tcl_words.specs.declared.script.Command.{Command}
use Rattle.tcl_words.specs.declared.script.Word.{Word}
use Rattle.tcl_words.specs.declared.script.Piece.{Piece}
use Rattle.tcl_words.specs.declared.script.Piece.TheVariants.{Literal, Variable, Element, Bracket}
use Rattle.tcl_text.specs.declared.fault.ParseFault.{ParseFault}
use Rattle.tcl_vars.specs.Store.{variable_in, element_in}
use Rattle.tcl_text.specs.declared.fault.ReadFault.{ReadFault}
use Rattle.tcl_control.specs.declared.code.Code.{Code}
use Rattle.tcl_control.specs.declared.code.Code.TheVariants.{Normal, Error, Return, Break, Continue}
use Rattle.tcl_control.specs.declared.control.Call.{Call}
use Rattle.tcl_control.specs.declared.control.Call.TheVariants as call
use Rattle.tcl_control.specs.declared.plan.Plan.{Plan}
use Rattle.tcl_control.specs.declared.plan.Plan.TheVariants as plan
use Rattle.tcl_control.specs.declared.loops.Test.{Test}
use Rattle.tcl_control.specs.declared.loops.Test.TheVariants.{Holds, Items}
use Rattle.tcl_commands.specs.declared.branches.Branch.{Branch}
use Rattle.tcl_commands.specs.declared.groups.Group.{Group}
use Rattle.tcl_expr.specs.declared.fault.EvalFault.{EvalFault}
use Rattle.tcl_expr.specs.Run.{Run as Evaluating, AsksVariable, AsksElement, AsksCommand, Ends, evaluation}
use Rattle.tcl_expr.specs.Trees.{Tree}
use Rattle.tcl_control.specs.Expressions.{expression_of, truth_of_text}
use Rattle.tcl_control.specs.declared.loops.Loop.{Loop}
use Rattle.tcl_control.specs.Control.{Called, call_of}
use Rattle.tcl_table.specs.Source.{script_of}
use Rattle.tcl_table.specs.Texts.{element_name}
use Rattle.tcl_control.specs.Loops.{Tested, More, NoMore, Fails, items_tested}
use Rattle.tcl_interp.proofs.TreeValues.{tree_runs}
use Rattle.tcl_interp.specs.declared.tasks.Act.{Act}
use Rattle.tcl_interp.specs.declared.tasks.Act.TheVariants.{Done, Step, Run, Unknown}
use Rattle.tcl_interp.specs.Outside.{Outside, Falls, RunsBelow}
use Rattle.tcl_interp.specs.Evaluation.{State, Outcome, Ended, OutOfSteps, seen_frame, and_then, on_normal, stepped, on_read, words_of, on_words, index_pieces, element_read, on_index, piece_meaning, pieces_meaning, element_within, element_meaning, words_meaning, called, commands_meaning}
use Rattle.tcl_interp.specs.Plans.{with_first_levels, others, levels_back, procedure_ended, caught, on_tested, loop_ended, after_body, after_next, run_at, next_iteration, test_meaning, iteration_meaning, iterations_meaning, loop_meaning, plan_meaning}
use Rattle.tcl_interp.specs.Expressions.{with_truth, on_value, if_holds, tree_meaning, expression_meaning, condition_meaning, otherwise_meaning, choices_meaning}
use Rattle.tcl_interp.specs.Asked.{value_ended, run_meaning}
use Rattle.tcl_interp.specs.Acts.{on_act, resumed, after_step, task_meaning, act_meaning, script_meaning, outside_meaning}
use Rattle.tcl_interp.specs.Scripts.{out_of_global, by_call, call_meaning, on_parsed}

-- where something ends, at most so many steps are left
abbrev pub Within : {S : Type 0} → ℕ → Outcome S → Type 0
Within n (Ended state code text) = state.steps ≤ n
Within n (OutOfSteps state) = Unit {0}

-- how a script is run, or a command called, lets steps only fall
abbrev pub Bounded : {S A : Type 0} → (A → State S → Outcome S) → Type 0
Bounded {S} {A} run = (n : ℕ) (x : A) (state : State S) → state.steps ≤ n → Within n (run x state)

pub within_and_then : {S : Type 0} (n : ℕ) (o : Outcome S) (f : State S → Code → List ℕ → Outcome S) → Within n o → ((state : State S) (code : Code) (text : List ℕ) → state.steps ≤ n → Within n (f state code text)) → Within n (and_then o f)
within_and_then n (Ended state code text) f w h = h state code text w
within_and_then n (OutOfSteps state) f w h = tt

pub within_on_normal : {S : Type 0} (n : ℕ) (f : State S → List ℕ → Outcome S) → ((state : State S) (text : List ℕ) → state.steps ≤ n → Within n (f state text)) → (state : State S) (code : Code) (text : List ℕ) → state.steps ≤ n → Within n (on_normal f state code text)
within_on_normal n f h state Normal text w = h state text w
within_on_normal n f h state Error text w = w
within_on_normal n f h state (Return code) text w = w
within_on_normal n f h state Break text w = w
within_on_normal n f h state Continue text w = w

pub within_stepped : {S : Type 0} (n left : ℕ) (state : State S) (f : State S → Outcome S) → left ≤ n → ((state : State S) → state.steps ≤ n → Within n (f state)) → Within n (stepped left state f)
within_stepped n zero state f w h = tt
within_stepped n (suc left) state f w h = h (record state { steps = left }) (omega arith)

pub within_on_read : {S : Type 0} (n : ℕ) (name : List ℕ) (state : State S) (f : State S → List ℕ → Outcome S) (value : Result (List ℕ) ReadFault) → state.steps ≤ n → ((text : List ℕ) → Within n (f state text)) → Within n (on_read name state f value)
within_on_read n name state f (Ok value) w h = h value
within_on_read n name state f (Err fault) w h = w

pub within_cond : {S : Type 0} (n : ℕ) (b : Bool) (o p : Outcome S) → Within n o → Within n p → Within n (cond b o p)
within_cond n true o p w v = w
within_cond n false o p w v = v

pub within_on_words : {S : Type 0} (n : ℕ) (state : State S) (f : State S → List (List ℕ) → Outcome S) (words : Result (List (List ℕ)) (List ℕ)) → state.steps ≤ n → ((more : List (List ℕ)) → Within n (f state more)) → Within n (on_words state f words)
within_on_words n state f (Ok more) w h = h more
within_on_words n state f (Err text) w h = w

within_on_index : {S : Type 0} (n : ℕ) (state : State S) (f : List Piece → Outcome S) (pieces : Result (List Piece) ParseFault) → state.steps ≤ n → ((ps : List Piece) → Within n (f ps)) → Within n (on_index state f pieces)
within_on_index n state f (Ok pieces) w h = h pieces
within_on_index n state f (Err fault) w h = w

-- how an element is read lets steps only fall
abbrev pub BoundedElement : {S : Type 0} → (List ℕ → List ℕ → State S → Outcome S) → Type 0
BoundedElement {S} element = (n : ℕ) (name index : List ℕ) (state : State S) → state.steps ≤ n → Within n (element name index state)

module _ {S : Type 0} (run : List ℕ → State S → Outcome S) (element : List ℕ → List ℕ → State S → Outcome S) (run_falls : Bounded run) (element_falls : BoundedElement element) where
  pub within_piece : (n : ℕ) (piece : Piece) (state : State S) (f : State S → List ℕ → Outcome S) → state.steps ≤ n → ((state' : State S) (text : List ℕ) → state'.steps ≤ n → Within n (f state' text)) → Within n (piece_meaning run element piece state f)
  within_piece n (Literal text) state f w h = h state text w
  within_piece n (Variable name) state f w h = within_on_read n name state f (variable_in state.store (seen_frame state) name) w (λ text. h state text w)
  within_piece n (Element name index) state f w h = within_and_then n (element name index state) (on_normal f) (element_falls n name index state w) (within_on_normal n f h)
  within_piece n (Bracket script) state f w h = within_and_then n (run script state) (on_normal f) (run_falls n script state w) (within_on_normal n f h)

  pub within_pieces : (n : ℕ) (pieces : List Piece) (so_far : List ℕ) (state : State S) (f : State S → List ℕ → Outcome S) → state.steps ≤ n → ((state' : State S) (text : List ℕ) → state'.steps ≤ n → Within n (f state' text)) → Within n (pieces_meaning run element pieces so_far state f)
  within_pieces n [] so_far state f w h = h state so_far w
  within_pieces n (piece ∷ pieces) so_far state f w h =
      within_piece n piece state _ w (λ state' text w'.
      within_cond n (nat_le (length (so_far ++ text)) 65536) _ _ (within_pieces n pieces (so_far ++ text) state' f w' h) w')

pub within_element_within : {S : Type 0} (run : List ℕ → State S → Outcome S) → Bounded run → (depth : ℕ) → BoundedElement (element_within run depth)
within_element_within run run_falls zero n name index state w = w
within_element_within run run_falls (suc depth) n name index state w =
    within_on_index n state (λ ps. pieces_meaning run (element_within run depth) ps [] state (element_read name)) (index_pieces index) w (λ ps.
    within_pieces run (element_within run depth) run_falls (within_element_within run run_falls depth) n ps [] state (element_read name) w
    (λ state' text w'. within_on_read n (element_name name text) state' (λ state'' value. Ended state'' Normal value) (element_in state'.store (seen_frame state') name text) w' (λ value. w')))

pub within_element : {S : Type 0} (run : List ℕ → State S → Outcome S) → Bounded run → BoundedElement (element_meaning run)
within_element run run_falls n name index state w = within_element_within run run_falls (suc (length index)) n name index state w

module _ {S : Type 0} (run : List ℕ → State S → Outcome S) (call : List (List ℕ) → State S → Outcome S) (run_falls : Bounded run) where
  pub within_words : (n : ℕ) (words : List Word) (whole : List (List ℕ)) (state : State S) (f : State S → List (List ℕ) → Outcome S) → state.steps ≤ n → ((state' : State S) (all : List (List ℕ)) → state'.steps ≤ n → Within n (f state' all)) → Within n (words_meaning run call words whole state f)
  within_words n [] whole state f w h = h state whole w
  within_words n (word ∷ words) whole state f w h =
      within_pieces run (element_meaning run) run_falls (within_element run run_falls) n word.pieces [] state _ w (λ state' text w'.
      within_on_words n state' (λ state'' more. words_meaning run call words (whole ++ more) state'' f) (words_of word.expand text) w' (λ more. within_words n words (whole ++ more) state' f w' h))

  pub within_called : Bounded call → (n : ℕ) (state : State S) (words : List (List ℕ)) → state.steps ≤ n → Within n (called run call state words)
  within_called c n state [] w = w
  within_called c n state (name ∷ arguments) w = within_stepped n state.steps state _ w (λ state' w'. c n (name ∷ arguments) state' w')

  pub within_commands : Bounded call → (n : ℕ) (commands : List Command) (result : List ℕ) (state : State S) → state.steps ≤ n → Within n (commands_meaning run call commands result state)
  within_commands c n [] result state w = w
  within_commands c n (command ∷ commands) result state w =
      within_and_then n _ _ (within_words n command.words [] state _ w (λ state' all w'. within_called c n state' all w'))
      (within_on_normal n _ (λ state' text w'. within_commands c n commands text state' w'))

within_on_tested : {S : Type 0} (n : ℕ) (state : State S) (f : List Group → State S → Outcome S) (test : Tested) → state.steps ≤ n → ((after : List Group) (state' : State S) → state'.steps ≤ n → Within n (f after state')) → Within n (on_tested state f test)
within_on_tested n state f (More store after) w h = h after (record state { store = store }) w
within_on_tested n state f (NoMore store) w h = w
within_on_tested n state f (Fails store text) w h = w

pub within_after_body : {S : Type 0} (n : ℕ) (again : State S → Outcome S) → ((state : State S) → state.steps ≤ n → Within n (again state)) → (state : State S) (code : Code) (text : List ℕ) → state.steps ≤ n → Within n (after_body again state code text)
within_after_body n again h state Normal text w = h state w
within_after_body n again h state Continue text w = h state w
within_after_body n again h state Break text w = w
within_after_body n again h state Error text w = w
within_after_body n again h state (Return code) text w = w

pub within_after_next : {S : Type 0} (n : ℕ) (again : State S → Outcome S) → ((state : State S) → state.steps ≤ n → Within n (again state)) → (state : State S) (code : Code) (text : List ℕ) → state.steps ≤ n → Within n (after_next again state code text)
within_after_next n again h state Normal text w = h state w
within_after_next n again h state Continue text w = w
within_after_next n again h state Break text w = w
within_after_next n again h state Error text w = w
within_after_next n again h state (Return code) text w = w

within_on_truth : {S : Type 0} (n : ℕ) (state : State S) (f : Bool → State S → Outcome S) (truth : Result Bool (List ℕ)) → state.steps ≤ n → ((holds : Bool) (state' : State S) → state'.steps ≤ n → Within n (f holds state')) → Within n (with_truth state f truth)
within_on_truth n state f (Ok holds) w h = h holds state w
within_on_truth n state f (Err text) w h = w

pub within_on_value : {S : Type 0} (n : ℕ) (f : Bool → State S → Outcome S) → ((holds : Bool) (state' : State S) → state'.steps ≤ n → Within n (f holds state')) → (state : State S) (code : Code) (text : List ℕ) → state.steps ≤ n → Within n (on_value f state code text)
within_on_value n f h = within_on_normal n _ (λ state value w. within_on_truth n state f (truth_of_text value) w h)

pub within_if : {S : Type 0} (n : ℕ) (first second : State S → Outcome S) → ((state : State S) → state.steps ≤ n → Within n (first state)) → ((state : State S) → state.steps ≤ n → Within n (second state)) → (holds : Bool) (state : State S) → state.steps ≤ n → Within n (if_holds first second holds state)
within_if n first second y z true state w = y state w
within_if n first second y z false state w = z state w

within_value_ended : {S : Type 0} (n : ℕ) (state : State S) (result : Result (List ℕ) EvalFault) → state.steps ≤ n → Within n (value_ended state result)
within_value_ended n state (Ok value) w = w
within_value_ended n state (Err fault) w = w

module _ {S : Type 0} (run : List ℕ → State S → Outcome S) (run_falls : Bounded run) where
  pub within_run : (n : ℕ) (r : Evaluating) (state : State S) → state.steps ≤ n → Within n (run_meaning run r state)
  within_run n (AsksVariable name go) state w = within_on_read n name state (λ state' value. run_meaning run (go value) state') (variable_in state.store (seen_frame state) name) w (λ value. within_run n (go value) state w)
  within_run n (AsksElement array index go) state w =
      within_on_read n (element_name array index) state (λ state' value. run_meaning run (go value) state') (element_in state.store (seen_frame state) array index) w (λ value. within_run n (go value) state w)
  within_run n (AsksCommand script go) state w =
      within_and_then n (run script state) (on_normal (λ state' value. run_meaning run (go value) state')) (run_falls n script state w)
      (within_on_normal n (λ state' value. run_meaning run (go value) state') (λ state' value w'. within_run n (go value) state' w'))
  within_run n (Ends result) state w = within_value_ended n state result w

  within_tree : (n : ℕ) (state : State S) (tree : Result Tree (List ℕ)) → state.steps ≤ n → Within n (tree_meaning run state tree)
  within_tree n state (Ok tree) w = subst (λ (o : Outcome S). Within n o) (tree_runs run tree state) (within_run n (evaluation tree) state w)
  within_tree n state (Err text) w = w

  pub within_expression : (n : ℕ) (text : List ℕ) (state : State S) → state.steps ≤ n → Within n (expression_meaning run text state)
  within_expression n text state w = within_tree n state (expression_of text) w

  pub within_condition : (n : ℕ) (text : List ℕ) (f : Bool → State S → Outcome S) (state : State S) → state.steps ≤ n → ((holds : Bool) (state' : State S) → state'.steps ≤ n → Within n (f holds state')) → Within n (condition_meaning run text f state)
  within_condition n text f state w h = within_and_then n (expression_meaning run text state) (on_value f) (within_expression n text state w) (within_on_value n f h)

  pub within_otherwise : (n : ℕ) (otherwise : Option (List ℕ)) (state : State S) → state.steps ≤ n → Within n (otherwise_meaning run otherwise state)
  within_otherwise n (Some body) state w = run_falls n body state w
  within_otherwise n None state w = w

  pub within_choices : (n : ℕ) (branches : List Branch) (otherwise : Option (List ℕ)) (state : State S) → state.steps ≤ n → Within n (choices_meaning run branches otherwise state)
  within_choices n [] otherwise state w = within_otherwise n otherwise state w
  within_choices n (branch ∷ branches) otherwise state w =
      within_condition n branch.test _ state w
      (within_if n (run branch.body) (choices_meaning run branches otherwise) (λ state' w'. run_falls n branch.body state' w') (λ state' w'. within_choices n branches otherwise state' w'))

  pub within_run_at : (n count : ℕ) (script : List ℕ) (state : State S) → state.steps ≤ n → Within n (run_at run count script state)
  within_run_at n count script state w =
      within_and_then n (run script (record state { context = with_first_levels count state.context })) (levels_back (others count state.context)) (run_falls n script (record state { context = with_first_levels count state.context }) w) (λ state' code text w'. w')

  pub within_next : (n : ℕ) (next : Option (List ℕ)) (again : State S → Outcome S) → ((state : State S) → state.steps ≤ n → Within n (again state)) → (state : State S) → state.steps ≤ n → Within n (next_iteration run next again state)
  within_next n None again h state w = h state w
  within_next n (Some script) again h state w = within_and_then n (run script state) (after_next again) (run_falls n script state w) (within_after_next n again h)

  within_test : (n : ℕ) (test : Test) (body : Test → State S → Outcome S) (state : State S) → state.steps ≤ n → ((after : Test) (state' : State S) → state'.steps ≤ n → Within n (body after state')) → Within n (test_meaning run test body state)
  within_test n (Holds condition) body state w h = within_condition n condition _ state w (within_if n (body (Holds condition)) loop_ended (h (Holds condition)) (λ state' w'. w'))
  within_test n (Items groups) body state w h = within_on_tested n state _ (items_tested (seen_frame state) groups state.store) w (λ left state' w'. h (Items left) state' w')

  pub within_iteration : (n : ℕ) (looping : Loop) (again : State S → Outcome S) → ((state : State S) → state.steps ≤ n → Within n (again state)) → (state : State S) → state.steps ≤ n → Within n (iteration_meaning run looping again state)
  within_iteration n looping again h state w =
      within_and_then n (run looping.body state) (after_body (next_iteration run looping.next again)) (run_falls n looping.body state w) (within_after_body n _ (within_next n looping.next again h))

  pub within_iterations : (n : ℕ) (looping : Loop) (iterations : ℕ) (state : State S) → state.steps ≤ n → Within n (iterations_meaning run looping iterations state)
  within_iterations n looping zero state w = tt
  within_iterations n looping (suc iterations) state w =
      within_stepped n state.steps state _ w (λ state' w'.
      within_test n looping.test _ state' w' (λ test state'' w''.
      within_iteration n looping (iterations_meaning run (record looping { test = test }) iterations) (λ state3 w3. within_iterations n (record looping { test = test }) iterations state3 w3) state'' w''))

  within_plan : (p : Plan) (n : ℕ) (state : State S) → state.steps ≤ n → Within n (plan_meaning run p state)
  within_plan (plan.Ends code text) n state w = w
  within_plan (plan.Runs script) n state w = run_falls n script state w
  within_plan (plan.Catches script name) n state w = within_and_then n (run script state) (caught name) (run_falls n script state w) (λ state' code text w'. w')
  within_plan (plan.RunsAt count script) n state w = within_run_at n count script state w
  within_plan (plan.Enters body) n state w = within_and_then n (run body state) procedure_ended (run_falls n body state w) (λ state' code text w'. w')
  within_plan (plan.Evaluates expression) n state w = within_expression n expression state w
  within_plan (plan.Chooses choices) n state w = within_choices n choices.branches choices.otherwise state w
  within_plan (plan.Loops looping) n state w = within_iterations n looping state.steps state w
  within_plan (plan.Starts script looping) n state w =
      within_and_then n (run script state) (on_normal (λ state' text. loop_meaning run looping state')) (run_falls n script state w)
      (within_on_normal n (λ state' text. loop_meaning run looping state') (λ state' text w'. within_iterations n looping state'.steps state' w'))

-- ── the same iterations ──

pub stepped_same : {S : Type 0} (left : ℕ) (state : State S) (f g : State S → Outcome S) → ((state : State S) → state.steps < left → f state ≡ g state) → stepped left state f ≡ stepped left state g
stepped_same zero state f g h = refl
stepped_same (suc left) state f g h = h (record state { steps = left }) (omega arith)

pub stepped_none : {S : Type 0} (left : ℕ) (state : State S) (f : State S → Outcome S) → left ≤ 0 → stepped left state f ≡ OutOfSteps state
stepped_none zero state f w = refl
stepped_none (suc left) state f w = absurd (omega arith)

pub and_then_same : {S : Type 0} (n : ℕ) (o : Outcome S) (f g : State S → Code → List ℕ → Outcome S) → Within n o → ((state : State S) (code : Code) (text : List ℕ) → state.steps ≤ n → f state code text ≡ g state code text) → and_then o f ≡ and_then o g
and_then_same n (Ended state code text) f g w h = h state code text w
and_then_same n (OutOfSteps state) f g w h = refl

on_tested_same : {S : Type 0} (state : State S) (f g : List Group → State S → Outcome S) (test : Tested) → ((after : List Group) (state' : State S) → state'.steps ≤ state.steps → f after state' ≡ g after state') → on_tested state f test ≡ on_tested state g test
on_tested_same state f g (More store after) h = h after (record state { store = store }) (omega arith)
on_tested_same state f g (NoMore store) h = refl
on_tested_same state f g (Fails store text) h = refl

pub after_body_same : {S : Type 0} (f g : State S → Outcome S) (state : State S) (code : Code) (text : List ℕ) → f state ≡ g state → after_body f state code text ≡ after_body g state code text
after_body_same f g state Normal text e = e
after_body_same f g state Continue text e = e
after_body_same f g state Break text e = refl
after_body_same f g state Error text e = refl
after_body_same f g state (Return code) text e = refl

after_next_same : {S : Type 0} (f g : State S → Outcome S) (state : State S) (code : Code) (text : List ℕ) → f state ≡ g state → after_next f state code text ≡ after_next g state code text
after_next_same f g state Normal text e = e
after_next_same f g state Continue text e = refl
after_next_same f g state Break text e = refl
after_next_same f g state Error text e = refl
after_next_same f g state (Return code) text e = refl

on_truth_same : {S : Type 0} (state : State S) (f g : Bool → State S → Outcome S) (truth : Result Bool (List ℕ)) → ((holds : Bool) → f holds state ≡ g holds state) → with_truth state f truth ≡ with_truth state g truth
on_truth_same state f g (Ok holds) h = h holds
on_truth_same state f g (Err text) h = refl

pub on_value_same : {S : Type 0} (f g : Bool → State S → Outcome S) (state : State S) (code : Code) (text : List ℕ) → ((holds : Bool) → f holds state ≡ g holds state) → on_value f state code text ≡ on_value g state code text
on_value_same f g state Normal text h = on_truth_same state f g (truth_of_text text) h
on_value_same f g state Error text h = refl
on_value_same f g state (Return code) text h = refl
on_value_same f g state Break text h = refl
on_value_same f g state Continue text h = refl

pub if_same : {S : Type 0} (f g other : State S → Outcome S) (state : State S) (holds : Bool) → f state ≡ g state → if_holds f other holds state ≡ if_holds g other holds state
if_same f g other state true e = e
if_same f g other state false e = refl

module _ {S : Type 0} (run : List ℕ → State S → Outcome S) (run_falls : Bounded run) where
  pub test_same : (test : Test) (f g : Test → State S → Outcome S) (state : State S) → ((after : Test) (state' : State S) → state'.steps ≤ state.steps → f after state' ≡ g after state') → test_meaning run test f state ≡ test_meaning run test g state
  test_same (Holds condition) f g state h =
      and_then_same state.steps (expression_meaning run condition state) (on_value (if_holds (f (Holds condition)) loop_ended)) (on_value (if_holds (g (Holds condition)) loop_ended)) (within_expression run run_falls state.steps condition state (omega arith))
      (λ state' code text le. on_value_same (if_holds (f (Holds condition)) loop_ended) (if_holds (g (Holds condition)) loop_ended) state' code text
      (λ holds. if_same (f (Holds condition)) (g (Holds condition)) loop_ended state' holds (h (Holds condition) state' le)))
  test_same (Items groups) f g state h = on_tested_same state _ _ (items_tested (seen_frame state) groups state.store) (λ left state' le. h (Items left) state' le)

  pub next_same : (next : Option (List ℕ)) (f g : State S → Outcome S) (state : State S) → ((state' : State S) → state'.steps ≤ state.steps → f state' ≡ g state') → next_iteration run next f state ≡ next_iteration run next g state
  next_same None f g state h = h state (omega arith)
  next_same (Some script) f g state h =
      and_then_same state.steps (run script state) (after_next f) (after_next g) (run_falls state.steps script state (omega arith)) (λ state' code text le. after_next_same f g state' code text (h state' le))

  pub iteration_same : (looping : Loop) (f g : State S → Outcome S) (state : State S) → ((state' : State S) → state'.steps ≤ state.steps → f state' ≡ g state') → iteration_meaning run looping f state ≡ iteration_meaning run looping g state
  iteration_same looping f g state h =
      and_then_same state.steps (run looping.body state) (after_body (next_iteration run looping.next f)) (after_body (next_iteration run looping.next g)) (run_falls state.steps looping.body state (omega arith))
      (λ state' code text le. after_body_same (next_iteration run looping.next f) (next_iteration run looping.next g) state' code text
      (next_same looping.next f g state' (λ state'' le'. h state'' (omega arith))))

  -- the number of iterations doesn't matter where it is at least that of the steps
  pub iterations_same : (looping : Loop) (t u : ℕ) (state : State S) → state.steps ≤ t → state.steps ≤ u → iterations_meaning run looping t state ≡ iterations_meaning run looping u state
  iterations_same looping zero zero state v w = refl
  iterations_same looping zero (suc u) state v w = sym (stepped_none state.steps state _ v)
  iterations_same looping (suc t) zero state v w = stepped_none state.steps state _ w
  iterations_same looping (suc t) (suc u) state v w =
      stepped_same state.steps state _ _ (λ state' less.
      test_same looping.test _ _ state' (λ test state'' le.
      iteration_same looping (iterations_meaning run (record looping { test = test }) t) (iterations_meaning run (record looping { test = test }) u) state''
      (λ state3 le3. iterations_same (record looping { test = test }) t u state3 (omega arith) (omega arith))))

module _ {S K : Type 0} (outside : Outside S K) (run : List ℕ → State S → Outcome S) (run_falls : Bounded run) where
  within_on_act : (n : ℕ) (f : K → State S → Outcome S) (g : K → State S → Code → List ℕ → Outcome S) → ((task : K) (state : State S) → state.steps ≤ n → Within n (f task state)) → ((task : K) (state : State S) (code : Code) (text : List ℕ) → state.steps ≤ n → Within n (g task state code text)) → (name : List ℕ) (state : State S) (act : Act K) → state.steps ≤ n → Within n (on_act run f g name state act)
  within_on_act n f g h k name state (Done code text) w = w
  within_on_act n f g h k name state (Step task) w = within_stepped n state.steps state (f task) w (h task)
  within_on_act n f g h k name state (Run script task) w =
      within_and_then n (run_at run 1 script state) (λ state' code text. g task state' (out_of_global code) text) (within_run_at run run_falls n 1 script state w) (λ state' code text w'. k task state' (out_of_global code) text w')
  within_on_act n f g h k name state Unknown w = w

  within_resumed : (n : ℕ) (f : K → State S → Outcome S) → ((task : K) (state : State S) → state.steps ≤ n → Within n (f task state)) → (size : ℕ) (task : K) (state : State S) (code : Code) (text : List ℕ) → state.steps ≤ n → Within n (resumed outside run f size task state code text)
  within_resumed n f h zero task state code text w =
      within_on_act n f (λ _ state' _ _. OutOfSteps state') h (λ task' state' code' text' w'. tt) [] _ (outside.resumes state.shows state.store task code text).act w
  within_resumed n f h (suc size) task state code text w =
      within_on_act n f (resumed outside run f size) h (λ task' state' code' text' w'. within_resumed n f h size task' state' code' text' w') [] _ (outside.resumes state.shows state.store task code text).act w

  pub within_after_step : (n iterations : ℕ) (task : K) (state : State S) → state.steps ≤ n → Within n (after_step outside run iterations task state)
  within_after_step n zero task state w = tt
  within_after_step n (suc iterations) task state w = within_resumed n (after_step outside run iterations) (within_after_step n iterations) (outside.size task) task state Normal [] w

  pub within_task : (n : ℕ) (task : K) (state : State S) (code : Code) (text : List ℕ) → state.steps ≤ n → Within n (task_meaning outside run task state code text)
  within_task n task state code text w = within_resumed n (after_step outside run state.steps) (within_after_step n state.steps) (outside.size task) task state code text w

  within_act : (n : ℕ) (name : List ℕ) (state : State S) (act : Act K) → state.steps ≤ n → Within n (act_meaning outside run name state act)
  within_act n name state act w = within_on_act n (after_step outside run state.steps) (task_meaning outside run) (within_after_step n state.steps) (within_task n) name state act w

  within_by_call : (n : ℕ) (name : List ℕ) (arguments : List (List ℕ)) (state : State S) (c : Call) → state.steps ≤ n → Within n (by_call (outside_meaning outside) run name arguments state c)
  within_by_call n name arguments state (call.Plans p) w = within_plan run run_falls p n state w
  within_by_call n name arguments state (call.Outside first) w = within_act n name _ (outside.calls state.shows state.store (first ∷ arguments)).act w
  within_by_call n name arguments state call.Unknown w = w

  pub within_call : Bounded (call_meaning (outside_meaning outside) run)
  within_call n [] state w = w
  within_call n (name ∷ arguments) state w =
      let c : Called = call_of name arguments state.store state.context in
      within_by_call n name arguments (record state { store = c.store; context = c.context }) c.call w

  pub on_act_same : (n bound : ℕ) (f g : K → State S → Outcome S) (p q : K → State S → Code → List ℕ → Outcome S) → ((task : K) (state : State S) → state.steps < n → f task state ≡ g task state) → ((task : K) (state : State S) (code : Code) (text : List ℕ) → outside.size task < bound → state.steps ≤ n → p task state code text ≡ q task state code text) → (name : List ℕ) (state : State S) (act : Act K) → RunsBelow outside.size bound act → state.steps ≤ n → on_act run f p name state act ≡ on_act run g q name state act
  on_act_same n bound f g p q fg pq name state (Done code text) below w = refl
  on_act_same n bound f g p q fg pq name state (Step task) below w = stepped_same state.steps state (f task) (g task) (λ state' less. fg task state' (omega arith))
  on_act_same n bound f g p q fg pq name state (Run script task) below w =
      and_then_same n (run_at run 1 script state) _ _ (within_run_at run run_falls n 1 script state w) (λ state' code text le. pq task state' (out_of_global code) text below le)
  on_act_same n bound f g p q fg pq name state Unknown below w = refl

  module _ (falls : Falls outside) where
    pub resumed_same : (n : ℕ) (f g : K → State S → Outcome S) → ((task : K) (state : State S) → state.steps < n → f task state ≡ g task state) → (m k : ℕ) (task : K) (state : State S) (code : Code) (text : List ℕ) → outside.size task ≤ m → outside.size task ≤ k → state.steps ≤ n → resumed outside run f m task state code text ≡ resumed outside run g k task state code text
    resumed_same n f g fg zero zero task state code text v u w =
        on_act_same n (outside.size task) f g (λ _ state' _ _. OutOfSteps state') (λ _ state' _ _. OutOfSteps state') fg (λ task' state' code' text' less le. refl) [] _ (outside.resumes state.shows state.store task code text).act (falls state.shows state.store task code text) w
    resumed_same n f g fg zero (suc k) task state code text v u w =
        on_act_same n (outside.size task) f g (λ _ state' _ _. OutOfSteps state') (resumed outside run g k) fg (λ task' state' code' text' less le. absurd (omega arith)) [] _ (outside.resumes state.shows state.store task code text).act (falls state.shows state.store task code text) w
    resumed_same n f g fg (suc m) zero task state code text v u w =
        on_act_same n (outside.size task) f g (resumed outside run f m) (λ _ state' _ _. OutOfSteps state') fg (λ task' state' code' text' less le. absurd (omega arith)) [] _ (outside.resumes state.shows state.store task code text).act (falls state.shows state.store task code text) w
    resumed_same n f g fg (suc m) (suc k) task state code text v u w =
        on_act_same n (outside.size task) f g (resumed outside run f m) (resumed outside run g k) fg (λ task' state' code' text' less le. resumed_same n f g fg m k task' state' code' text' (omega arith) (omega arith) le) [] _ (outside.resumes state.shows state.store task code text).act (falls state.shows state.store task code text) w

    pub after_step_same : (t u : ℕ) (task : K) (state : State S) → state.steps < t → state.steps < u → after_step outside run t task state ≡ after_step outside run u task state
    after_step_same zero u task state v w = absurd (omega arith)
    after_step_same (suc t) zero task state v w = absurd (omega arith)
    after_step_same (suc t) (suc u) task state v w =
        resumed_same state.steps (after_step outside run t) (after_step outside run u) (λ task' state' less. after_step_same t u task' state' (omega arith) (omega arith)) (outside.size task) (outside.size task) task state Normal [] (omega arith) (omega arith) (omega arith)

within_on_parsed : {S : Type 0} (n : ℕ) (f : List Command → Outcome S) (state : State S) (script : Result (List Command) ParseFault) → state.steps ≤ n → ((commands : List Command) → Within n (f commands)) → Within n (on_parsed f state script)
within_on_parsed n f state (Ok commands) w h = h commands
within_on_parsed n f state (Err fault) w h = w

module _ {S K : Type 0} (outside : Outside S K) where
  -- the evaluation of a script lets steps only fall
  pub within_script : (room : ℕ) → Bounded (script_meaning outside room)
  within_script zero n text state w = w
  within_script (suc room) n text state w =
      within_on_parsed n _ state (script_of text) w (λ commands.
      within_commands (script_meaning outside room) (call_meaning (outside_meaning outside) (script_meaning outside room)) (within_script room)
      (within_call outside (script_meaning outside room) (within_script room)) n commands [] state w)
