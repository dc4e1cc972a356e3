-- Outside commands that mean the same where something holds of what is shown give scripts the same meaning there.
use Rattle.std.proofs.Common.{◌≡◌, ℕ, zero, suc, Bool, true, false, cond, List, [], ◌∷◌, ◌++◌, length, nat_le, Option, Some, None, Result, Ok, Err, refl, ap, sym, ◌∙◌}
use Rattle.std.proofs.Math.Path.{fun_ext}
use Rattle.tcl_words.specs.declared.script.Command.{Command}
use Rattle.tcl_words.specs.declared.script.Word.{Word}
use Rattle.tcl_words.specs.declared.script.Piece.{Piece}
use Rattle.tcl_words.specs.declared.script.Piece.TheVariants.{Literal, Variable, Element, Bracket}
use Rattle.tcl_text.specs.declared.fault.ParseFault.{ParseFault}
use Rattle.tcl_vars.specs.Store.{variable_in, element_in}
use Rattle.tcl_text.specs.declared.fault.ReadFault.{ReadFault}
use Rattle.tcl_control.specs.declared.code.Code.{Code}
use Rattle.tcl_control.specs.declared.code.Code.TheVariants.{Normal, Error, Return, Break, Continue}
use Rattle.tcl_control.specs.declared.control.Call.{Call}
use Rattle.tcl_control.specs.declared.control.Call.TheVariants as call
use Rattle.tcl_control.specs.declared.plan.Plan.{Plan}
use Rattle.tcl_control.specs.declared.plan.Plan.TheVariants as plan
use Rattle.tcl_control.specs.declared.loops.Test.{Test}
use Rattle.tcl_control.specs.declared.loops.Test.TheVariants.{Holds, Items}
use Rattle.tcl_commands.specs.declared.branches.Branch.{Branch}
use Rattle.tcl_commands.specs.declared.groups.Group.{Group}
use Rattle.tcl_expr.specs.Run.{Run as Evaluating, AsksVariable, AsksElement, AsksCommand, Ends, evaluation}
use Rattle.tcl_expr.specs.Trees.{Tree}
use Rattle.tcl_control.specs.Expressions.{expression_of, truth_of_text}
use Rattle.tcl_control.specs.declared.loops.Loop.{Loop}
use Rattle.tcl_control.specs.Control.{Called, call_of}
use Rattle.tcl_table.specs.Source.{script_of}
use Rattle.tcl_table.specs.Texts.{element_name}
use Rattle.tcl_control.specs.Loops.{Tested, More, NoMore, Fails, items_tested}
use Rattle.tcl_interp.proofs.TreeValues.{tree_runs}
use Rattle.tcl_interp.specs.Evaluation.{State, Outcome, Ended, OutOfSteps, seen_frame, and_then, on_normal, stepped, on_read, words_of, on_words, index_pieces, element_read, on_index, piece_meaning, pieces_meaning, element_within, element_meaning, words_meaning, called, commands_meaning}
use Rattle.tcl_interp.specs.Plans.{with_first_levels, others, levels_back, procedure_ended, caught, on_tested, loop_ended, after_body, after_next, run_at, next_iteration, test_meaning, iteration_meaning, iterations_meaning, loop_meaning, plan_meaning}
use Rattle.tcl_interp.specs.Expressions.{with_truth, on_value, if_holds, tree_meaning, expression_meaning, condition_meaning, otherwise_meaning, choices_meaning}
use Rattle.tcl_interp.specs.Asked.{run_meaning}
use Rattle.tcl_interp.specs.ScriptLaws.{AgreesRun, AgreesWhere, CommandsAgree, CommandsKeep, Kept, KeepsRun, ScriptsAgree, ScriptsAgreeWhere}
use Rattle.tcl_interp.specs.Scripts.{CommandMeaning, by_call, call_meaning, on_parsed, scripts_by}
use Rattle.tcl_interp.proofs.Kept.{KeepsElement, kept_call, kept_called, kept_element, kept_element_within, kept_expression, kept_scripts, kept_words}

module _ {S : Type 0} (P : S → Type 0) where
  -- ── what comes behind the same is the same ──

  then_same : (o : Outcome S) (f g : State S → Code → List ℕ → Outcome S) → Kept P o → ((state : State S) (code : Code) (text : List ℕ) → P state.shows → f state code text ≡ g state code text) → and_then o f ≡ and_then o g
  then_same (Ended state code text) f g w h = h state code text w
  then_same (OutOfSteps state) f g w h = refl

  same_and_then : (o p : Outcome S) (f g : State S → Code → List ℕ → Outcome S) → o ≡ p → Kept P o → ((state : State S) (code : Code) (text : List ℕ) → P state.shows → f state code text ≡ g state code text) → and_then o f ≡ and_then p g
  same_and_then o p f g is w h = then_same o f g w h ∙ ap (λ (q : Outcome S). and_then q g) is

  same_on_normal : (f g : State S → List ℕ → Outcome S) → ((state : State S) (text : List ℕ) → P state.shows → f state text ≡ g state text) → (state : State S) (code : Code) (text : List ℕ) → P state.shows → on_normal f state code text ≡ on_normal g state code text
  same_on_normal f g h state Normal text w = h state text w
  same_on_normal f g h state Error text w = refl
  same_on_normal f g h state (Return code) text w = refl
  same_on_normal f g h state Break text w = refl
  same_on_normal f g h state Continue text w = refl

  pub same_stepped : (left : ℕ) (state : State S) (f g : State S → Outcome S) → P state.shows → ((state : State S) → P state.shows → f state ≡ g state) → stepped left state f ≡ stepped left state g
  same_stepped zero state f g w h = refl
  same_stepped (suc left) state f g w h = h (record state { steps = left }) w

  same_on_read : (name : List ℕ) (state : State S) (f g : State S → List ℕ → Outcome S) (value : Result (List ℕ) ReadFault) → ((text : List ℕ) → f state text ≡ g state text) → on_read name state f value ≡ on_read name state g value
  same_on_read name state f g (Ok value) h = h value
  same_on_read name state f g (Err fault) h = refl

  same_cond : (b : Bool) (o p q : Outcome S) → o ≡ p → cond b o q ≡ cond b p q
  same_cond true o p q is = is
  same_cond false o p q is = refl

  same_on_words : (state : State S) (f g : State S → List (List ℕ) → Outcome S) (words : Result (List (List ℕ)) (List ℕ)) → ((more : List (List ℕ)) → f state more ≡ g state more) → on_words state f words ≡ on_words state g words
  same_on_words state f g (Ok more) h = h more
  same_on_words state f g (Err text) h = refl

  same_on_index : (state : State S) (f g : List Piece → Outcome S) (pieces : Result (List Piece) ParseFault) → ((ps : List Piece) → f ps ≡ g ps) → on_index state f pieces ≡ on_index state g pieces
  same_on_index state f g (Ok pieces) h = h pieces
  same_on_index state f g (Err fault) h = refl

  same_on_tested : (state : State S) (f g : List Group → State S → Outcome S) (test : Tested) → P state.shows → ((after : List Group) (state' : State S) → P state'.shows → f after state' ≡ g after state') → on_tested state f test ≡ on_tested state g test
  same_on_tested state f g (More store after) w h = h after (record state { store = store }) w
  same_on_tested state f g (NoMore store) w h = refl
  same_on_tested state f g (Fails store text) w h = refl

  same_after_body : (again more : State S → Outcome S) → ((state : State S) → P state.shows → again state ≡ more state) → (state : State S) (code : Code) (text : List ℕ) → P state.shows → after_body again state code text ≡ after_body more state code text
  same_after_body again more h state Normal text w = h state w
  same_after_body again more h state Continue text w = h state w
  same_after_body again more h state Break text w = refl
  same_after_body again more h state Error text w = refl
  same_after_body again more h state (Return code) text w = refl

  same_after_next : (again more : State S → Outcome S) → ((state : State S) → P state.shows → again state ≡ more state) → (state : State S) (code : Code) (text : List ℕ) → P state.shows → after_next again state code text ≡ after_next more state code text
  same_after_next again more h state Normal text w = h state w
  same_after_next again more h state Continue text w = refl
  same_after_next again more h state Break text w = refl
  same_after_next again more h state Error text w = refl
  same_after_next again more h state (Return code) text w = refl

  same_on_truth : (state : State S) (f g : Bool → State S → Outcome S) (truth : Result Bool (List ℕ)) → ((holds : Bool) → f holds state ≡ g holds state) → with_truth state f truth ≡ with_truth state g truth
  same_on_truth state f g (Ok holds) h = h holds
  same_on_truth state f g (Err text) h = refl

  same_on_value : (f g : Bool → State S → Outcome S) → ((holds : Bool) (state' : State S) → P state'.shows → f holds state' ≡ g holds state') → (state : State S) (code : Code) (text : List ℕ) → P state.shows → on_value f state code text ≡ on_value g state code text
  same_on_value f g h =
      same_on_normal (λ state value. with_truth state f (truth_of_text value)) (λ state value. with_truth state g (truth_of_text value))
      (λ state value w. same_on_truth state f g (truth_of_text value) (λ holds. h holds state w))

  same_if : (first second one other : State S → Outcome S) → ((state : State S) → P state.shows → first state ≡ one state) → ((state : State S) → P state.shows → second state ≡ other state) → (holds : Bool) (state : State S) → P state.shows → if_holds first second holds state ≡ if_holds one other holds state
  same_if first second one other y z true state w = y state w
  same_if first second one other y z false state w = z state w

  same_on_parsed : (f g : List Command → Outcome S) (state : State S) (script : Result (List Command) ParseFault) → ((commands : List Command) → f commands ≡ g commands) → on_parsed f state script ≡ on_parsed g state script
  same_on_parsed f g state (Ok commands) h = h commands
  same_on_parsed f g state (Err fault) h = refl

  -- ── two ways to run a script, of which the first keeps what holds ──

  module _ (run other : List ℕ → State S → Outcome S) (same : AgreesRun P run other) (keeps : KeepsRun P run) where
    -- a script, and what comes behind it
    same_script : (script : List ℕ) (f g : State S → Code → List ℕ → Outcome S) (state : State S) → P state.shows → ((state' : State S) (code : Code) (text : List ℕ) → P state'.shows → f state' code text ≡ g state' code text)
        → and_then (run script state) f ≡ and_then (other script state) g
    same_script script f g state w h = same_and_then (run script state) (other script state) f g (same script state w) (keeps script state w) h

    -- ── words ──

    module _ (element more : List ℕ → List ℕ → State S → Outcome S) (element_same : (name index : List ℕ) (state : State S) → P state.shows → element name index state ≡ more name index state) (element_keeps : KeepsElement P element) where
      same_piece : (piece : Piece) (state : State S) (f g : State S → List ℕ → Outcome S) → P state.shows → ((state' : State S) (text : List ℕ) → P state'.shows → f state' text ≡ g state' text) → piece_meaning run element piece state f ≡ piece_meaning other more piece state g
      same_piece (Literal text) state f g w h = h state text w
      same_piece (Variable name) state f g w h = same_on_read name state f g (variable_in state.store (seen_frame state) name) (λ text. h state text w)
      same_piece (Element name index) state f g w h =
          same_and_then (element name index state) (more name index state) (on_normal f) (on_normal g) (element_same name index state w) (element_keeps name index state w) (same_on_normal f g h)
      same_piece (Bracket script) state f g w h = same_script script (on_normal f) (on_normal g) state w (same_on_normal f g h)

      same_pieces : (pieces : List Piece) (so_far : List ℕ) (state : State S) (f g : State S → List ℕ → Outcome S) → P state.shows → ((state' : State S) (text : List ℕ) → P state'.shows → f state' text ≡ g state' text) → pieces_meaning run element pieces so_far state f ≡ pieces_meaning other more pieces so_far state g
      same_pieces [] so_far state f g w h = h state so_far w
      same_pieces (piece ∷ pieces) so_far state f g w h =
          same_piece piece state _ _ w (λ state' text w'.
          same_cond (nat_le (length (so_far ++ text)) 65536) _ _ _ (same_pieces pieces (so_far ++ text) state' f g w' h))

    same_element_within : (depth : ℕ) (name index : List ℕ) (state : State S) → P state.shows → element_within run depth name index state ≡ element_within other depth name index state
    same_element_within zero name index state w = refl
    same_element_within (suc depth) name index state w =
        same_on_index state (λ ps. pieces_meaning run (element_within run depth) ps [] state (element_read name)) (λ ps. pieces_meaning other (element_within other depth) ps [] state (element_read name)) (index_pieces index)
        (λ ps.
        same_pieces (element_within run depth) (element_within other depth) (same_element_within depth) (kept_element_within P run keeps depth) ps [] state (element_read name) (element_read name) w
        (λ state' text w'. refl))

    same_element : (name index : List ℕ) (state : State S) → P state.shows → element_meaning run name index state ≡ element_meaning other name index state
    same_element name index state w = same_element_within (suc (length index)) name index state w

    -- ── expressions ──

    same_run : (r : Evaluating) (state : State S) → P state.shows → run_meaning run r state ≡ run_meaning other r state
    same_run (AsksVariable name go) state w =
        same_on_read name state (λ state' value. run_meaning run (go value) state') (λ state' value. run_meaning other (go value) state') (variable_in state.store (seen_frame state) name) (λ value. same_run (go value) state w)
    same_run (AsksElement array index go) state w =
        same_on_read (element_name array index) state (λ state' value. run_meaning run (go value) state') (λ state' value. run_meaning other (go value) state') (element_in state.store (seen_frame state) array index)
        (λ value. same_run (go value) state w)
    same_run (AsksCommand script go) state w =
        same_script script (on_normal (λ state' value. run_meaning run (go value) state')) (on_normal (λ state' value. run_meaning other (go value) state')) state w
        (same_on_normal (λ state' value. run_meaning run (go value) state') (λ state' value. run_meaning other (go value) state') (λ state' value w'. same_run (go value) state' w'))
    same_run (Ends result) state w = refl

    same_tree : (state : State S) (tree : Result Tree (List ℕ)) → P state.shows → tree_meaning run state tree ≡ tree_meaning other state tree
    same_tree state (Ok tree) w = sym (tree_runs run tree state) ∙ same_run (evaluation tree) state w ∙ tree_runs other tree state
    same_tree state (Err text) w = refl

    same_expression : (text : List ℕ) (state : State S) → P state.shows → expression_meaning run text state ≡ expression_meaning other text state
    same_expression text state w = same_tree state (expression_of text) w

    same_condition : (text : List ℕ) (f g : Bool → State S → Outcome S) (state : State S) → P state.shows → ((holds : Bool) (state' : State S) → P state'.shows → f holds state' ≡ g holds state') → condition_meaning run text f state ≡ condition_meaning other text g state
    same_condition text f g state w h =
        same_and_then (expression_meaning run text state) (expression_meaning other text state) (on_value f) (on_value g) (same_expression text state w) (kept_expression P run keeps text state w) (same_on_value f g h)

    same_otherwise : (otherwise : Option (List ℕ)) (state : State S) → P state.shows → otherwise_meaning run otherwise state ≡ otherwise_meaning other otherwise state
    same_otherwise (Some body) state w = same body state w
    same_otherwise None state w = refl

    same_choices : (branches : List Branch) (otherwise : Option (List ℕ)) (state : State S) → P state.shows → choices_meaning run branches otherwise state ≡ choices_meaning other branches otherwise state
    same_choices [] otherwise state w = same_otherwise otherwise state w
    same_choices (branch ∷ branches) otherwise state w =
        same_condition branch.test (if_holds (run branch.body) (choices_meaning run branches otherwise)) (if_holds (other branch.body) (choices_meaning other branches otherwise)) state w
        (same_if (run branch.body) (choices_meaning run branches otherwise) (other branch.body) (choices_meaning other branches otherwise)
        (λ state' w'. same branch.body state' w') (λ state' w'. same_choices branches otherwise state' w'))

    -- ── plans ──

    pub same_run_at : (count : ℕ) (script : List ℕ) (state : State S) → P state.shows → run_at run count script state ≡ run_at other count script state
    same_run_at count script state w =
        ap (λ (o : Outcome S). and_then o (levels_back (others count state.context))) (same script (record state { context = with_first_levels count state.context }) w)

    same_next : (next : Option (List ℕ)) (again more : State S → Outcome S) → ((state : State S) → P state.shows → again state ≡ more state) → (state : State S) → P state.shows → next_iteration run next again state ≡ next_iteration other next more state
    same_next None again more h state w = h state w
    same_next (Some script) again more h state w = same_script script (after_next again) (after_next more) state w (same_after_next again more h)

    pub same_test : (test : Test) (body more : Test → State S → Outcome S) (state : State S) → P state.shows → ((after : Test) (state' : State S) → P state'.shows → body after state' ≡ more after state') → test_meaning run test body state ≡ test_meaning other test more state
    same_test (Holds condition) body more state w h =
        same_condition condition (if_holds (body (Holds condition)) loop_ended) (if_holds (more (Holds condition)) loop_ended) state w
        (same_if (body (Holds condition)) loop_ended (more (Holds condition)) loop_ended (h (Holds condition)) (λ state' w'. refl))
    same_test (Items groups) body more state w h =
        same_on_tested state (λ left. body (Items left)) (λ left. more (Items left)) (items_tested (seen_frame state) groups state.store) w (λ left state' w'. h (Items left) state' w')

    pub same_iteration : (looping : Loop) (again more : State S → Outcome S) → ((state : State S) → P state.shows → again state ≡ more state) → (state : State S) → P state.shows → iteration_meaning run looping again state ≡ iteration_meaning other looping more state
    same_iteration looping again more h state w =
        same_script looping.body (after_body (next_iteration run looping.next again)) (after_body (next_iteration other looping.next more)) state w
        (same_after_body (next_iteration run looping.next again) (next_iteration other looping.next more) (same_next looping.next again more h))

    pub same_iterations : (looping : Loop) (iterations : ℕ) (state : State S) → P state.shows → iterations_meaning run looping iterations state ≡ iterations_meaning other looping iterations state
    same_iterations looping zero state w = refl
    same_iterations looping (suc iterations) state w =
        same_stepped state.steps state _ _ w (λ state' w'.
        same_test looping.test _ _ state' w' (λ test state'' w''.
        same_iteration looping (iterations_meaning run (record looping { test = test }) iterations) (iterations_meaning other (record looping { test = test }) iterations)
        (λ state3 w3. same_iterations (record looping { test = test }) iterations state3 w3) state'' w''))

    same_plan : (p : Plan) (state : State S) → P state.shows → plan_meaning run p state ≡ plan_meaning other p state
    same_plan (plan.Ends code text) state w = refl
    same_plan (plan.Runs script) state w = same script state w
    same_plan (plan.Catches script name) state w = ap (λ (o : Outcome S). and_then o (caught name)) (same script state w)
    same_plan (plan.RunsAt count script) state w = same_run_at count script state w
    same_plan (plan.Enters body) state w = ap (λ (o : Outcome S). and_then o procedure_ended) (same body state w)
    same_plan (plan.Evaluates expression) state w = same_expression expression state w
    same_plan (plan.Chooses choices) state w = same_choices choices.branches choices.otherwise state w
    same_plan (plan.Loops looping) state w = same_iterations looping state.steps state w
    same_plan (plan.Starts script looping) state w =
        same_script script (on_normal (λ state' text. loop_meaning run looping state')) (on_normal (λ state' text. loop_meaning other looping state')) state w
        (same_on_normal (λ state' text. loop_meaning run looping state') (λ state' text. loop_meaning other looping state') (λ state' text w'. same_iterations looping state'.steps state' w'))

    -- ── commands ──

    module _ (call another : List (List ℕ) → State S → Outcome S) where
      same_words : (words : List Word) (whole : List (List ℕ)) (state : State S) (f g : State S → List (List ℕ) → Outcome S) → P state.shows → ((state' : State S) (all : List (List ℕ)) → P state'.shows → f state' all ≡ g state' all) → words_meaning run call words whole state f ≡ words_meaning other another words whole state g
      same_words [] whole state f g w h = h state whole w
      same_words (word ∷ words) whole state f g w h =
          same_pieces (element_meaning run) (element_meaning other) same_element (kept_element P run keeps) word.pieces [] state _ _ w (λ state' text w'.
          same_on_words state' (λ state'' more. words_meaning run call words (whole ++ more) state'' f) (λ state'' more. words_meaning other another words (whole ++ more) state'' g) (words_of word.expand text)
          (λ more. same_words words (whole ++ more) state' f g w' h))

      module _ (call_same : AgreesRun P call another) (call_keeps : KeepsRun P call) where
        same_called : (state : State S) (words : List (List ℕ)) → P state.shows → called run call state words ≡ called other another state words
        same_called state [] w = refl
        same_called state (name ∷ arguments) w = same_stepped state.steps state (call (name ∷ arguments)) (another (name ∷ arguments)) w (λ state' w'. call_same (name ∷ arguments) state' w')

        same_commands : (commands : List Command) (result : List ℕ) (state : State S) → P state.shows → commands_meaning run call commands result state ≡ commands_meaning other another commands result state
        same_commands [] result state w = refl
        same_commands (command ∷ commands) result state w =
            same_and_then (words_meaning run call command.words [] state (called run call)) (words_meaning other another command.words [] state (called other another))
            (on_normal (λ state' text. commands_meaning run call commands text state')) (on_normal (λ state' text. commands_meaning other another commands text state'))
            (same_words command.words [] state (called run call) (called other another) w same_called)
            (kept_words P run call keeps command.words [] state (called run call) w (kept_called P run call keeps call_keeps))
            (same_on_normal (λ state' text. commands_meaning run call commands text state') (λ state' text. commands_meaning other another commands text state') (λ state' text w'. same_commands commands text state' w'))

  -- ── scripts ──

  module _ (one other : CommandMeaning S) (keep : CommandsKeep P one) (agree : CommandsAgree P one other) where
    by_call_same : (room : ℕ) → AgreesRun P (scripts_by one room) (scripts_by other room) → (name : List ℕ) (arguments : List (List ℕ)) (state : State S) (c : Call) → P state.shows
        → by_call one (scripts_by one room) name arguments state c ≡ by_call other (scripts_by other room) name arguments state c
    by_call_same room same name arguments state (call.Plans p) w = same_plan (scripts_by one room) (scripts_by other room) same (kept_scripts P one keep room) p state w
    by_call_same room same name arguments state (call.Outside first) w = agree room same name first arguments state w
    by_call_same room same name arguments state call.Unknown w = refl

    call_same : (room : ℕ) → AgreesRun P (scripts_by one room) (scripts_by other room) → AgreesRun P (call_meaning one (scripts_by one room)) (call_meaning other (scripts_by other room))
    call_same room same [] state w = refl
    call_same room same (name ∷ arguments) state w =
        let there : Called = call_of name arguments state.store state.context in
        by_call_same room same name arguments (record state { store = there.store; context = there.context }) there.call w

    scripts_same : (room : ℕ) → AgreesRun P (scripts_by one room) (scripts_by other room)
    scripts_same zero text state w = refl
    scripts_same (suc room) text state w =
        same_on_parsed (λ commands. commands_meaning (scripts_by one room) (call_meaning one (scripts_by one room)) commands [] state)
        (λ commands. commands_meaning (scripts_by other room) (call_meaning other (scripts_by other room)) commands [] state) state (script_of text)
        (λ commands.
        same_commands (scripts_by one room) (scripts_by other room) (scripts_same room) (kept_scripts P one keep room)
        (call_meaning one (scripts_by one room)) (call_meaning other (scripts_by other room)) (call_same room (scripts_same room))
        (kept_call P one (scripts_by one room) (kept_scripts P one keep room) (keep room (kept_scripts P one keep room))) commands [] state w)

  pub agrees_where : AgreesWhere P
  agrees_where one other keep agree room = scripts_same one other keep agree room

pub scripts_agree_where : {S : Type 0} → ScriptsAgreeWhere S
scripts_agree_where {S} holds = agrees_where (λ (shows : S). holds shows ≡ true)

-- ── where nothing needs to hold ──

module _ {S : Type 0} where
  abbrev Anything : S → Type 0
  Anything shows = Unit {0}

  any_kept : (o : Outcome S) → Kept Anything o
  any_kept (Ended state code text) = tt
  any_kept (OutOfSteps state) = tt

  same_runs : (run other : List ℕ → State S → Outcome S) → AgreesRun Anything run other → run ≡ other
  same_runs run other same = fun_ext (λ text. fun_ext (λ state. same text state tt))

  pub scripts_agree : ScriptsAgree S
  scripts_agree one other agree room =
      same_runs (scripts_by one room) (scripts_by other room)
      (agrees_where Anything one other (λ inner keeps name first arguments state w. any_kept (one (scripts_by one inner) name first arguments state))
      (λ inner same name first arguments state w.
      agree inner name first arguments state
      ∙ ap (λ (run : List ℕ → State S → Outcome S). other run name first arguments state) (same_runs (scripts_by one inner) (scripts_by other inner) same)) room)
