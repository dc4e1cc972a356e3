-- A property of what the object of the outside commands shows, which these commands keep, is kept by every script.
use Rattle.std.proofs.Common.{ℕ, zero, suc, Bool, true, false, cond, List, [], ◌∷◌, ◌++◌, length, nat_le, Option, Some, None, Result, Ok, Err, subst}
use Rattle.tcl_words.specs.declared.script.Command.{Command}
use Rattle.tcl_words.specs.declared.script.Word.{Word}
use Rattle.tcl_words.specs.declared.script.Piece.{Piece}
use Rattle.tcl_words.specs.declared.script.Piece.TheVariants.{Literal, Variable, Element, Bracket}
use Rattle.tcl_text.specs.declared.fault.ParseFault.{ParseFault}
use Rattle.tcl_vars.specs.Store.{Store, variable_in, element_in}
use Rattle.tcl_text.specs.declared.fault.ReadFault.{ReadFault}
use Rattle.tcl_control.specs.declared.code.Code.{Code}
use Rattle.tcl_control.specs.declared.code.Code.TheVariants.{Normal, Error, Return, Break, Continue}
use Rattle.tcl_control.specs.declared.control.Call.{Call}
use Rattle.tcl_control.specs.declared.control.Call.TheVariants as call
use Rattle.tcl_control.specs.declared.plan.Plan.{Plan}
use Rattle.tcl_control.specs.declared.plan.Plan.TheVariants as plan
use Rattle.tcl_control.specs.declared.loops.Test.{Test}
use Rattle.tcl_control.specs.declared.loops.Test.TheVariants.{Holds, Items}
use Rattle.tcl_commands.specs.declared.branches.Branch.{Branch}
use Rattle.tcl_commands.specs.declared.groups.Group.{Group}
use Rattle.tcl_expr.specs.declared.fault.EvalFault.{EvalFault}
use Rattle.tcl_expr.specs.Run.{Run as Evaluating, AsksVariable, AsksElement, AsksCommand, Ends, evaluation}
use Rattle.tcl_expr.specs.Trees.{Tree}
use Rattle.tcl_control.specs.Expressions.{expression_of, truth_of_text}
use Rattle.tcl_control.specs.declared.loops.Loop.{Loop}
use Rattle.tcl_control.specs.Control.{Called, call_of}
use Rattle.tcl_table.specs.Source.{script_of}
use Rattle.tcl_table.specs.Texts.{element_name}
use Rattle.tcl_control.specs.Loops.{Tested, More, NoMore, Fails, items_tested}
use Rattle.tcl_interp.proofs.TreeValues.{tree_runs}
use Rattle.tcl_interp.specs.declared.tasks.Act.{Act}
use Rattle.tcl_interp.specs.declared.tasks.Act.TheVariants.{Done, Step, Run, Unknown}
use Rattle.tcl_interp.specs.Outside.{Outside}
use Rattle.tcl_interp.specs.Evaluation.{State, Outcome, Ended, OutOfSteps, seen_frame, and_then, on_normal, stepped, on_read, words_of, on_words, index_pieces, element_read, on_index, piece_meaning, pieces_meaning, element_within, element_meaning, words_meaning, called, commands_meaning}
use Rattle.tcl_interp.specs.Plans.{with_first_levels, others, levels_back, procedure_ended, caught, on_tested, loop_ended, after_body, after_next, run_at, next_iteration, test_meaning, iteration_meaning, iterations_meaning, loop_meaning, plan_meaning}
use Rattle.tcl_interp.specs.Expressions.{with_truth, on_value, if_holds, tree_meaning, expression_meaning, condition_meaning, otherwise_meaning, choices_meaning}
use Rattle.tcl_interp.specs.Asked.{value_ended, run_meaning}
use Rattle.tcl_interp.specs.Acts.{on_act, resumed, after_step, task_meaning, act_meaning, script_meaning, outside_meaning}
pub use Rattle.tcl_interp.specs.ScriptLaws.{Kept, KeepsRun}
use Rattle.tcl_interp.specs.ScriptLaws.{CommandsKeep, KeepsCommand}
use Rattle.tcl_interp.specs.Scripts.{CommandMeaning, out_of_global, by_call, call_meaning, on_parsed, scripts_by}

module _ {S : Type 0} (P : S → Type 0) where
  -- the calls and the tasks keep it
  abbrev pub Keeps : {K : Type 0} → Outside S K → Type 0
  Keeps {K} outside =
      ((shows : S) (store : Store) (words : List (List ℕ)) → P shows → P (outside.calls shows store words).shows)
      × ((shows : S) (store : Store) (task : K) (code : Code) (text : List ℕ) → P shows → P (outside.resumes shows store task code text).shows)

  pub kept_and_then : (o : Outcome S) (f : State S → Code → List ℕ → Outcome S) → Kept P o → ((state : State S) (code : Code) (text : List ℕ) → P state.shows → Kept P (f state code text)) → Kept P (and_then o f)
  kept_and_then (Ended state code text) f w h = h state code text w
  kept_and_then (OutOfSteps state) f w h = tt

  pub kept_on_normal : (f : State S → List ℕ → Outcome S) → ((state : State S) (text : List ℕ) → P state.shows → Kept P (f state text)) → (state : State S) (code : Code) (text : List ℕ) → P state.shows → Kept P (on_normal f state code text)
  kept_on_normal f h state Normal text w = h state text w
  kept_on_normal f h state Error text w = w
  kept_on_normal f h state (Return code) text w = w
  kept_on_normal f h state Break text w = w
  kept_on_normal f h state Continue text w = w

  pub kept_stepped : (left : ℕ) (state : State S) (f : State S → Outcome S) → P state.shows → ((state : State S) → P state.shows → Kept P (f state)) → Kept P (stepped left state f)
  kept_stepped zero state f w h = tt
  kept_stepped (suc left) state f w h = h (record state { steps = left }) w

  pub kept_on_read : (name : List ℕ) (state : State S) (f : State S → List ℕ → Outcome S) (value : Result (List ℕ) ReadFault) → P state.shows → ((text : List ℕ) → Kept P (f state text)) → Kept P (on_read name state f value)
  kept_on_read name state f (Ok value) w h = h value
  kept_on_read name state f (Err fault) w h = w

  pub kept_cond : (b : Bool) (o p : Outcome S) → Kept P o → Kept P p → Kept P (cond b o p)
  kept_cond true o p w v = w
  kept_cond false o p w v = v

  pub kept_on_words : (state : State S) (f : State S → List (List ℕ) → Outcome S) (words : Result (List (List ℕ)) (List ℕ)) → P state.shows → ((more : List (List ℕ)) → Kept P (f state more)) → Kept P (on_words state f words)
  kept_on_words state f (Ok more) w h = h more
  kept_on_words state f (Err text) w h = w

  kept_on_index : (state : State S) (f : List Piece → Outcome S) (pieces : Result (List Piece) ParseFault) → P state.shows → ((ps : List Piece) → Kept P (f ps)) → Kept P (on_index state f pieces)
  kept_on_index state f (Ok pieces) w h = h pieces
  kept_on_index state f (Err fault) w h = w

  -- how an element is read keeps it
  abbrev pub KeepsElement : (List ℕ → List ℕ → State S → Outcome S) → Type 0
  KeepsElement element = (name index : List ℕ) (state : State S) → P state.shows → Kept P (element name index state)

  module _ (run : List ℕ → State S → Outcome S) (element : List ℕ → List ℕ → State S → Outcome S) (run_keeps : KeepsRun P run) (element_keeps : KeepsElement element) where
    pub kept_piece : (piece : Piece) (state : State S) (f : State S → List ℕ → Outcome S) → P state.shows → ((state' : State S) (text : List ℕ) → P state'.shows → Kept P (f state' text)) → Kept P (piece_meaning run element piece state f)
    kept_piece (Literal text) state f w h = h state text w
    kept_piece (Variable name) state f w h = kept_on_read name state f (variable_in state.store (seen_frame state) name) w (λ text. h state text w)
    kept_piece (Element name index) state f w h = kept_and_then (element name index state) (on_normal f) (element_keeps name index state w) (kept_on_normal f h)
    kept_piece (Bracket script) state f w h = kept_and_then (run script state) (on_normal f) (run_keeps script state w) (kept_on_normal f h)

    pub kept_pieces : (pieces : List Piece) (so_far : List ℕ) (state : State S) (f : State S → List ℕ → Outcome S) → P state.shows → ((state' : State S) (text : List ℕ) → P state'.shows → Kept P (f state' text)) → Kept P (pieces_meaning run element pieces so_far state f)
    kept_pieces [] so_far state f w h = h state so_far w
    kept_pieces (piece ∷ pieces) so_far state f w h =
        kept_piece piece state _ w (λ state' text w'.
        kept_cond (nat_le (length (so_far ++ text)) 65536) _ _ (kept_pieces pieces (so_far ++ text) state' f w' h) w')

  pub kept_element_within : (run : List ℕ → State S → Outcome S) → KeepsRun P run → (depth : ℕ) → KeepsElement (element_within run depth)
  kept_element_within run run_keeps zero name index state w = w
  kept_element_within run run_keeps (suc depth) name index state w =
      kept_on_index state (λ ps. pieces_meaning run (element_within run depth) ps [] state (element_read name)) (index_pieces index) w (λ ps.
      kept_pieces run (element_within run depth) run_keeps (kept_element_within run run_keeps depth) ps [] state (element_read name) w
      (λ state' text w'. kept_on_read (element_name name text) state' (λ state'' value. Ended state'' Normal value) (element_in state'.store (seen_frame state') name text) w' (λ value. w')))

  pub kept_element : (run : List ℕ → State S → Outcome S) → KeepsRun P run → KeepsElement (element_meaning run)
  kept_element run run_keeps name index state w = kept_element_within run run_keeps (suc (length index)) name index state w

  module _ (run : List ℕ → State S → Outcome S) (call : List (List ℕ) → State S → Outcome S) (run_keeps : KeepsRun P run) where
    pub kept_words : (words : List Word) (whole : List (List ℕ)) (state : State S) (f : State S → List (List ℕ) → Outcome S) → P state.shows → ((state' : State S) (all : List (List ℕ)) → P state'.shows → Kept P (f state' all)) → Kept P (words_meaning run call words whole state f)
    kept_words [] whole state f w h = h state whole w
    kept_words (word ∷ words) whole state f w h =
        kept_pieces run (element_meaning run) run_keeps (kept_element run run_keeps) word.pieces [] state _ w (λ state' text w'.
        kept_on_words state' (λ state'' more. words_meaning run call words (whole ++ more) state'' f) (words_of word.expand text) w' (λ more. kept_words words (whole ++ more) state' f w' h))

    pub kept_called : KeepsRun P call → (state : State S) (words : List (List ℕ)) → P state.shows → Kept P (called run call state words)
    kept_called c state [] w = w
    kept_called c state (name ∷ arguments) w = kept_stepped state.steps state _ w (λ state' w'. c (name ∷ arguments) state' w')

    pub kept_commands : KeepsRun P call → (commands : List Command) (result : List ℕ) (state : State S) → P state.shows → Kept P (commands_meaning run call commands result state)
    kept_commands c [] result state w = w
    kept_commands c (command ∷ commands) result state w =
        kept_and_then _ _ (kept_words command.words [] state _ w (λ state' all w'. kept_called c state' all w'))
        (kept_on_normal _ (λ state' text w'. kept_commands c commands text state' w'))

  kept_on_tested : (state : State S) (f : List Group → State S → Outcome S) (test : Tested) → P state.shows → ((after : List Group) (state' : State S) → P state'.shows → Kept P (f after state')) → Kept P (on_tested state f test)
  kept_on_tested state f (More store after) w h = h after (record state { store = store }) w
  kept_on_tested state f (NoMore store) w h = w
  kept_on_tested state f (Fails store text) w h = w

  pub kept_after_body : (again : State S → Outcome S) → ((state : State S) → P state.shows → Kept P (again state)) → (state : State S) (code : Code) (text : List ℕ) → P state.shows → Kept P (after_body again state code text)
  kept_after_body again h state Normal text w = h state w
  kept_after_body again h state Continue text w = h state w
  kept_after_body again h state Break text w = w
  kept_after_body again h state Error text w = w
  kept_after_body again h state (Return code) text w = w

  pub kept_after_next : (again : State S → Outcome S) → ((state : State S) → P state.shows → Kept P (again state)) → (state : State S) (code : Code) (text : List ℕ) → P state.shows → Kept P (after_next again state code text)
  kept_after_next again h state Normal text w = h state w
  kept_after_next again h state Continue text w = w
  kept_after_next again h state Break text w = w
  kept_after_next again h state Error text w = w
  kept_after_next again h state (Return code) text w = w

  kept_on_truth : (state : State S) (f : Bool → State S → Outcome S) (truth : Result Bool (List ℕ)) → P state.shows → ((holds : Bool) (state' : State S) → P state'.shows → Kept P (f holds state')) → Kept P (with_truth state f truth)
  kept_on_truth state f (Ok holds) w h = h holds state w
  kept_on_truth state f (Err text) w h = w

  pub kept_on_value : (f : Bool → State S → Outcome S) → ((holds : Bool) (state' : State S) → P state'.shows → Kept P (f holds state')) → (state : State S) (code : Code) (text : List ℕ) → P state.shows → Kept P (on_value f state code text)
  kept_on_value f h = kept_on_normal _ (λ state value w. kept_on_truth state f (truth_of_text value) w h)

  pub kept_if : (first second : State S → Outcome S) → ((state : State S) → P state.shows → Kept P (first state)) → ((state : State S) → P state.shows → Kept P (second state)) → (holds : Bool) (state : State S) → P state.shows → Kept P (if_holds first second holds state)
  kept_if first second y z true state w = y state w
  kept_if first second y z false state w = z state w

  kept_value_ended : (state : State S) (result : Result (List ℕ) EvalFault) → P state.shows → Kept P (value_ended state result)
  kept_value_ended state (Ok value) w = w
  kept_value_ended state (Err fault) w = w

  module _ (run : List ℕ → State S → Outcome S) (run_keeps : KeepsRun P run) where
    pub kept_run : (r : Evaluating) (state : State S) → P state.shows → Kept P (run_meaning run r state)
    kept_run (AsksVariable name go) state w = kept_on_read name state (λ state' value. run_meaning run (go value) state') (variable_in state.store (seen_frame state) name) w (λ value. kept_run (go value) state w)
    kept_run (AsksElement array index go) state w =
        kept_on_read (element_name array index) state (λ state' value. run_meaning run (go value) state') (element_in state.store (seen_frame state) array index) w (λ value. kept_run (go value) state w)
    kept_run (AsksCommand script go) state w =
        kept_and_then (run script state) (on_normal (λ state' value. run_meaning run (go value) state')) (run_keeps script state w)
        (kept_on_normal (λ state' value. run_meaning run (go value) state') (λ state' value w'. kept_run (go value) state' w'))
    kept_run (Ends result) state w = kept_value_ended state result w

    kept_tree : (state : State S) (tree : Result Tree (List ℕ)) → P state.shows → Kept P (tree_meaning run state tree)
    kept_tree state (Ok tree) w = subst (λ (o : Outcome S). Kept P o) (tree_runs run tree state) (kept_run (evaluation tree) state w)
    kept_tree state (Err text) w = w

    pub kept_expression : (text : List ℕ) (state : State S) → P state.shows → Kept P (expression_meaning run text state)
    kept_expression text state w = kept_tree state (expression_of text) w

    pub kept_condition : (text : List ℕ) (f : Bool → State S → Outcome S) (state : State S) → P state.shows → ((holds : Bool) (state' : State S) → P state'.shows → Kept P (f holds state')) → Kept P (condition_meaning run text f state)
    kept_condition text f state w h = kept_and_then (expression_meaning run text state) (on_value f) (kept_expression text state w) (kept_on_value f h)

    pub kept_otherwise : (otherwise : Option (List ℕ)) (state : State S) → P state.shows → Kept P (otherwise_meaning run otherwise state)
    kept_otherwise (Some body) state w = run_keeps body state w
    kept_otherwise None state w = w

    pub kept_choices : (branches : List Branch) (otherwise : Option (List ℕ)) (state : State S) → P state.shows → Kept P (choices_meaning run branches otherwise state)
    kept_choices [] otherwise state w = kept_otherwise otherwise state w
    kept_choices (branch ∷ branches) otherwise state w =
        kept_condition branch.test _ state w
        (kept_if (run branch.body) (choices_meaning run branches otherwise) (λ state' w'. run_keeps branch.body state' w') (λ state' w'. kept_choices branches otherwise state' w'))

    pub kept_run_at : (count : ℕ) (script : List ℕ) (state : State S) → P state.shows → Kept P (run_at run count script state)
    kept_run_at count script state w =
        kept_and_then (run script (record state { context = with_first_levels count state.context })) (levels_back (others count state.context)) (run_keeps script (record state { context = with_first_levels count state.context }) w) (λ state' code text w'. w')

    pub kept_next : (next : Option (List ℕ)) (again : State S → Outcome S) → ((state : State S) → P state.shows → Kept P (again state)) → (state : State S) → P state.shows → Kept P (next_iteration run next again state)
    kept_next None again h state w = h state w
    kept_next (Some script) again h state w = kept_and_then (run script state) (after_next again) (run_keeps script state w) (kept_after_next again h)

    kept_test : (test : Test) (body : Test → State S → Outcome S) (state : State S) → P state.shows → ((after : Test) (state' : State S) → P state'.shows → Kept P (body after state')) → Kept P (test_meaning run test body state)
    kept_test (Holds condition) body state w h = kept_condition condition _ state w (kept_if (body (Holds condition)) loop_ended (h (Holds condition)) (λ state' w'. w'))
    kept_test (Items groups) body state w h = kept_on_tested state _ (items_tested (seen_frame state) groups state.store) w (λ left state' w'. h (Items left) state' w')

    pub kept_iteration : (looping : Loop) (again : State S → Outcome S) → ((state : State S) → P state.shows → Kept P (again state)) → (state : State S) → P state.shows → Kept P (iteration_meaning run looping again state)
    kept_iteration looping again h state w =
        kept_and_then (run looping.body state) (after_body (next_iteration run looping.next again)) (run_keeps looping.body state w) (kept_after_body _ (kept_next looping.next again h))

    pub kept_iterations : (looping : Loop) (iterations : ℕ) (state : State S) → P state.shows → Kept P (iterations_meaning run looping iterations state)
    kept_iterations looping zero state w = tt
    kept_iterations looping (suc iterations) state w =
        kept_stepped state.steps state _ w (λ state' w'.
        kept_test looping.test _ state' w' (λ test state'' w''.
        kept_iteration looping (iterations_meaning run (record looping { test = test }) iterations) (λ state3 w3. kept_iterations (record looping { test = test }) iterations state3 w3) state'' w''))

    kept_plan : (p : Plan) (state : State S) → P state.shows → Kept P (plan_meaning run p state)
    kept_plan (plan.Ends code text) state w = w
    kept_plan (plan.Runs script) state w = run_keeps script state w
    kept_plan (plan.Catches script name) state w = kept_and_then (run script state) (caught name) (run_keeps script state w) (λ state' code text w'. w')
    kept_plan (plan.RunsAt count script) state w = kept_run_at count script state w
    kept_plan (plan.Enters body) state w = kept_and_then (run body state) procedure_ended (run_keeps body state w) (λ state' code text w'. w')
    kept_plan (plan.Evaluates expression) state w = kept_expression expression state w
    kept_plan (plan.Chooses choices) state w = kept_choices choices.branches choices.otherwise state w
    kept_plan (plan.Loops looping) state w = kept_iterations looping state.steps state w
    kept_plan (plan.Starts script looping) state w =
        kept_and_then (run script state) (on_normal (λ state' text. loop_meaning run looping state')) (run_keeps script state w)
        (kept_on_normal (λ state' text. loop_meaning run looping state') (λ state' text w'. kept_iterations looping state'.steps state' w'))

  module _ {K : Type 0} (outside : Outside S K) (keeps : Keeps outside) (run : List ℕ → State S → Outcome S) (run_keeps : KeepsRun P run) where
    kept_on_act : (f : K → State S → Outcome S) (g : K → State S → Code → List ℕ → Outcome S) → ((task : K) (state : State S) → P state.shows → Kept P (f task state)) → ((task : K) (state : State S) (code : Code) (text : List ℕ) → P state.shows → Kept P (g task state code text)) → (name : List ℕ) (state : State S) (act : Act K) → P state.shows → Kept P (on_act run f g name state act)
    kept_on_act f g h k name state (Done code text) w = w
    kept_on_act f g h k name state (Step task) w = kept_stepped state.steps state (f task) w (h task)
    kept_on_act f g h k name state (Run script task) w =
        kept_and_then (run_at run 1 script state) (λ state' code text. g task state' (out_of_global code) text) (kept_run_at run run_keeps 1 script state w) (λ state' code text w'. k task state' (out_of_global code) text w')
    kept_on_act f g h k name state Unknown w = w

    kept_resumed : (f : K → State S → Outcome S) → ((task : K) (state : State S) → P state.shows → Kept P (f task state)) → (size : ℕ) (task : K) (state : State S) (code : Code) (text : List ℕ) → P state.shows → Kept P (resumed outside run f size task state code text)
    kept_resumed f h zero task state code text w =
        kept_on_act f (λ _ state' _ _. OutOfSteps state') h (λ task' state' code' text' w'. tt) [] _ (outside.resumes state.shows state.store task code text).act (keeps.1 state.shows state.store task code text w)
    kept_resumed f h (suc size) task state code text w =
        kept_on_act f (resumed outside run f size) h (λ task' state' code' text' w'. kept_resumed f h size task' state' code' text' w') [] _ (outside.resumes state.shows state.store task code text).act (keeps.1 state.shows state.store task code text w)

    pub kept_after_step : (iterations : ℕ) (task : K) (state : State S) → P state.shows → Kept P (after_step outside run iterations task state)
    kept_after_step zero task state w = tt
    kept_after_step (suc iterations) task state w = kept_resumed (after_step outside run iterations) (kept_after_step iterations) (outside.size task) task state Normal [] w

    pub kept_task : (task : K) (state : State S) (code : Code) (text : List ℕ) → P state.shows → Kept P (task_meaning outside run task state code text)
    kept_task task state code text w = kept_resumed (after_step outside run state.steps) (kept_after_step state.steps) (outside.size task) task state code text w

    kept_act : (name : List ℕ) (state : State S) (act : Act K) → P state.shows → Kept P (act_meaning outside run name state act)
    kept_act name state act w = kept_on_act (after_step outside run state.steps) (task_meaning outside run) (kept_after_step state.steps) (kept_task) name state act w

    pub kept_outside : KeepsCommand P (outside_meaning outside run)
    kept_outside name first arguments state w = kept_act name _ (outside.calls state.shows state.store (first ∷ arguments)).act (keeps.0 state.shows state.store (first ∷ arguments) w)

  kept_on_parsed : (f : List Command → Outcome S) (state : State S) (script : Result (List Command) ParseFault) → P state.shows → ((commands : List Command) → Kept P (f commands)) → Kept P (on_parsed f state script)
  kept_on_parsed f state (Ok commands) w h = h commands
  kept_on_parsed f state (Err fault) w h = w

  module _ (command : CommandMeaning S) where
    module _ (run : List ℕ → State S → Outcome S) (run_keeps : KeepsRun P run) (command_keeps : KeepsCommand P (command run)) where
      kept_by_call : (name : List ℕ) (arguments : List (List ℕ)) (state : State S) (c : Call) → P state.shows → Kept P (by_call command run name arguments state c)
      kept_by_call name arguments state (call.Plans p) w = kept_plan run run_keeps p state w
      kept_by_call name arguments state (call.Outside first) w = command_keeps name first arguments state w
      kept_by_call name arguments state call.Unknown w = w

      pub kept_call : KeepsRun P (call_meaning command run)
      kept_call [] state w = w
      kept_call (name ∷ arguments) state w =
          let c : Called = call_of name arguments state.store state.context in
          kept_by_call name arguments (record state { store = c.store; context = c.context }) c.call w

    -- the evaluation of a script keeps it, where the outside commands do
    pub kept_scripts : CommandsKeep P command → (room : ℕ) → KeepsRun P (scripts_by command room)
    kept_scripts keeps zero text state w = w
    kept_scripts keeps (suc room) text state w =
        kept_on_parsed _ state (script_of text) w (λ commands.
        kept_commands (scripts_by command room) (call_meaning command (scripts_by command room)) (kept_scripts keeps room)
        (kept_call (scripts_by command room) (kept_scripts keeps room) (keeps room (kept_scripts keeps room))) commands [] state w)

  pub kept_script : {K : Type 0} (outside : Outside S K) → Keeps outside → (room : ℕ) → KeepsRun P (script_meaning outside room)
  kept_script outside keeps room =
      kept_scripts (outside_meaning outside) (λ inner run_keeps. kept_outside outside keeps (script_meaning outside inner) run_keeps) room
