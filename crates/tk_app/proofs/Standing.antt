-- A script leaves the levels that it began at and as many frames, and links lead to earlier ones, where the outside commands leave the frames.
use Rattle.std.proofs.Common.{◌≡◌, ℕ, zero, suc, ◌+◌, ◌-◌, ◌<◌, inl, inr, Bool, true, false, cond, List, [], ◌∷◌, ◌++◌, All, length, length-append, take, take_at, take-append-drop, drop, nat_le, Option, Some, None, Result, Ok, Err, sym, ap, ◌∙◌, subst, arith}
use Rattle.std.proofs.lemmas.List.Elements.{All-push, All-take, All-weaker}
use Rattle.tcl_words.specs.declared.script.Command.{Command}
use Rattle.tcl_words.specs.declared.script.Word.{Word}
use Rattle.tcl_words.specs.declared.script.Piece.{Piece}
use Rattle.tcl_words.specs.declared.script.Piece.TheVariants.{Literal, Variable, Element, Bracket}
use Rattle.tcl_text.specs.declared.fault.ParseFault.{ParseFault}
use Rattle.tcl_vars.specs.Links.{FramesDescend}
use Rattle.tcl_vars.specs.Store.{Store, variable_in, element_in}
use Rattle.tcl_text.specs.declared.fault.ReadFault.{ReadFault}
use Rattle.tcl_control.specs.declared.code.Code.{Code}
use Rattle.tcl_control.specs.declared.code.Code.TheVariants.{Normal, Error, Return, Break, Continue}
use Rattle.tcl_control.specs.declared.control.Call.{Call}
use Rattle.tcl_control.specs.declared.control.Call.TheVariants as call
use Rattle.tcl_control.specs.declared.plan.Plan.{Plan}
use Rattle.tcl_control.specs.declared.plan.Plan.TheVariants as plan
use Rattle.tcl_control.specs.declared.loops.Test.{Test}
use Rattle.tcl_control.specs.declared.loops.Test.TheVariants.{Holds, Items}
use Rattle.tcl_commands.specs.declared.branches.Branch.{Branch}
use Rattle.tcl_commands.specs.declared.groups.Group.{Group}
use Rattle.tcl_expr.specs.declared.fault.EvalFault.{EvalFault}
use Rattle.tcl_expr.specs.Run.{Run as Evaluating, AsksVariable, AsksElement, AsksCommand, Ends, evaluation}
use Rattle.tcl_expr.specs.Trees.{Tree}
use Rattle.tcl_control.specs.Expressions.{expression_of, truth_of_text}
use Rattle.tcl_control.specs.declared.loops.Loop.{Loop}
use Rattle.tcl_control.specs.Control.{Called, call_of}
use Rattle.tcl_table.specs.Levels.{up}
use Rattle.tcl_table.specs.Source.{script_of}
use Rattle.tcl_table.specs.Texts.{element_name}
use Rattle.tcl_control.specs.Loops.{Tested, More, NoMore, Fails, items_tested}
use Rattle.tcl_interp.proofs.TreeValues.{tree_runs}
use Rattle.tcl_interp.specs.declared.tasks.Act.{Act}
use Rattle.tcl_interp.specs.declared.tasks.Act.TheVariants.{Done, Step, Run, Unknown}
use Rattle.tcl_interp.specs.Outside.{Outside}
use Rattle.tcl_interp.specs.Evaluation.{State, Outcome, Ended, OutOfSteps, seen_frame, and_then, on_normal, stepped, on_read, words_of, on_words, index_pieces, element_read, on_index, piece_meaning, pieces_meaning, element_within, element_meaning, words_meaning, called, commands_meaning}
use Rattle.tcl_interp.specs.Plans.{with_first_levels, others, levels_back, procedure_ended, caught, on_tested, loop_ended, after_body, after_next, run_at, next_iteration, test_meaning, iteration_meaning, iterations_meaning, loop_meaning, plan_meaning}
use Rattle.tcl_interp.specs.Expressions.{with_truth, on_value, if_holds, tree_meaning, expression_meaning, condition_meaning, otherwise_meaning, choices_meaning}
use Rattle.tcl_interp.specs.Asked.{value_ended, run_meaning}
use Rattle.tcl_interp.specs.Acts.{on_act, resumed, after_step, task_meaning, act_meaning, script_meaning, outside_meaning}
use Rattle.tcl_interp.specs.Scripts.{CommandMeaning, out_of_global, by_call, call_meaning, on_parsed, scripts_by}
use Rattle.tk_app.specs.Stores.{Stands}
use Rattle.tk_app.proofs.KeptByCalls.{Does, IsStill, IsStillCall, call_kept, descend_popped, descend_pushed, length_popped}
use Rattle.tk_app.proofs.KeptByCommands.{caught_kept, tested_kept, tested_store}
use Rattle.tk_app.proofs.KeptFrames.{Keeps}

-- ── what holds of a state at some levels ──

-- there is the global frame, and one at each level
pub record Fits (levels : List ℕ) (frames : ℕ) : Type 0 where
  pub rooted : 0 < frames
  pub there : All (λ level. level < frames) levels

-- these are the levels, there are so many frames, and links lead to earlier ones
pub record At (levels : List ℕ) (frames : ℕ) (now : List ℕ) (store : Store) : Type 0 where
  pub seen : now ≡ levels
  pub many : length store ≡ frames
  pub earlier : FramesDescend store

pub standing : {levels : List ℕ} {frames : ℕ} {now : List ℕ} {store : Store} → Fits levels frames → At levels frames now store → Stands now store
standing {levels} {frames} {now} {store} fits at = record {
  rooted = subst (λ n. 0 < n) (sym at.many) fits.rooted;
  there = subst (λ n. All (λ level. level < n) now) (sym at.many) (subst (λ ls. All (λ level. level < frames) ls) (sym at.seen) fits.there);
  earlier = at.earlier;
}

pub moved : {levels : List ℕ} {frames : ℕ} {now : List ℕ} {store new : Store} → At levels frames now store → Keeps store new → At levels frames now new
moved at kept = record { seen = at.seen; many = kept.frames ∙ at.many; earlier = kept.earlier at.earlier }

module _ {S : Type 0} where
  abbrev pub InState : List ℕ → ℕ → State S → Type 0
  InState levels frames state = At levels frames state.context.levels state.store

  -- where it has ended; and at whatever levels it was where it needed a step and none was left
  abbrev pub Leaves : List ℕ → ℕ → Outcome S → Type 0
  Leaves levels frames (Ended state code text) = InState levels frames state
  Leaves levels frames (OutOfSteps state) = Stands state.context.levels state.store

  abbrev pub KeepsRun : {A : Type 0} → List ℕ → ℕ → (A → State S → Outcome S) → Type 0
  KeepsRun {A} levels frames run = (x : A) (state : State S) → InState levels frames state → Leaves levels frames (run x state)

  -- at whatever levels
  abbrev pub AlwaysKeeps : {A : Type 0} → (A → State S → Outcome S) → Type 0
  AlwaysKeeps run = (levels : List ℕ) (frames : ℕ) → Fits levels frames → KeepsRun levels frames run

  abbrev pub KeepsCommand : (List ℕ → List ℕ → List (List ℕ) → State S → Outcome S) → Type 0
  KeepsCommand command = (levels : List ℕ) (frames : ℕ) → Fits levels frames → (name first : List ℕ) (arguments : List (List ℕ)) (state : State S) → InState levels frames state
      → Leaves levels frames (command name first arguments state)

  -- what comes behind something at other levels
  pub then_at : (levels other : List ℕ) (frames others : ℕ) (o : Outcome S) (f : State S → Code → List ℕ → Outcome S) → Leaves other others o
      → ((state : State S) (code : Code) (text : List ℕ) → InState other others state → Leaves levels frames (f state code text)) → Leaves levels frames (and_then o f)
  then_at levels other frames others (Ended state code text) f w h = h state code text w
  then_at levels other frames others (OutOfSteps state) f w h = w

-- ── fewer levels, and one more ──

fits_fewer : (levels : List ℕ) (frames count : ℕ) → Fits levels frames → Fits (take count levels) frames
fits_fewer levels frames count fits = record { rooted = fits.rooted; there = All-take (λ level. level < frames) count levels fits.there }

fits_more : (levels : List ℕ) (frames : ℕ) → Fits levels frames → Fits (levels ++ frames ∷ []) (frames + 1)
fits_more levels frames fits = record {
  rooted = omega arith;
  there = All-push (λ level. level < frames + 1) levels frames (All-weaker (λ level. level < frames) (λ level. level < frames + 1) (λ level lt. omega (arith, lt)) levels fits.there) (omega arith);
}

up_more : (levels : List ℕ) (frame : ℕ) → up (levels ++ frame ∷ []) ≡ levels
up_more levels frame = take_at levels (frame ∷ []) (length (levels ++ frame ∷ []) - 1) (omega (arith, length-append levels (frame ∷ [])))

-- ── the meaning of scripts ──

module _ {S : Type 0} (levels : List ℕ) (frames : ℕ) (fits : Fits levels frames) where
  abbrev Here : State S → Type 0
  Here state = InState levels frames state

  abbrev Left : Outcome S → Type 0
  Left outcome = Leaves levels frames outcome

  pub kept_and_then : (o : Outcome S) (f : State S → Code → List ℕ → Outcome S) → Left o → ((state : State S) (code : Code) (text : List ℕ) → Here state → Left (f state code text)) → Left (and_then o f)
  kept_and_then (Ended state code text) f w h = h state code text w
  kept_and_then (OutOfSteps state) f w h = w

  pub kept_on_normal : (f : State S → List ℕ → Outcome S) → ((state : State S) (text : List ℕ) → Here state → Left (f state text)) → (state : State S) (code : Code) (text : List ℕ) → Here state → Left (on_normal f state code text)
  kept_on_normal f h state Normal text w = h state text w
  kept_on_normal f h state Error text w = w
  kept_on_normal f h state (Return code) text w = w
  kept_on_normal f h state Break text w = w
  kept_on_normal f h state Continue text w = w

  pub kept_stepped : (left : ℕ) (state : State S) (f : State S → Outcome S) → Here state → ((state : State S) → Here state → Left (f state)) → Left (stepped left state f)
  kept_stepped zero state f w h = standing fits w
  kept_stepped (suc left) state f w h = h (record state { steps = left }) w

  pub kept_on_read : (name : List ℕ) (state : State S) (f : State S → List ℕ → Outcome S) (value : Result (List ℕ) ReadFault) → Here state → ((text : List ℕ) → Left (f state text)) → Left (on_read name state f value)
  kept_on_read name state f (Ok value) w h = h value
  kept_on_read name state f (Err fault) w h = w

  pub kept_cond : (b : Bool) (o p : Outcome S) → Left o → Left p → Left (cond b o p)
  kept_cond true o p w v = w
  kept_cond false o p w v = v

  pub kept_on_words : (state : State S) (f : State S → List (List ℕ) → Outcome S) (words : Result (List (List ℕ)) (List ℕ)) → Here state → ((more : List (List ℕ)) → Left (f state more)) → Left (on_words state f words)
  kept_on_words state f (Ok more) w h = h more
  kept_on_words state f (Err text) w h = w

  kept_on_index : (state : State S) (f : List Piece → Outcome S) (pieces : Result (List Piece) ParseFault) → Here state → ((ps : List Piece) → Left (f ps)) → Left (on_index state f pieces)
  kept_on_index state f (Ok pieces) w h = h pieces
  kept_on_index state f (Err fault) w h = w

  -- how an element is read keeps it
  abbrev pub KeepsElement : (List ℕ → List ℕ → State S → Outcome S) → Type 0
  KeepsElement element = (name index : List ℕ) (state : State S) → Here state → Left (element name index state)

  module _ (run : List ℕ → State S → Outcome S) (element : List ℕ → List ℕ → State S → Outcome S) (run_keeps : KeepsRun levels frames run) (element_keeps : KeepsElement element) where
    pub kept_piece : (piece : Piece) (state : State S) (f : State S → List ℕ → Outcome S) → Here state → ((state' : State S) (text : List ℕ) → Here state' → Left (f state' text)) → Left (piece_meaning run element piece state f)
    kept_piece (Literal text) state f w h = h state text w
    kept_piece (Variable name) state f w h = kept_on_read name state f (variable_in state.store (seen_frame state) name) w (λ text. h state text w)
    kept_piece (Element name index) state f w h = kept_and_then (element name index state) (on_normal f) (element_keeps name index state w) (kept_on_normal f h)
    kept_piece (Bracket script) state f w h = kept_and_then (run script state) (on_normal f) (run_keeps script state w) (kept_on_normal f h)

    pub kept_pieces : (pieces : List Piece) (so_far : List ℕ) (state : State S) (f : State S → List ℕ → Outcome S) → Here state → ((state' : State S) (text : List ℕ) → Here state' → Left (f state' text)) → Left (pieces_meaning run element pieces so_far state f)
    kept_pieces [] so_far state f w h = h state so_far w
    kept_pieces (piece ∷ pieces) so_far state f w h =
        kept_piece piece state _ w (λ state' text w'.
        kept_cond (nat_le (length (so_far ++ text)) 65536) _ _ (kept_pieces pieces (so_far ++ text) state' f w' h) w')

  pub kept_element_within : (run : List ℕ → State S → Outcome S) → KeepsRun levels frames run → (depth : ℕ) → KeepsElement (element_within run depth)
  kept_element_within run run_keeps zero name index state w = w
  kept_element_within run run_keeps (suc depth) name index state w =
      kept_on_index state (λ ps. pieces_meaning run (element_within run depth) ps [] state (element_read name)) (index_pieces index) w (λ ps.
      kept_pieces run (element_within run depth) run_keeps (kept_element_within run run_keeps depth) ps [] state (element_read name) w
      (λ state' text w'. kept_on_read (element_name name text) state' (λ state'' value. Ended state'' Normal value) (element_in state'.store (seen_frame state') name text) w' (λ value. w')))

  pub kept_element : (run : List ℕ → State S → Outcome S) → KeepsRun levels frames run → KeepsElement (element_meaning run)
  kept_element run run_keeps name index state w = kept_element_within run run_keeps (suc (length index)) name index state w

  module _ (run : List ℕ → State S → Outcome S) (call : List (List ℕ) → State S → Outcome S) (run_keeps : KeepsRun levels frames run) where
    pub kept_words : (words : List Word) (whole : List (List ℕ)) (state : State S) (f : State S → List (List ℕ) → Outcome S) → Here state → ((state' : State S) (all : List (List ℕ)) → Here state' → Left (f state' all)) → Left (words_meaning run call words whole state f)
    kept_words [] whole state f w h = h state whole w
    kept_words (word ∷ words) whole state f w h =
        kept_pieces run (element_meaning run) run_keeps (kept_element run run_keeps) word.pieces [] state _ w (λ state' text w'.
        kept_on_words state' (λ state'' more. words_meaning run call words (whole ++ more) state'' f) (words_of word.expand text) w' (λ more. kept_words words (whole ++ more) state' f w' h))

    pub kept_called : KeepsRun levels frames call → (state : State S) (words : List (List ℕ)) → Here state → Left (called run call state words)
    kept_called c state [] w = w
    kept_called c state (name ∷ arguments) w = kept_stepped state.steps state _ w (λ state' w'. c (name ∷ arguments) state' w')

    pub kept_commands : KeepsRun levels frames call → (commands : List Command) (result : List ℕ) (state : State S) → Here state → Left (commands_meaning run call commands result state)
    kept_commands c [] result state w = w
    kept_commands c (command ∷ commands) result state w =
        kept_and_then _ _ (kept_words command.words [] state _ w (λ state' all w'. kept_called c state' all w'))
        (kept_on_normal _ (λ state' text w'. kept_commands c commands text state' w'))

  kept_on_tested : (state : State S) (f : List Group → State S → Outcome S) (test : Tested) → Here state → Keeps state.store (tested_store test)
      → ((after : List Group) (state' : State S) → Here state' → Left (f after state')) → Left (on_tested state f test)
  kept_on_tested state f (More store after) w kept h = h after (record state { store = store }) (moved w kept)
  kept_on_tested state f (NoMore store) w kept h = moved w kept
  kept_on_tested state f (Fails store text) w kept h = moved w kept

  pub kept_after_body : (again : State S → Outcome S) → ((state : State S) → Here state → Left (again state)) → (state : State S) (code : Code) (text : List ℕ) → Here state → Left (after_body again state code text)
  kept_after_body again h state Normal text w = h state w
  kept_after_body again h state Continue text w = h state w
  kept_after_body again h state Break text w = w
  kept_after_body again h state Error text w = w
  kept_after_body again h state (Return code) text w = w

  pub kept_after_next : (again : State S → Outcome S) → ((state : State S) → Here state → Left (again state)) → (state : State S) (code : Code) (text : List ℕ) → Here state → Left (after_next again state code text)
  kept_after_next again h state Normal text w = h state w
  kept_after_next again h state Continue text w = w
  kept_after_next again h state Break text w = w
  kept_after_next again h state Error text w = w
  kept_after_next again h state (Return code) text w = w

  kept_on_truth : (state : State S) (f : Bool → State S → Outcome S) (truth : Result Bool (List ℕ)) → Here state → ((holds : Bool) (state' : State S) → Here state' → Left (f holds state')) → Left (with_truth state f truth)
  kept_on_truth state f (Ok holds) w h = h holds state w
  kept_on_truth state f (Err text) w h = w

  pub kept_on_value : (f : Bool → State S → Outcome S) → ((holds : Bool) (state' : State S) → Here state' → Left (f holds state')) → (state : State S) (code : Code) (text : List ℕ) → Here state → Left (on_value f state code text)
  kept_on_value f h = kept_on_normal _ (λ state value w. kept_on_truth state f (truth_of_text value) w h)

  pub kept_if : (first second : State S → Outcome S) → ((state : State S) → Here state → Left (first state)) → ((state : State S) → Here state → Left (second state)) → (holds : Bool) (state : State S) → Here state → Left (if_holds first second holds state)
  kept_if first second y z true state w = y state w
  kept_if first second y z false state w = z state w

  kept_value_ended : (state : State S) (result : Result (List ℕ) EvalFault) → Here state → Left (value_ended state result)
  kept_value_ended state (Ok value) w = w
  kept_value_ended state (Err fault) w = w

  module _ (run : List ℕ → State S → Outcome S) (run_keeps : KeepsRun levels frames run) where
    pub kept_run : (r : Evaluating) (state : State S) → Here state → Left (run_meaning run r state)
    kept_run (AsksVariable name go) state w = kept_on_read name state (λ state' value. run_meaning run (go value) state') (variable_in state.store (seen_frame state) name) w (λ value. kept_run (go value) state w)
    kept_run (AsksElement array index go) state w =
        kept_on_read (element_name array index) state (λ state' value. run_meaning run (go value) state') (element_in state.store (seen_frame state) array index) w (λ value. kept_run (go value) state w)
    kept_run (AsksCommand script go) state w =
        kept_and_then (run script state) (on_normal (λ state' value. run_meaning run (go value) state')) (run_keeps script state w)
        (kept_on_normal (λ state' value. run_meaning run (go value) state') (λ state' value w'. kept_run (go value) state' w'))
    kept_run (Ends result) state w = kept_value_ended state result w

    kept_tree : (state : State S) (tree : Result Tree (List ℕ)) → Here state → Left (tree_meaning run state tree)
    kept_tree state (Ok tree) w = subst (λ (o : Outcome S). Left o) (tree_runs run tree state) (kept_run (evaluation tree) state w)
    kept_tree state (Err text) w = w

    pub kept_expression : (text : List ℕ) (state : State S) → Here state → Left (expression_meaning run text state)
    kept_expression text state w = kept_tree state (expression_of text) w

    pub kept_condition : (text : List ℕ) (f : Bool → State S → Outcome S) (state : State S) → Here state → ((holds : Bool) (state' : State S) → Here state' → Left (f holds state')) → Left (condition_meaning run text f state)
    kept_condition text f state w h = kept_and_then (expression_meaning run text state) (on_value f) (kept_expression text state w) (kept_on_value f h)

    pub kept_otherwise : (otherwise : Option (List ℕ)) (state : State S) → Here state → Left (otherwise_meaning run otherwise state)
    kept_otherwise (Some body) state w = run_keeps body state w
    kept_otherwise None state w = w

    pub kept_choices : (branches : List Branch) (otherwise : Option (List ℕ)) (state : State S) → Here state → Left (choices_meaning run branches otherwise state)
    kept_choices [] otherwise state w = kept_otherwise otherwise state w
    kept_choices (branch ∷ branches) otherwise state w =
        kept_condition branch.test _ state w
        (kept_if (run branch.body) (choices_meaning run branches otherwise) (λ state' w'. run_keeps branch.body state' w') (λ state' w'. kept_choices branches otherwise state' w'))

    pub kept_next : (next : Option (List ℕ)) (again : State S → Outcome S) → ((state : State S) → Here state → Left (again state)) → (state : State S) → Here state → Left (next_iteration run next again state)
    kept_next None again h state w = h state w
    kept_next (Some script) again h state w = kept_and_then (run script state) (after_next again) (run_keeps script state w) (kept_after_next again h)

    kept_test : (test : Test) (body : Test → State S → Outcome S) (state : State S) → Here state → ((after : Test) (state' : State S) → Here state' → Left (body after state')) → Left (test_meaning run test body state)
    kept_test (Holds condition) body state w h = kept_condition condition _ state w (kept_if (body (Holds condition)) loop_ended (h (Holds condition)) (λ state' w'. w'))
    kept_test (Items groups) body state w h = kept_on_tested state _ (items_tested (seen_frame state) groups state.store) w (tested_kept (seen_frame state) groups state.store) (λ left state' w'. h (Items left) state' w')

    pub kept_iteration : (looping : Loop) (again : State S → Outcome S) → ((state : State S) → Here state → Left (again state)) → (state : State S) → Here state → Left (iteration_meaning run looping again state)
    kept_iteration looping again h state w =
        kept_and_then (run looping.body state) (after_body (next_iteration run looping.next again)) (run_keeps looping.body state w) (kept_after_body _ (kept_next looping.next again h))

    pub kept_iterations : (looping : Loop) (iterations : ℕ) (state : State S) → Here state → Left (iterations_meaning run looping iterations state)
    kept_iterations looping zero state w = standing fits w
    kept_iterations looping (suc iterations) state w =
        kept_stepped state.steps state _ w (λ state' w'.
        kept_test looping.test _ state' w' (λ test state'' w''.
        kept_iteration looping (iterations_meaning run (record looping { test = test }) iterations) (λ state3 w3. kept_iterations (record looping { test = test }) iterations state3 w3) state'' w''))

  module _ (run : List ℕ → State S → Outcome S) (always : AlwaysKeeps run) where
    pub kept_run_at : (count : ℕ) (script : List ℕ) (state : State S) → Here state → Left (run_at run count script state)
    kept_run_at count script state w =
        then_at levels (take count levels) frames frames (run script (record state { context = with_first_levels count state.context })) (levels_back (others count state.context))
        (always (take count levels) frames (fits_fewer levels frames count fits) script (record state { context = with_first_levels count state.context })
        (record { seen = ap (take count) w.seen; many = w.many; earlier = w.earlier }))
        (λ left code text at. record {
          seen = ap (λ ls. ls ++ drop count state.context.levels) at.seen ∙ ap (λ ls. take count levels ++ drop count ls) w.seen ∙ take-append-drop count levels;
          many = at.many;
          earlier = at.earlier;
        })

    kept_body : (body : List ℕ) (state : State S) → InState (levels ++ frames ∷ []) (frames + 1) state → Left (and_then (run body state) procedure_ended)
    kept_body body state w =
        then_at levels (levels ++ frames ∷ []) frames (frames + 1) (run body state) procedure_ended
        (always (levels ++ frames ∷ []) (frames + 1) (fits_more levels frames fits) body state w)
        (λ left code text at. record {
          seen = ap up at.seen ∙ up_more levels frames;
          many = omega (arith, at.many, fits.rooted, length_popped left.store (omega (arith, at.many, fits.rooted)));
          earlier = descend_popped left.store at.earlier;
        })

    kept_plan : (p : Plan) → IsStill p → (state : State S) → Here state → Left (plan_meaning run p state)
    kept_plan (plan.Ends code text) still state w = w
    kept_plan (plan.Runs script) still state w = always levels frames fits script state w
    kept_plan (plan.Catches script name) still state w =
        kept_and_then (run script state) (caught name) (always levels frames fits script state w) (λ left code text at. moved at (caught_kept (seen_frame left) name code text left.store))
    kept_plan (plan.RunsAt count script) still state w = kept_run_at count script state w
    kept_plan (plan.Enters body) still state w = absurd still
    kept_plan (plan.Evaluates expression) still state w = kept_expression run (always levels frames fits) expression state w
    kept_plan (plan.Chooses choices) still state w = kept_choices run (always levels frames fits) choices.branches choices.otherwise state w
    kept_plan (plan.Loops looping) still state w = kept_iterations run (always levels frames fits) looping state.steps state w
    kept_plan (plan.Starts script looping) still state w =
        kept_and_then (run script state) (on_normal (λ state' text. loop_meaning run looping state')) (always levels frames fits script state w)
        (kept_on_normal (λ state' text. loop_meaning run looping state') (λ state' text w'. kept_iterations run (always levels frames fits) looping state'.steps state' w'))

  kept_on_parsed : (f : List Command → Outcome S) (state : State S) (script : Result (List Command) ParseFault) → Here state → ((commands : List Command) → Left (f commands)) → Left (on_parsed f state script)
  kept_on_parsed f state (Ok commands) w h = h commands
  kept_on_parsed f state (Err fault) w h = w

  module _ (command : CommandMeaning S) (run : List ℕ → State S → Outcome S) (always : AlwaysKeeps run) (command_keeps : KeepsCommand (command run)) where
    kept_by_call : (name : List ℕ) (arguments : List (List ℕ)) (state : State S) (c : Call) → IsStillCall c → Here state → Left (by_call command run name arguments state c)
    kept_by_call name arguments state (call.Plans p) still w = kept_plan run always p still state w
    kept_by_call name arguments state (call.Outside first) still w = command_keeps levels frames fits name first arguments state w
    kept_by_call name arguments state call.Unknown still w = w

    pub kept_call : KeepsRun levels frames (call_meaning command run)
    kept_call [] state w = w
    kept_call (name ∷ arguments) state w = by (call_kept state.store (subst (λ n. 0 < n) (sym w.many) fits.rooted) state.context name arguments)
      where
        c : Called
        c = call_of name arguments state.store state.context

        then_state : State S
        then_state = record state { store = c.store; context = c.context }

        by : Does state.context.levels state.store c → Left (by_call command run name arguments then_state c.call)
        by (inl stays) = kept_by_call name arguments then_state c.call stays.still (record {
          seen = stays.seen ∙ w.seen;
          many = stays.kept.frames ∙ w.many;
          earlier = stays.kept.earlier w.earlier;
        })
        by (inr goes) = subst (λ k. Left (by_call command run name arguments then_state k)) (sym goes.enters) (kept_body run always goes.body then_state (record {
          seen = goes.seen ∙ ap (λ ls. ls ++ length state.store ∷ []) w.seen ∙ ap (λ n. levels ++ n ∷ []) w.many;
          many = omega (arith, goes.kept.frames, length-append state.store ([] ∷ []), w.many);
          earlier = goes.kept.earlier (descend_pushed state.store w.earlier);
        }))

-- the evaluation of a script keeps it at whatever levels, where the outside commands do
pub kept_scripts : {S : Type 0} (command : CommandMeaning S) → ((room : ℕ) → AlwaysKeeps (scripts_by command room) → KeepsCommand (command (scripts_by command room))) → (room : ℕ)
    → AlwaysKeeps (scripts_by command room)
kept_scripts command keeps zero levels frames fits text state w = w
kept_scripts command keeps (suc room) levels frames fits text state w =
    let always = kept_scripts command keeps room in
    kept_on_parsed levels frames fits (λ commands. commands_meaning (scripts_by command room) (call_meaning command (scripts_by command room)) commands [] state) state (script_of text) w (λ commands.
    kept_commands levels frames fits (scripts_by command room) (call_meaning command (scripts_by command room)) (always levels frames fits)
    (kept_call levels frames fits command (scripts_by command room) always (keeps room always)) commands [] state w)

-- ── outside commands that leave the frames ──

abbrev pub KeepsStores : {S K : Type 0} → Outside S K → Type 0
KeepsStores {S} {K} outside =
    ((shows : S) (store : Store) (words : List (List ℕ)) → Keeps store (outside.calls shows store words).store)
    × ((shows : S) (store : Store) (task : K) (code : Code) (text : List ℕ) → Keeps store (outside.resumes shows store task code text).store)

module _ {S K : Type 0} (outside : Outside S K) (keeps : KeepsStores outside) (run : List ℕ → State S → Outcome S) (always : AlwaysKeeps run) where
  module _ (levels : List ℕ) (frames : ℕ) (fits : Fits levels frames) where
    abbrev There : State S → Type 0
    There state = InState levels frames state

    abbrev Goes : Outcome S → Type 0
    Goes outcome = Leaves levels frames outcome

    kept_on_act : (f : K → State S → Outcome S) (g : K → State S → Code → List ℕ → Outcome S) → ((task : K) (state : State S) → There state → Goes (f task state))
        → ((task : K) (state : State S) (code : Code) (text : List ℕ) → There state → Goes (g task state code text)) → (name : List ℕ) (state : State S) (act : Act K) → There state
        → Goes (on_act run f g name state act)
    kept_on_act f g h k name state (Done code text) w = w
    kept_on_act f g h k name state (Step task) w = kept_stepped levels frames fits state.steps state (f task) w (h task)
    kept_on_act f g h k name state (Run script task) w =
        kept_and_then levels frames fits (run_at run 1 script state) (λ state' code text. g task state' (out_of_global code) text) (kept_run_at levels frames fits run always 1 script state w)
        (λ state' code text w'. k task state' (out_of_global code) text w')
    kept_on_act f g h k name state Unknown w = w

    kept_resumed : (f : K → State S → Outcome S) → ((task : K) (state : State S) → There state → Goes (f task state)) → (size : ℕ) (task : K) (state : State S) (code : Code) (text : List ℕ)
        → There state → Goes (resumed outside run f size task state code text)
    kept_resumed f h zero task state code text w =
        kept_on_act f (λ _ state' _ _. OutOfSteps state') h (λ task' state' code' text' w'. standing fits w') [] _ (outside.resumes state.shows state.store task code text).act
        (moved w (keeps.1 state.shows state.store task code text))
    kept_resumed f h (suc size) task state code text w =
        kept_on_act f (resumed outside run f size) h (λ task' state' code' text' w'. kept_resumed f h size task' state' code' text' w') [] _
        (outside.resumes state.shows state.store task code text).act (moved w (keeps.1 state.shows state.store task code text))

    kept_after_step : (iterations : ℕ) (task : K) (state : State S) → There state → Goes (after_step outside run iterations task state)
    kept_after_step zero task state w = standing fits w
    kept_after_step (suc iterations) task state w = kept_resumed (after_step outside run iterations) (kept_after_step iterations) (outside.size task) task state Normal [] w

    pub kept_task : (task : K) (state : State S) (code : Code) (text : List ℕ) → There state → Goes (task_meaning outside run task state code text)
    kept_task task state code text w = kept_resumed (after_step outside run state.steps) (kept_after_step state.steps) (outside.size task) task state code text w

    pub kept_act : (name : List ℕ) (state : State S) (act : Act K) → There state → Goes (act_meaning outside run name state act)
    kept_act name state act w = kept_on_act (after_step outside run state.steps) (task_meaning outside run) (kept_after_step state.steps) kept_task name state act w

  pub kept_outside : KeepsCommand (outside_meaning outside run)
  kept_outside levels frames fits name first arguments state w =
      kept_act levels frames fits name _ (outside.calls state.shows state.store (first ∷ arguments)).act (moved w (keeps.0 state.shows state.store (first ∷ arguments)))

pub kept_script : {S K : Type 0} (outside : Outside S K) → KeepsStores outside → (room : ℕ) → AlwaysKeeps (script_meaning outside room)
kept_script outside keeps room = kept_scripts (outside_meaning outside) (λ inner always. kept_outside outside keeps (script_meaning outside inner) always) room
