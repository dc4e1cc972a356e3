-- The moves that take no step keep the outcome of all that is still to do.
use Rattle.std.proofs.Common.{◌≡◌, ℕ, zero, suc, ◌-◌, ◌==◌, Bool, true, false, cond, List, [], ◌∷◌, ◌++◌, length, nat_le, Option, Some, None, Result, Ok, Err, refl, ap, sym, ◌∙◌, arith}
use Rattle.std.proofs.lemmas.Bool.Decides.{nat_tests}
use Rattle.tcl_words.specs.declared.script.Command.{Command}
use Rattle.tcl_words.specs.declared.script.Word.{Word}
use Rattle.tcl_words.specs.declared.script.Piece.{Piece}
use Rattle.tcl_words.specs.declared.script.Piece.TheVariants.{Literal, Variable}
use Rattle.tcl_text.specs.declared.fault.ParseFault.{ParseFault}
use Rattle.tcl_vars.specs.Store.{Store, variable_in, element_in}
use Rattle.tcl_text.specs.declared.fault.ReadFault.{ReadFault}
use Rattle.tcl_control.specs.declared.code.Code.{Code}
use Rattle.tcl_control.specs.declared.code.Code.TheVariants.{Normal, Error, Return, Break, Continue}
use Rattle.tcl_control.specs.declared.context.Context.{Context}
use Rattle.tcl_control.specs.declared.loops.Loop.{Loop}
use Rattle.tcl_control.specs.Expressions.{tree_or_text, truth_of_text}
use Rattle.tcl_control.specs.ExpressionForms.{evaluation_begun, evaluation_begins}
use Rattle.tcl_commands.specs.declared.branches.Branch.{Branch}
use Rattle.tcl_expr.specs.declared.ask.Ask.{Ask}
use Rattle.tcl_expr.specs.declared.ask.Ask.TheVariants as ask
use Rattle.tcl_expr.specs.declared.fault.EvalFault.{EvalFault}
use Rattle.tcl_expr.specs.declared.fault.ExprFault.{ExprFault}
use Rattle.tcl_expr.specs.Resuming.{Resumption, answered}
use Rattle.tcl_expr.specs.Reading.{tree_of, compiled_by}
use Rattle.tcl_expr.specs.Trees.{Tree}
use Rattle.tcl_table.specs.Source.{script_of}
use Rattle.tcl_control.proofs.ExpressionLemmas.{expression_walk}
use Rattle.tcl_table.specs.Texts.{limit_text, element_name}
use Rattle.tcl_expr.proofs.CompileLemmas.{execute_whole}
use Rattle.tcl_interp.proofs.TreeValues.{tree_runs}
use Rattle.tcl_interp.proofs.Elements.{deep_enough}
use Rattle.tcl_interp.specs.Outside.{Outside}
use Rattle.tcl_interp.specs.Evaluation.{State, Outcome, Ended, OutOfSteps, seen_frame, and_then, on_normal, with_step, on_read, with_joined, words_of, on_words, index_pieces, element_read, on_index, pieces_meaning, element_within, element_meaning}
use Rattle.tcl_interp.specs.Expressions.{with_truth, on_value, if_holds, tree_meaning, expression_meaning, otherwise_meaning, choices_meaning}
use Rattle.tcl_interp.specs.Asked.{run_meaning}
use Rattle.tcl_interp.specs.Plans.{loop_ended, after_body, after_next, next_iteration}
use Rattle.tcl_interp.specs.Acts.{script_meaning, outside_meaning}
use Rattle.tcl_interp.specs.Scripts.{out_of_global, at_global, call_meaning, on_parsed}
use Rattle.tcl_interp.specs.Finish.{Wording, Indexing, Doing, Begins, GoesOn, Indexes, Evaluates, Resumes, Ends, Waiting, ForCommand, ForPart, ForIndex, ForValue, ForTest, ForChoice, ForBody, ForNext, ForStart, ForAll, Running, script_rest, words_rest, word_done, index_rest, value_rest, choice_rest, iteration_rest, loop_rest, waiting_meaning, waits_meaning, finish}
use Rattle.tcl_interp.specs.Quiet.{told_run, EvaluationMoves, MovesBy, LeadsBy, Leads}
use Rattle.tcl_interp.specs.Moves.{Moved, Standing, Part, Script, ElementOf, variable_value, WordEnd, Whole, Failed, AtPart, index_depth, join_end, piece_end, word_end, with_more_words, moved, more_move, index_begins, element_begins, part_begins, word_move, words_move, element_end, index_move, indexes_move, parsed_move, begin_move, go_on_move, after_command, after_part, after_index, begun_as, expression_begins, value_given, answer_move, otherwise_move, choice_move, after_value_move, iteration_move, after_test_move, chosen_move, after_choice_move, next_move, after_body_move, after_next_move, after_start_move, global_end, end_move}

pub and_then_assoc : {S : Type 0} (o : Outcome S) (f g : State S → Code → List ℕ → Outcome S) → and_then (and_then o f) g ≡ and_then o (λ state code text. and_then (f state code text) g)
and_then_assoc (Ended state code text) f g = refl
and_then_assoc (OutOfSteps state) f g = refl

pub and_then_cong : {S : Type 0} (o : Outcome S) (f g : State S → Code → List ℕ → Outcome S) → ((state : State S) (code : Code) (text : List ℕ) → f state code text ≡ g state code text) → and_then o f ≡ and_then o g
and_then_cong (Ended state code text) f g h = h state code text
and_then_cong (OutOfSteps state) f g h = refl

module _ {S : Type 0} (run : List ℕ → State S → Outcome S) (element : List ℕ → List ℕ → State S → Outcome S) where
  -- what a part of a word comes to
  abbrev pub part_meaning : Part → State S → Outcome S
  part_meaning (Script script) state = run script state
  part_meaning (ElementOf name index) state = element name index state

module _ {S : Type 0} (run : List ℕ → State S → Outcome S) (element : List ℕ → List ℕ → State S → Outcome S) (f : State S → List ℕ → Outcome S) where
  -- what follows where a word comes so far
  abbrev pub end_meaning : State S → WordEnd → Outcome S
  end_meaning state (Whole text) = f state text
  end_meaning state (Failed text) = Ended state Error text
  end_meaning state (AtPart part pieces so_far) =
      and_then (part_meaning run element part state) (on_normal (λ state' text. with_joined so_far text state' (λ state'' joined. pieces_meaning run element pieces joined state'' f)))

  joined_cases : (b : Bool) (state : State S) (o : Outcome S) (e : WordEnd) → o ≡ end_meaning state e → cond b o (Ended state Error limit_text) ≡ end_meaning state (cond b e (Failed limit_text))
  joined_cases true state o e h = h
  joined_cases false state o e h = refl

  read_cases : (state : State S) (name : List ℕ) (value : Result (List ℕ) ReadFault) (pieces : List Piece) (so_far : List ℕ) (go : List ℕ → WordEnd) (after : State S → List ℕ → Outcome S) → ((text : List ℕ) → after state text ≡ end_meaning state (join_end so_far text go)) → on_read name state after value ≡ end_meaning state (piece_end (variable_value name value) pieces so_far go)
  read_cases state name (Ok value) pieces so_far go after h = h value
  read_cases state name (Err fault) pieces so_far go after h = refl

  -- the pieces of a word mean what the word's end says
  pub pieces_end : (pieces : List Piece) (so_far : List ℕ) (state : State S) → pieces_meaning run element pieces so_far state f ≡ end_meaning state (word_end (seen_frame state) state.store pieces so_far)
  pieces_end (Literal text ∷ pieces) so_far state = joined_cases (nat_le (length (so_far ++ text)) 65536) state _ _ (pieces_end pieces (so_far ++ text) state)
  pieces_end (Variable name ∷ pieces) so_far state =
      read_cases state name (variable_in state.store (seen_frame state) name) pieces so_far (word_end (seen_frame state) state.store pieces) (λ state' text. with_joined so_far text state' (λ state'' joined. pieces_meaning run element pieces joined state'' f)) (λ text. joined_cases (nat_le (length (so_far ++ text)) 65536) state _ _ (pieces_end pieces (so_far ++ text) state))
  pieces_end pieces so_far state = refl

  pub joined_end : (pieces : List Piece) (so_far text : List ℕ) (state : State S) → with_joined so_far text state (λ state' joined. pieces_meaning run element pieces joined state' f) ≡ end_meaning state (join_end so_far text (word_end (seen_frame state) state.store pieces))
  joined_end pieces so_far text state = joined_cases (nat_le (length (so_far ++ text)) 65536) state _ _ (pieces_end pieces (so_far ++ text) state)

pub begin_some : {K : Type 0} (room : ℕ) (text : List ℕ) (waits : List (Waiting K)) → begin_move (suc room) text waits ≡ parsed_move room waits (script_of text)
begin_some room text waits =
    let less : suc room - 1 ≡ room = omega arith in
    let some : (suc room == 0) ≡ false = grind (arith, nat_tests) in
    rw (some, less) refl

pub element_begins_some : {K : Type 0} (room depth : ℕ) (name index : List ℕ) → element_begins {K = K} room (suc depth) name index ≡ index_begins room depth name (index_pieces index)
element_begins_some room depth name index =
    let less : suc depth - 1 ≡ depth = omega arith in
    let some : (suc depth == 0) ≡ false = grind (arith, nat_tests) in
    rw (some, less) refl

module _ {S K : Type 0} (outside : Outside S K) where
  abbrev pub run_in : ℕ → List ℕ → State S → Outcome S
  run_in room = script_meaning outside room

  abbrev call_in : ℕ → List (List ℕ) → State S → Outcome S
  call_in room = call_meaning (outside_meaning outside) (script_meaning outside room)

  -- an element, where scripts have so much room, and indices go so deep
  abbrev pub elements_in : ℕ → ℕ → List ℕ → List ℕ → State S → Outcome S
  elements_in room depth = element_within (run_in room) depth

  -- the outcome after a move of what is done and what waits
  abbrev pub finish_moved : Moved K → State S → Outcome S
  finish_moved m state = finish outside (Running m.doing m.waits) state

  -- the outcome after a move
  abbrev pub finish_standing : Standing K → State S → Outcome S
  finish_standing m state = finish_moved m.moved (record state { store = m.store; context = m.context })

  abbrev pub next_in : ℕ → List Command → State S → Code → List ℕ → Outcome S
  next_in room after = on_normal (λ state result. script_rest outside room after result state)

  -- ── parts ──

  index_begins_same : (room depth : ℕ) (name : List ℕ) (waits : List (Waiting K)) (state : State S) (pieces : Result (List Piece) ParseFault)
      → and_then (on_index state (λ ps. pieces_meaning (run_in room) (elements_in room depth) ps [] state (element_read name)) pieces) (waits_meaning outside waits)
      ≡ finish_moved (moved (index_begins room depth name pieces) waits) state
  index_begins_same room depth name waits state (Ok pieces) = refl
  index_begins_same room depth name waits state (Err fault) = refl

  part_same : (room depth : ℕ) (part : Part) (waits : List (Waiting K)) (state : State S)
      → and_then (part_meaning (run_in room) (elements_in room depth) part state) (waits_meaning outside waits) ≡ finish_moved (moved (part_begins room depth part) waits) state
  part_same room depth (Script script) waits state = refl
  part_same room zero (ElementOf name index) waits state = refl
  part_same room (suc depth) (ElementOf name index) waits state =
      index_begins_same room depth name waits state (index_pieces index) ∙ ap (λ d. finish_moved (moved d waits) state) (sym (element_begins_some room depth name index))

  word_part_same : (room : ℕ) (part : Part) (waits : List (Waiting K)) (state : State S)
      → and_then (part_meaning (run_in room) (element_meaning (run_in room)) part state) (waits_meaning outside waits) ≡ finish_moved (moved (part_begins room index_depth part) waits) state
  word_part_same room (Script script) waits state = refl
  word_part_same room (ElementOf name index) waits state =
      ap (λ o. and_then o (waits_meaning outside waits)) (sym (deep_enough (run_in room) name index state)) ∙ part_same room index_depth (ElementOf name index) waits state

  element_same : (name : List ℕ) (waits : List (Waiting K)) (state : State S) (value : Result (List ℕ) ReadFault)
      → and_then (on_read name state (λ state' text. Ended state' Normal text) value) (waits_meaning outside waits) ≡ finish_moved (moved (element_end name value) waits) state
  element_same name waits state (Ok value) = refl
  element_same name waits state (Err fault) = refl

  index_same : (x : Indexing) (waits : List (Waiting K)) (state : State S) (end : WordEnd)
      → and_then (end_meaning (run_in x.room) (elements_in x.room x.depth) (element_read x.name) state end) (waits_meaning outside waits)
      ≡ finish_moved (index_move (seen_frame state) state.store x waits end) state
  index_same x waits state (Whole index) = element_same (element_name x.name index) waits state (element_in state.store (seen_frame state) x.name index)
  index_same x waits state (Failed text) = refl
  index_same x waits state (AtPart part pieces so_far) =
      and_then_assoc (part_meaning (run_in x.room) (elements_in x.room x.depth) part state) (on_normal (λ state' text. with_joined so_far text state' (λ state'' joined. pieces_meaning (run_in x.room) (elements_in x.room x.depth) pieces joined state'' (element_read x.name)))) (waits_meaning outside waits)
      ∙ part_same x.room x.depth part (ForIndex (record x { so_far = so_far; pieces = pieces }) ∷ waits) state

  indexes_same : (x : Indexing) (waits : List (Waiting K)) (state : State S) → and_then (index_rest outside x x.so_far state) (waits_meaning outside waits) ≡ finish_moved (indexes_move (seen_frame state) state.store x waits) state
  indexes_same x waits state =
      ap (λ o. and_then o (waits_meaning outside waits)) (pieces_end (run_in x.room) (elements_in x.room x.depth) (element_read x.name) x.pieces x.so_far state)
      ∙ index_same x waits state (word_end (seen_frame state) state.store x.pieces x.so_far)

  longer_same : (x : Indexing) (so_far : List ℕ) (b : Bool) (waits : List (Waiting K)) (state : State S)
      → and_then (cond b (index_rest outside x so_far state) (Ended state Error limit_text)) (waits_meaning outside waits) ≡ finish_moved (moved (cond b (Indexes (record x { so_far = so_far })) (Ends Error limit_text)) waits) state
  longer_same x so_far true waits state = refl
  longer_same x so_far false waits state = refl

  index_end_same : (x : Indexing) (waits : List (Waiting K)) (state : State S) (code : Code) (text : List ℕ) → and_then (waiting_meaning outside (ForIndex x) state code text) (waits_meaning outside waits) ≡ finish_moved (after_index x waits code text) state
  index_end_same x waits state Normal text = longer_same x (x.so_far ++ text) (nat_le (length (x.so_far ++ text)) 65536) waits state
  index_end_same x waits state (Return code) text = refl
  index_end_same x waits state code text = refl

  -- ── words ──

  after_part_same : (room : ℕ) (after : List Command) (waits : List (Waiting K)) (g : State S → List ℕ → Outcome S) (state : State S) (code : Code) (text : List ℕ) →
      and_then (and_then (on_normal g state code text) (next_in room after)) (waits_meaning outside waits)
      ≡ and_then (on_normal (λ state' piece. and_then (g state' piece) (next_in room after)) state code text) (waits_meaning outside waits)
  after_part_same room after waits g state (Return code) text = refl
  after_part_same room after waits g state code text = refl

  more_same : (room : ℕ) (after : List Command) (words : List Word) (whole : List (List ℕ)) (waits : List (Waiting K)) (state : State S) (go : List (List ℕ) → Moved K)
      → ((more : List (List ℕ)) → and_then (and_then (words_rest outside room words more state) (next_in room after)) (waits_meaning outside waits) ≡ finish_moved (go more) state)
      → (more : Result (List (List ℕ)) (List ℕ))
      → and_then (and_then (on_words state (λ state' more. words_rest outside room words (whole ++ more) state') more) (next_in room after)) (waits_meaning outside waits)
      ≡ finish_moved (more_move waits go (with_more_words whole more)) state
  more_same room after words whole waits state go h (Ok more) = h (whole ++ more)
  more_same room after words whole waits state go h (Err text) = refl

  word_same : (room : ℕ) (after : List Command) (expand : Bool) (words : List Word) (whole : List (List ℕ)) (waits : List (Waiting K)) (state : State S) (go : List (List ℕ) → Moved K)
      → ((more : List (List ℕ)) → and_then (and_then (words_rest outside room words more state) (next_in room after)) (waits_meaning outside waits) ≡ finish_moved (go more) state)
      → (end : WordEnd)
      → and_then (and_then (end_meaning (run_in room) (element_meaning (run_in room)) (word_done outside room expand words whole) state end) (next_in room after)) (waits_meaning outside waits)
      ≡ finish_moved (word_move room after expand words whole waits go end) state
  word_same room after expand words whole waits state go h (Whole text) = more_same room after words whole waits state go h (words_of expand text)
  word_same room after expand words whole waits state go h (Failed text) = refl
  word_same room after expand words whole waits state go h (AtPart part pieces so_far) =
      let f : State S → List ℕ → Outcome S = word_done outside room expand words whole in
      let g : State S → List ℕ → Outcome S = λ state' text. with_joined so_far text state' (λ state'' joined. pieces_meaning (run_in room) (element_meaning (run_in room)) pieces joined state'' f) in
      let part_outcome : Outcome S = part_meaning (run_in room) (element_meaning (run_in room)) part state in
      and_then_assoc (and_then part_outcome (on_normal g)) (next_in room after) (waits_meaning outside waits)
      ∙ and_then_assoc part_outcome (on_normal g) (λ state' code text. and_then (next_in room after state' code text) (waits_meaning outside waits))
      ∙ and_then_cong part_outcome _ _ (λ state' code text.
      sym (and_then_assoc (on_normal g state' code text) (next_in room after) (waits_meaning outside waits)) ∙ after_part_same room after waits g state' code text)
      ∙ word_part_same room part (ForPart (record { room = room; after = after; whole = whole; so_far = so_far; expand = expand; pieces = pieces; words = words }) ∷ waits) state

  pub words_same : (room : ℕ) (after : List Command) (words : List Word) (whole : List (List ℕ)) (waits : List (Waiting K)) (state : State S)
      → and_then (and_then (words_rest outside room words whole state) (next_in room after)) (waits_meaning outside waits) ≡ finish_moved (words_move (seen_frame state) state.store room after words whole waits) state
  words_same room after [] [] waits state = refl
  words_same room after [] (name ∷ arguments) waits state = and_then_assoc (with_step state (call_in room (name ∷ arguments))) (next_in room after) (waits_meaning outside waits)
  words_same room after (word ∷ words) whole waits state =
      ap (λ o. and_then (and_then o (next_in room after)) (waits_meaning outside waits)) (pieces_end (run_in room) (element_meaning (run_in room)) (word_done outside room word.expand words whole) word.pieces [] state)
      ∙ word_same room after word.expand words whole waits state (λ more. words_move (seen_frame state) state.store room after words more waits) (λ more. words_same room after words more waits state) (word_end (seen_frame state) state.store word.pieces [])

  -- ── expressions ──

  begun_same : (room : ℕ) (text : List ℕ) (waits : List (Waiting K)) (state : State S) (tree : Result Tree ExprFault)
      → and_then (tree_meaning (run_in room) state (tree_or_text text tree)) (waits_meaning outside waits) ≡ finish_moved (moved (begun_as room (evaluation_begun text (compiled_by tree))) waits) state
  begun_same room text waits state (Ok tree) =
      ap (λ o. and_then o (waits_meaning outside waits)) (sym (tree_runs (run_in room) tree state))
      ∙ ap (λ r. and_then (run_meaning (run_in room) r state) (waits_meaning outside waits)) (sym (execute_whole tree))
  begun_same room text waits state (Err fault) = refl

  pub expression_same : (room : ℕ) (text : List ℕ) (waits : List (Waiting K)) (state : State S) → and_then (expression_meaning (run_in room) text state) (waits_meaning outside waits) ≡ finish_moved (moved (expression_begins room text) waits) state
  unfolding evaluation_begins tree_of
  expression_same room text waits state =
      ap (λ tree. and_then (tree_meaning (run_in room) state tree) (waits_meaning outside waits)) (expression_walk text) ∙ begun_same room text waits state (tree_of text)

  given_same : (room : ℕ) (next : Resumption) (name : List ℕ) (waits : List (Waiting K)) (state : State S) (value : Result (List ℕ) ReadFault)
      → and_then (on_read name state (λ state' text. run_meaning (run_in room) (answered next text) state') value) (waits_meaning outside waits) ≡ finish_moved (moved (value_given room next name value) waits) state
  given_same room next name waits state (Ok value) = refl
  given_same room next name waits state (Err fault) = refl

  answer_same : (room : ℕ) (next : Resumption) (waits : List (Waiting K)) (state : State S) (answer : Result Ask EvalFault)
      → and_then (run_meaning (run_in room) (told_run answer next) state) (waits_meaning outside waits) ≡ finish_moved (answer_move (seen_frame state) state.store room next waits answer) state
  answer_same room next waits state (Ok (ask.Variable name)) = given_same room next name waits state (variable_in state.store (seen_frame state) name)
  answer_same room next waits state (Ok (ask.Element array index)) = given_same room next (element_name array index) waits state (element_in state.store (seen_frame state) array index)
  answer_same room next waits state (Ok (ask.Command script)) = and_then_assoc (run_in room script state) (on_normal (λ state' value. run_meaning (run_in room) (answered next value) state')) (waits_meaning outside waits)
  answer_same room next waits state (Ok (ask.Value text)) = refl
  answer_same room next waits state (Err fault) = refl

  evaluation_same : (room : ℕ) (evaluation : Resumption) (given : Option (List ℕ)) (waits : List (Waiting K)) (state : State S) (after : Moved K) → EvaluationMoves (seen_frame state) state.store room evaluation given waits after
      → and_then (value_rest outside room evaluation given state) (waits_meaning outside waits) ≡ finish_moved after state
  evaluation_same room evaluation given waits state after (answer, next, told_so, by, e) =
      ap (λ r. and_then (run_meaning (run_in room) r state) (waits_meaning outside waits)) told_so ∙ answer_same room next waits state answer ∙ ap (λ m. finish_moved m state) (sym e)

  otherwise_same : (room : ℕ) (otherwise : Option (List ℕ)) (waits : List (Waiting K)) (state : State S) → and_then (otherwise_meaning (run_in room) otherwise state) (waits_meaning outside waits) ≡ finish_moved (otherwise_move room otherwise waits) state
  otherwise_same room (Some body) waits state = refl
  otherwise_same room None waits state = refl

  pub choice_same : (room : ℕ) (branches : List Branch) (otherwise : Option (List ℕ)) (waits : List (Waiting K)) (state : State S) → and_then (choices_meaning (run_in room) branches otherwise state) (waits_meaning outside waits) ≡ finish_moved (choice_move room branches otherwise waits) state
  choice_same room [] otherwise waits state = otherwise_same room otherwise waits state
  choice_same room (branch ∷ branches) otherwise waits state =
      and_then_assoc (expression_meaning (run_in room) branch.test state) (on_value (choice_rest outside room (branch ∷ branches) otherwise)) (waits_meaning outside waits)
      ∙ expression_same room branch.test (ForChoice room (branch ∷ branches) otherwise ∷ waits) state

  -- ── scripts ──

  parsed_same : (room : ℕ) (waits : List (Waiting K)) (state : State S) (script : Result (List Command) ParseFault)
      → and_then (on_parsed (λ commands. script_rest outside room commands [] state) state script) (waits_meaning outside waits) ≡ finish_moved (parsed_move room waits script) state
  parsed_same room waits state (Ok commands) = refl
  parsed_same room waits state (Err fault) = refl

  pub begin_same : (room : ℕ) (text : List ℕ) (waits : List (Waiting K)) (state : State S) → and_then (run_in room text state) (waits_meaning outside waits) ≡ finish_moved (begin_move room text waits) state
  begin_same zero text waits state = refl
  begin_same (suc room) text waits state = parsed_same room waits state (script_of text) ∙ ap (λ m. finish_moved m state) (sym (begin_some room text waits))

  pub go_on_same : (room : ℕ) (commands : List Command) (result : List ℕ) (waits : List (Waiting K)) (state : State S) → and_then (script_rest outside room commands result state) (waits_meaning outside waits) ≡ finish_moved (go_on_move (seen_frame state) state.store room commands result waits) state
  go_on_same room [] result waits state = refl
  go_on_same room (command ∷ after) result waits state = words_same room after command.words [] waits state

  -- ── something ends that was waited for ──

  command_end_same : (room : ℕ) (after : List Command) (waits : List (Waiting K)) (state : State S) (code : Code) (text : List ℕ) → and_then (waiting_meaning outside (ForCommand room after) state code text) (waits_meaning outside waits) ≡ finish_moved (after_command room after waits code text) state
  command_end_same room after waits state (Return code) text = refl
  command_end_same room after waits state code text = refl

  part_end_same : (w : Wording) (waits : List (Waiting K)) (state : State S) (code : Code) (text : List ℕ) → and_then (waiting_meaning outside (ForPart w) state code text) (waits_meaning outside waits) ≡ finish_moved (after_part (seen_frame state) state.store w waits code text) state
  part_end_same w waits state Normal text =
      ap (λ o. and_then (and_then o (next_in w.room w.after)) (waits_meaning outside waits)) (joined_end (run_in w.room) (element_meaning (run_in w.room)) (word_done outside w.room w.expand w.words w.whole) w.pieces w.so_far text state)
      ∙ word_same w.room w.after w.expand w.words w.whole waits state (λ more. words_move (seen_frame state) state.store w.room w.after w.words more waits) (λ more. words_same w.room w.after w.words more waits state) (join_end w.so_far text (word_end (seen_frame state) state.store w.pieces))
  part_end_same w waits state (Return code) text = refl
  part_end_same w waits state code text = refl

  value_end_same : (room : ℕ) (evaluation : Resumption) (waits : List (Waiting K)) (state : State S) (code : Code) (text : List ℕ) → and_then (waiting_meaning outside (ForValue room evaluation) state code text) (waits_meaning outside waits) ≡ finish_moved (after_value_move room evaluation waits code text) state
  value_end_same room evaluation waits state (Return code) text = refl
  value_end_same room evaluation waits state code text = refl

  iteration_same_by : (room : ℕ) (looping : Loop) (waits : List (Waiting K)) (state : State S) (truth : Result Bool (List ℕ)) → and_then (with_truth state (if_holds (iteration_rest outside room looping) loop_ended) truth) (waits_meaning outside waits) ≡ finish_moved (iteration_move room looping waits truth) state
  iteration_same_by room looping waits state (Ok true) = and_then_assoc (run_in room looping.body state) (after_body (next_iteration (run_in room) looping.next (loop_rest outside room looping))) (waits_meaning outside waits)
  iteration_same_by room looping waits state (Ok false) = refl
  iteration_same_by room looping waits state (Err text) = refl

  test_end_same : (room : ℕ) (looping : Loop) (waits : List (Waiting K)) (state : State S) (code : Code) (text : List ℕ) → and_then (waiting_meaning outside (ForTest room looping) state code text) (waits_meaning outside waits) ≡ finish_moved (after_test_move room looping waits code text) state
  test_end_same room looping waits state Normal text = iteration_same_by room looping waits state (truth_of_text text)
  test_end_same room looping waits state (Return code) text = refl
  test_end_same room looping waits state code text = refl

  chosen_same : (room : ℕ) (branches : List Branch) (otherwise : Option (List ℕ)) (waits : List (Waiting K)) (state : State S) (truth : Result Bool (List ℕ)) → and_then (with_truth state (choice_rest outside room branches otherwise) truth) (waits_meaning outside waits) ≡ finish_moved (chosen_move room branches otherwise waits truth) state
  chosen_same room [] otherwise waits state (Ok holds) = otherwise_same room otherwise waits state
  chosen_same room [] otherwise waits state (Err text) = refl
  chosen_same room (branch ∷ branches) otherwise waits state (Ok true) = refl
  chosen_same room (branch ∷ branches) otherwise waits state (Ok false) = choice_same room branches otherwise waits state
  chosen_same room (branch ∷ branches) otherwise waits state (Err text) = refl

  choice_end_same : (room : ℕ) (branches : List Branch) (otherwise : Option (List ℕ)) (waits : List (Waiting K)) (state : State S) (code : Code) (text : List ℕ) → and_then (waiting_meaning outside (ForChoice room branches otherwise) state code text) (waits_meaning outside waits) ≡ finish_moved (after_choice_move room branches otherwise waits code text) state
  choice_end_same room branches otherwise waits state Normal text = chosen_same room branches otherwise waits state (truth_of_text text)
  choice_end_same room branches otherwise waits state (Return code) text = refl
  choice_end_same room branches otherwise waits state code text = refl

  next_test_same : (room : ℕ) (looping : Loop) (waits : List (Waiting K)) (state : State S) (next : Option (List ℕ))
      → and_then (next_iteration (run_in room) next (loop_rest outside room looping) state) (waits_meaning outside waits) ≡ finish_moved (next_move room looping waits next) state
  next_test_same room looping waits state None = refl
  next_test_same room looping waits state (Some script) = and_then_assoc (run_in room script state) (after_next (loop_rest outside room looping)) (waits_meaning outside waits)

  body_end_same : (room : ℕ) (looping : Loop) (waits : List (Waiting K)) (state : State S) (code : Code) (text : List ℕ) → and_then (waiting_meaning outside (ForBody room looping) state code text) (waits_meaning outside waits) ≡ finish_moved (after_body_move room looping waits code text) state
  body_end_same room looping waits state Normal text = next_test_same room looping waits state looping.next
  body_end_same room looping waits state Error text = refl
  body_end_same room looping waits state (Return code) text = refl
  body_end_same room looping waits state Break text = refl
  body_end_same room looping waits state Continue text = next_test_same room looping waits state looping.next

  next_end_same : (room : ℕ) (looping : Loop) (waits : List (Waiting K)) (state : State S) (code : Code) (text : List ℕ) → and_then (waiting_meaning outside (ForNext room looping) state code text) (waits_meaning outside waits) ≡ finish_moved (after_next_move room looping waits code text) state
  next_end_same room looping waits state (Return code) text = refl
  next_end_same room looping waits state code text = refl

  start_end_same : (room : ℕ) (looping : Loop) (waits : List (Waiting K)) (state : State S) (code : Code) (text : List ℕ) → and_then (waiting_meaning outside (ForStart room looping) state code text) (waits_meaning outside waits) ≡ finish_moved (after_start_move room looping waits code text) state
  start_end_same room looping waits state (Return code) text = refl
  start_end_same room looping waits state code text = refl

  global_end_same : (waits : List (Waiting K)) (state : State S) (code : Code) (text : List ℕ) → and_then (at_global state code text) (waits_meaning outside waits) ≡ finish_moved (moved (global_end code text) waits) state
  global_end_same waits state (Return code) text = refl
  global_end_same waits state code text = refl

  pub end_same : (code : Code) (text : List ℕ) (waiting : Waiting K) (waits : List (Waiting K)) (state : State S) → finish outside (Running (Ends code text) (waiting ∷ waits)) state ≡ finish_standing (end_move state.store state.context code text waiting waits) state
  end_same code text (ForCommand room after) waits state = command_end_same room after waits state code text
  end_same code text (ForPart w) waits state = part_end_same w waits state code text
  end_same code text (ForIndex x) waits state = index_end_same x waits state code text
  end_same code text (ForValue room evaluation) waits state = value_end_same room evaluation waits state code text
  end_same code text (ForTest room looping) waits state = test_end_same room looping waits state code text
  end_same code text (ForChoice room branches otherwise) waits state = choice_end_same room branches otherwise waits state code text
  end_same code text (ForBody room looping) waits state = body_end_same room looping waits state code text
  end_same code text (ForNext room looping) waits state = next_end_same room looping waits state code text
  end_same code text (ForStart room looping) waits state = start_end_same room looping waits state code text
  end_same code text ForAll waits state = global_end_same waits state (out_of_global code) text
  end_same code text waiting waits state = refl

  -- ── moves in a row ──

  -- the outcome after a move, where variables and context are those that it leaves
  stays : (m : Standing K) (store : Store) (context : Context) (state : State S) → m.store ≡ store → m.context ≡ context → finish_moved m.moved (record state { store = store; context = context }) ≡ finish_standing m state
  stays m store context state s c = rw (s, c) refl

  moves_same_by : (store : Store) (context : Context) (doing : Doing K) (waits : List (Waiting K)) (n : Standing K) (state : State S) → MovesBy store context doing waits n → finish_moved (moved doing waits) (record state { store = store; context = context }) ≡ finish_standing n state
  moves_same_by store context (Begins room text) waits n state e = begin_same room text waits (record state { store = store; context = context }) ∙ ap (λ x. finish_standing x state) (sym e)
  moves_same_by store context (GoesOn room commands result) waits n state e = go_on_same room commands result waits (record state { store = store; context = context }) ∙ ap (λ x. finish_standing x state) (sym e)
  moves_same_by store context (Indexes x) waits n state e = indexes_same x waits (record state { store = store; context = context }) ∙ ap (λ x. finish_standing x state) (sym e)
  moves_same_by store context (Evaluates room evaluation given) waits n state e =
      evaluation_same room evaluation given waits (record state { store = store; context = context }) n.moved e.0 ∙ stays n store context state e.1 e.2
  moves_same_by store context (Resumes room task code text) waits n state e = ap (λ x. finish_standing x state) (sym e)
  moves_same_by store context (Ends code text) [] n state e = ap (λ x. finish_standing x state) (sym e)
  moves_same_by store context (Ends code text) (waiting ∷ waits) n state e = end_same code text waiting waits (record state { store = store; context = context }) ∙ ap (λ x. finish_standing x state) (sym e)
  moves_same_by store context doing waits n state e = ap (λ x. finish_standing x state) (sym e)

  leads_same_by : (moves : ℕ) (m n : Standing K) (state : State S) → LeadsBy moves m n → finish_standing m state ≡ finish_standing n state
  leads_same_by zero m n state e = ap (λ x. finish_standing x state) (sym e)
  leads_same_by (suc moves) m n state (between, first, last) =
      leads_same_by moves m between state first ∙ moves_same_by between.store between.context between.moved.doing between.moved.waits n state last

  -- moves without a step keep the outcome
  pub leads_same : (m n : Standing K) (state : State S) → Leads m n → finish_standing m state ≡ finish_standing n state
  leads_same m n state (moves, leads) = leads_same_by moves m n state leads
