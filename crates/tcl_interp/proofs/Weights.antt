-- What a move that takes no step comes nearer to: each makes what is to do before the next step, or the next task, lighter.
use Rattle.std.proofs.Common.{◌≡◌, ℕ, zero, suc, ◌+◌, ◌≤◌, ◌<◌, Bool, true, false, cond, Option, Some, None, List, [], ◌∷◌, ◌++◌, length, nat_le, Result, Ok, Err, IfOk, refl, ap, ◌∙◌, arith}
use Rattle.tcl_words.specs.declared.script.Command.{Command}
use Rattle.tcl_words.specs.declared.script.Word.{Word}
use Rattle.tcl_words.specs.declared.script.Piece.{Piece}
use Rattle.tcl_words.specs.declared.script.Piece.TheVariants.{Literal, Variable, Element, Bracket}
use Rattle.tcl_text.specs.declared.fault.ParseFault.{ParseFault}
use Rattle.tcl_vars.specs.Store.{Store, variable_in, element_in}
use Rattle.tcl_text.specs.declared.fault.ReadFault.{ReadFault}
use Rattle.tcl_control.specs.declared.code.Code.{Code}
use Rattle.tcl_control.specs.declared.code.Code.TheVariants.{Normal, Error, Return, Break, Continue}
use Rattle.tcl_control.specs.declared.context.Context.{Context}
use Rattle.tcl_control.specs.declared.loops.Loop.{Loop}
use Rattle.tcl_control.specs.Expressions.{truth_of_text}
use Rattle.tcl_control.specs.ExpressionForms.{evaluation_begins}
use Rattle.tcl_commands.specs.declared.branches.Branch.{Branch}
use Rattle.tcl_expr.specs.declared.ask.Ask.{Ask}
use Rattle.tcl_expr.specs.declared.ask.Ask.TheVariants as ask
use Rattle.tcl_expr.specs.declared.fault.EvalFault.{EvalFault}
use Rattle.tcl_expr.specs.declared.step.Step.{Step}
use Rattle.tcl_expr.specs.declared.step.Step.TheVariants as step
use Rattle.tcl_expr.specs.Resuming.{Resumption}
use Rattle.tcl_expr.specs.Machine.{AsksBy, weight as steps_weight}
use Rattle.tcl_expr.proofs.StepLemmas.{weighs_less}
use Rattle.tcl_table.specs.Levels.{here}
use Rattle.tcl_table.specs.Source.{script_of}
use Rattle.tcl_table.specs.Texts.{limit_text, element_name}
use Rattle.tcl_interp.specs.Evaluation.{index_pieces, words_of}
use Rattle.tcl_interp.specs.Scripts.{out_of_global}
use Rattle.tcl_interp.specs.Finish.{Wording, Indexing, Doing, Begins, GoesOn, Indexes, Evaluates, Calls, Tests, Steps, Resumes, Ends, Waiting, ForCommand, ForPart, ForIndex, ForValue, ForTest, ForChoice, ForBody, ForNext, ForStart, ForCatch, ForLevels, ForProcedure, ForScript, ForAll}
use Rattle.tcl_interp.specs.Moves.{Moved, Standing, Part, Script, ElementOf, variable_value, WordEnd, Whole, Failed, AtPart, index_depth, join_end, piece_end, word_end, with_more_words, moved, more_move, index_begins, part_begins, word_move, words_move, element_end, index_move, indexes_move, parsed_move, begin_move, go_on_move, after_command, part_move, after_part, after_index, begun_as, value_given, asked_move, answer_move, otherwise_move, choice_move, after_value_move, iteration_move, after_test_move, chosen_move, after_choice_move, next_move, after_body_move, after_next_move, after_start_move, global_end, end_move}
use Rattle.tcl_interp.specs.Quiet.{EvaluationMoves, MovesBy, Moves, LeadsBy, Leads, IsQuietBy, IsQuiet}
use Rattle.tcl_interp.proofs.Same.{begin_some, element_begins_some}

-- ── before the next step or task ──

-- what a script in brackets, and an element of an index, weighs is given
module _ (script_weight : List ℕ → ℕ) (element_weight : List ℕ → ℕ) where
  abbrev pub piece_weight : Piece → ℕ
  piece_weight (Literal text) = 1
  piece_weight (Variable name) = 1
  piece_weight (Element name index) = suc (element_weight index)
  piece_weight (Bracket script) = suc (script_weight script)

  abbrev pub pieces_weight : List Piece → ℕ
  pieces_weight [] = 0
  pieces_weight (piece ∷ pieces) = piece_weight piece + pieces_weight pieces

  abbrev pub part_weight : Part → ℕ
  part_weight (Script script) = script_weight script
  part_weight (ElementOf name index) = element_weight index

  -- the end of a word or an index leaves less than this
  abbrev pub EndWeighs : ℕ → WordEnd → Type 0
  EndWeighs bound (Whole text) = Unit {0}
  EndWeighs bound (Failed text) = Unit {0}
  EndWeighs bound (AtPart part pieces so_far) = suc (part_weight part + pieces_weight pieces) ≤ bound

  end_weighs_more : (m n : ℕ) (end : WordEnd) → m ≤ n → EndWeighs m end → EndWeighs n end
  end_weighs_more m n (Whole text) le w = tt
  end_weighs_more m n (Failed text) le w = tt
  end_weighs_more m n (AtPart part pieces so_far) le w = omega arith

  join_weighs : (bound : ℕ) (b : Bool) (end : WordEnd) → EndWeighs bound end → EndWeighs bound (cond b end (Failed limit_text))
  join_weighs bound true end w = w
  join_weighs bound false end w = tt

  read_weighs : (bound : ℕ) (name : List ℕ) (value : Result (List ℕ) ReadFault) (pieces : List Piece) (so_far : List ℕ) (go : List ℕ → WordEnd) → ((text : List ℕ) → EndWeighs bound (go text)) → EndWeighs bound (piece_end (variable_value name value) pieces so_far go)
  read_weighs bound name (Ok value) pieces so_far go h = join_weighs bound (nat_le (length (so_far ++ value)) 65536) (go (so_far ++ value)) (h (so_far ++ value))
  read_weighs bound name (Err fault) pieces so_far go h = tt

  end_weighs : (level : ℕ) (store : Store) (pieces : List Piece) (so_far : List ℕ) → EndWeighs (pieces_weight pieces) (word_end level store pieces so_far)
  end_weighs level store [] so_far = tt
  end_weighs level store (Literal text ∷ pieces) so_far =
      join_weighs (1 + pieces_weight pieces) (nat_le (length (so_far ++ text)) 65536) _ (end_weighs_more (pieces_weight pieces) (1 + pieces_weight pieces) (word_end level store pieces (so_far ++ text)) (omega arith) (end_weighs level store pieces (so_far ++ text)))
  end_weighs level store (Variable name ∷ pieces) so_far =
      read_weighs (1 + pieces_weight pieces) name (variable_in store level name) pieces so_far (word_end level store pieces)
      (λ text. end_weighs_more (pieces_weight pieces) (1 + pieces_weight pieces) (word_end level store pieces text) (omega arith) (end_weighs level store pieces text))
  end_weighs level store (Element name index ∷ pieces) so_far = omega arith
  end_weighs level store (Bracket script ∷ pieces) so_far = omega arith

-- an element, where it is given what a script weighs
module _ (script_weight : List ℕ → ℕ) where
  abbrev pub index_weight : (List ℕ → ℕ) → Result (List Piece) ParseFault → ℕ
  index_weight element_weight (Ok pieces) = 3 + pieces_weight script_weight element_weight pieces
  index_weight element_weight (Err fault) = 2

  abbrev pub element_weight : ℕ → List ℕ → ℕ
  element_weight zero index = 2
  element_weight (suc depth) index = index_weight (element_weight depth) (index_pieces index)

  abbrev pub word_weight : List Piece → ℕ
  word_weight pieces = pieces_weight script_weight (element_weight index_depth) pieces

  abbrev pub words_weight : List Word → ℕ
  words_weight [] = 0
  words_weight (word ∷ words) = suc (word_weight word.pieces + words_weight words)

  abbrev pub commands_weight : List Command → ℕ
  commands_weight [] = 0
  commands_weight (command ∷ commands) = suc (words_weight command.words + commands_weight commands)

  abbrev pub parsed_weight : Result (List Command) ParseFault → ℕ
  parsed_weight (Ok commands) = 3 + commands_weight commands
  parsed_weight (Err fault) = 2

-- a script, with room for so many in it
abbrev pub script_weight : ℕ → List ℕ → ℕ
script_weight zero text = 2
script_weight (suc room) text = parsed_weight (script_weight room) (script_of text)

-- a step of an evaluation
abbrev pub step_weight : ℕ → Step → ℕ
step_weight room (step.Command script) = suc (script_weight room script)
step_weight room _ = 1

-- what is left of an evaluation
abbrev pub evaluation_weight : ℕ → Resumption → ℕ
evaluation_weight room evaluation = 2 + steps_weight (step_weight room) evaluation.steps

-- an expression that begins
abbrev pub begun_weight : ℕ → Result Resumption (List ℕ) → ℕ
begun_weight room (Ok evaluation) = evaluation_weight room evaluation
begun_weight room (Err text) = 1

abbrev pub expression_weight : ℕ → List ℕ → ℕ
expression_weight room text = begun_weight room (evaluation_begins text)

-- what `if` has still to choose from
abbrev pub otherwise_weight : ℕ → Option (List ℕ) → ℕ
otherwise_weight room (Some body) = script_weight room body
otherwise_weight room None = 1

abbrev pub choices_weight : ℕ → List Branch → Option (List ℕ) → ℕ
choices_weight room [] otherwise = otherwise_weight room otherwise
choices_weight room (branch ∷ branches) otherwise = expression_weight room branch.test + suc (script_weight room branch.body + choices_weight room branches otherwise)

-- where the first condition has been begun
abbrev pub choice_weight : ℕ → List Branch → Option (List ℕ) → ℕ
choice_weight room [] otherwise = suc (otherwise_weight room otherwise)
choice_weight room (branch ∷ branches) otherwise = suc (script_weight room branch.body + choices_weight room branches otherwise)

-- what `for` runs behind a body
abbrev pub next_weight : (List ℕ → ℕ) → Option (List ℕ) → ℕ
next_weight weigh None = 0
next_weight weigh (Some script) = weigh script

module _ {K : Type 0} where
  abbrev pub doing_weight : Doing K → ℕ
  doing_weight (Begins room text) = script_weight room text
  doing_weight (GoesOn room commands result) = 2 + commands_weight (script_weight room) commands
  doing_weight (Indexes x) = 2 + pieces_weight (script_weight x.room) (element_weight (script_weight x.room) x.depth) x.pieces
  doing_weight (Evaluates room evaluation given) = evaluation_weight room evaluation
  doing_weight (Calls room words) = 0
  doing_weight (Tests room looping) = 0
  doing_weight (Steps room task) = 0
  doing_weight (Resumes room task code text) = 0
  doing_weight (Ends code text) = 1

  abbrev pub waiting_weight : Waiting K → ℕ
  waiting_weight (ForCommand room after) = 2 + commands_weight (script_weight room) after
  waiting_weight (ForIndex x) = 2 + pieces_weight (script_weight x.room) (element_weight (script_weight x.room) x.depth) x.pieces
  waiting_weight (ForPart w) = 3 + (word_weight (script_weight w.room) w.pieces + (words_weight (script_weight w.room) w.words + commands_weight (script_weight w.room) w.after))
  waiting_weight (ForValue room evaluation) = evaluation_weight room evaluation
  waiting_weight (ForTest room looping) = 2 + (script_weight room looping.body + next_weight (script_weight room) looping.next)
  waiting_weight (ForChoice room branches otherwise) = choice_weight room branches otherwise
  waiting_weight (ForBody room looping) = 2 + next_weight (script_weight room) looping.next
  waiting_weight (ForNext room looping) = 1
  waiting_weight (ForStart room looping) = 1
  waiting_weight (ForCatch name) = 1
  waiting_weight (ForLevels levels) = 1
  waiting_weight ForProcedure = 1
  waiting_weight (ForScript room task) = 1
  waiting_weight ForAll = 1

  abbrev pub waits_weight : List (Waiting K) → ℕ
  waits_weight [] = 0
  waits_weight (waiting ∷ waits) = waiting_weight waiting + waits_weight waits

  abbrev pub weight : Moved K → ℕ
  weight m = doing_weight m.doing + waits_weight m.waits

  more_light : (waits : List (Waiting K)) (whole : List (List ℕ)) (go : List (List ℕ) → Moved K) (bound : ℕ) (more : Result (List (List ℕ)) (List ℕ))
      → ((all : List (List ℕ)) → weight (go all) ≤ 2 + (bound + waits_weight waits)) → weight (more_move waits go (with_more_words whole more)) ≤ 2 + (bound + waits_weight waits)
  more_light waits whole go bound (Ok more) h = h (whole ++ more)
  more_light waits whole go bound (Err text) h = omega arith

  index_begins_light : (room depth : ℕ) (name : List ℕ) (pieces : Result (List Piece) ParseFault) (waits : List (Waiting K))
      → weight (moved (index_begins room depth name pieces) waits) ≤ index_weight (script_weight room) (element_weight (script_weight room) depth) pieces + waits_weight waits
  index_begins_light room depth name (Ok pieces) waits = omega arith
  index_begins_light room depth name (Err fault) waits = omega arith

  part_light : (room depth : ℕ) (part : Part) (waits : List (Waiting K)) → weight (moved (part_begins room depth part) waits) ≤ part_weight (script_weight room) (element_weight (script_weight room) depth) part + waits_weight waits
  part_light room depth (Script script) waits = omega arith
  part_light room zero (ElementOf name index) waits = omega arith
  part_light room (suc depth) (ElementOf name index) waits = rw (element_begins_some {K = K} room depth name index) (index_begins_light room depth name (index_pieces index) waits)

  word_light : (room : ℕ) (after : List Command) (expand : Bool) (words : List Word) (whole : List (List ℕ)) (waits : List (Waiting K)) (go : List (List ℕ) → Moved K) (bound : ℕ) (end : WordEnd)
      → ((more : List (List ℕ)) → weight (go more) ≤ 2 + (words_weight (script_weight room) words + (commands_weight (script_weight room) after + waits_weight waits)))
      → EndWeighs (script_weight room) (element_weight (script_weight room) index_depth) bound end
      → weight (word_move room after expand words whole waits go end) ≤ 2 + (bound + (words_weight (script_weight room) words + (commands_weight (script_weight room) after + waits_weight waits)))
  word_light room after expand words whole waits go bound (Whole text) h w =
      let light : weight (more_move waits go (with_more_words whole (words_of expand text))) ≤ 2 + ((words_weight (script_weight room) words + commands_weight (script_weight room) after) + waits_weight waits) =
      more_light waits whole go (words_weight (script_weight room) words + commands_weight (script_weight room) after) (words_of expand text) (λ all. omega (arith, h all)) in
      omega arith
  word_light room after expand words whole waits go bound (Failed text) h w = omega arith
  word_light room after expand words whole waits go bound (AtPart part pieces so_far) h w =
      omega (arith, part_light room index_depth part (ForPart (record { room = room; after = after; whole = whole; so_far = so_far; expand = expand; pieces = pieces; words = words }) ∷ waits))

  words_light : (level : ℕ) (store : Store) (room : ℕ) (after : List Command) (words : List Word) (whole : List (List ℕ)) (waits : List (Waiting K))
      → weight (words_move level store room after words whole waits) ≤ 2 + (words_weight (script_weight room) words + (commands_weight (script_weight room) after + waits_weight waits))
  words_light level store room after [] [] waits = omega arith
  words_light level store room after [] (name ∷ arguments) waits = omega arith
  words_light level store room after (word ∷ words) whole waits =
      let light : weight (words_move level store room after (word ∷ words) whole waits) ≤ 2 + (word_weight (script_weight room) word.pieces + (words_weight (script_weight room) words + (commands_weight (script_weight room) after + waits_weight waits))) =
      word_light room after word.expand words whole waits (λ more. words_move level store room after words more waits) (word_weight (script_weight room) word.pieces) (word_end level store word.pieces []) (λ more. words_light level store room after words more waits) (end_weighs (script_weight room) (element_weight (script_weight room) index_depth) level store word.pieces []) in
      omega arith

  element_light : (name : List ℕ) (value : Result (List ℕ) ReadFault) (waits : List (Waiting K)) → weight (moved (element_end name value) waits) ≤ 1 + waits_weight waits
  element_light name (Ok value) waits = omega arith
  element_light name (Err fault) waits = omega arith

  index_light : (level : ℕ) (store : Store) (x : Indexing) (waits : List (Waiting K)) (bound : ℕ) (end : WordEnd) → EndWeighs (script_weight x.room) (element_weight (script_weight x.room) x.depth) bound end
      → weight (index_move level store x waits end) < 2 + (bound + waits_weight waits)
  index_light level store x waits bound (Whole index) w = omega (arith, element_light (element_name x.name index) (element_in store level x.name index) waits)
  index_light level store x waits bound (Failed text) w = omega arith
  index_light level store x waits bound (AtPart part pieces so_far) w = omega (arith, part_light x.room x.depth part (ForIndex (record x { so_far = so_far; pieces = pieces }) ∷ waits))

  pub indexes_lighter : (level : ℕ) (store : Store) (x : Indexing) (waits : List (Waiting K)) → weight (indexes_move level store x waits) < weight (moved (Indexes x) waits)
  indexes_lighter level store x waits =
      omega (
        arith,
        index_light level store x waits (pieces_weight (script_weight x.room) (element_weight (script_weight x.room) x.depth) x.pieces) (word_end level store x.pieces x.so_far)
            (end_weighs (script_weight x.room) (element_weight (script_weight x.room) x.depth) level store x.pieces x.so_far),
      )

  longer_light : (x : Indexing) (so_far : List ℕ) (b : Bool) (waits : List (Waiting K))
      → weight (moved (cond b (Indexes (record x { so_far = so_far })) (Ends Error limit_text)) waits) ≤ (2 + pieces_weight (script_weight x.room) (element_weight (script_weight x.room) x.depth) x.pieces) + waits_weight waits
  longer_light x so_far true waits = omega arith
  longer_light x so_far false waits = omega arith

  parsed_light : (room : ℕ) (waits : List (Waiting K)) (script : Result (List Command) ParseFault) → weight (parsed_move room waits script) < parsed_weight (script_weight room) script + waits_weight waits
  parsed_light room waits (Ok commands) = omega arith
  parsed_light room waits (Err fault) = omega arith

  pub begin_lighter : (room : ℕ) (text : List ℕ) (waits : List (Waiting K)) → weight (begin_move room text waits) < script_weight room text + waits_weight waits
  begin_lighter zero text waits = omega arith
  begin_lighter (suc room) text waits = rw (begin_some room text waits) (parsed_light room waits (script_of text))

  pub go_on_lighter : (level : ℕ) (store : Store) (room : ℕ) (commands : List Command) (result : List ℕ) (waits : List (Waiting K)) → weight (go_on_move level store room commands result waits) < 2 + (commands_weight (script_weight room) commands + waits_weight waits)
  go_on_lighter level store room [] result waits = omega arith
  go_on_lighter level store room (command ∷ after) result waits = omega (arith, words_light level store room after command.words [] waits)

  -- ── expressions ──

  begun_light : (room : ℕ) (begun : Result Resumption (List ℕ)) (waits : List (Waiting K)) → weight (moved (begun_as room begun) waits) ≡ begun_weight room begun + waits_weight waits
  begun_light room (Ok evaluation) waits = refl
  begun_light room (Err text) waits = refl

  otherwise_light : (room : ℕ) (otherwise : Option (List ℕ)) (waits : List (Waiting K)) → weight (otherwise_move room otherwise waits) ≡ otherwise_weight room otherwise + waits_weight waits
  otherwise_light room (Some body) waits = refl
  otherwise_light room None waits = refl

  choice_light : (room : ℕ) (branches : List Branch) (otherwise : Option (List ℕ)) (waits : List (Waiting K)) → weight (choice_move room branches otherwise waits) ≡ choices_weight room branches otherwise + waits_weight waits
  choice_light room [] otherwise waits = otherwise_light room otherwise waits
  choice_light room (branch ∷ branches) otherwise waits = begun_light room (evaluation_begins branch.test) (ForChoice room (branch ∷ branches) otherwise ∷ waits) ∙ omega arith

  given_light : (room : ℕ) (evaluation : Resumption) (name : List ℕ) (value : Result (List ℕ) ReadFault) (waits : List (Waiting K)) → weight (moved (value_given room evaluation name value) waits) ≤ evaluation_weight room evaluation + waits_weight waits
  given_light room evaluation name (Ok value) waits = omega arith
  given_light room evaluation name (Err fault) waits = omega arith

  choice_positive : (room : ℕ) (branches : List Branch) (otherwise : Option (List ℕ)) (waits : List (Waiting K)) → 1 + waits_weight waits ≤ choice_weight room branches otherwise + waits_weight waits
  choice_positive room [] otherwise waits = omega arith
  choice_positive room (branch ∷ branches) otherwise waits = omega arith

  asked_lighter : (level : ℕ) (store : Store) (room : ℕ) (before after : Resumption) (waits : List (Waiting K)) (asked : Ask) → AsksBy before.steps asked after.steps → weight (asked_move level store room after waits asked) < evaluation_weight room before + waits_weight waits
  asked_lighter level store room before after waits (ask.Variable name) by = omega (arith, weighs_less (step_weight room) before.steps after.steps (ask.Variable name) by, given_light room after name (variable_in store level name) waits)
  asked_lighter level store room before after waits (ask.Element array index) by =
      omega (arith, weighs_less (step_weight room) before.steps after.steps (ask.Element array index) by, given_light room after (element_name array index) (element_in store level array index) waits)
  asked_lighter level store room before after waits (ask.Command script) by = omega (arith, weighs_less (step_weight room) before.steps after.steps (ask.Command script) by)
  asked_lighter level store room before after waits (ask.Value text) by = omega arith

  answer_lighter : (level : ℕ) (store : Store) (room : ℕ) (before after : Resumption) (waits : List (Waiting K)) (answer : Result Ask EvalFault) → IfOk answer (λ asked. AsksBy before.steps asked after.steps) → weight (answer_move level store room after waits answer) < evaluation_weight room before + waits_weight waits
  answer_lighter level store room before after waits (Ok asked) by = asked_lighter level store room before after waits asked by
  answer_lighter level store room before after waits (Err fault) by = omega arith

  iteration_lighter : (room : ℕ) (looping : Loop) (waits : List (Waiting K)) (truth : Result Bool (List ℕ)) → weight (iteration_move room looping waits truth) < 1 + ((2 + (script_weight room looping.body + next_weight (script_weight room) looping.next)) + waits_weight waits)
  iteration_lighter room looping waits (Ok true) = omega arith
  iteration_lighter room looping waits (Ok false) = omega arith
  iteration_lighter room looping waits (Err text) = omega arith

  chosen_lighter : (room : ℕ) (branches : List Branch) (otherwise : Option (List ℕ)) (waits : List (Waiting K)) (truth : Result Bool (List ℕ)) → weight (chosen_move room branches otherwise waits truth) < 1 + (choice_weight room branches otherwise + waits_weight waits)
  chosen_lighter room [] otherwise waits (Ok holds) = omega (arith, otherwise_light room otherwise waits)
  chosen_lighter room [] otherwise waits (Err text) = omega arith
  chosen_lighter room (branch ∷ branches) otherwise waits (Ok true) = omega arith
  chosen_lighter room (branch ∷ branches) otherwise waits (Ok false) = omega (arith, choice_light room branches otherwise waits)
  chosen_lighter room (branch ∷ branches) otherwise waits (Err text) = omega arith

  next_lighter : (room : ℕ) (looping : Loop) (waits : List (Waiting K)) (next : Option (List ℕ)) → weight (next_move room looping waits next) ≤ 1 + (next_weight (script_weight room) next + waits_weight waits)
  next_lighter room looping waits None = omega arith
  next_lighter room looping waits (Some script) = omega arith

  body_lighter : (room : ℕ) (looping : Loop) (waits : List (Waiting K)) (code : Code) (text : List ℕ) → weight (after_body_move room looping waits code text) < 1 + ((2 + next_weight (script_weight room) looping.next) + waits_weight waits)
  body_lighter room looping waits Normal text = omega (arith, next_lighter room looping waits looping.next)
  body_lighter room looping waits Error text = omega arith
  body_lighter room looping waits (Return code) text = omega arith
  body_lighter room looping waits Break text = omega arith
  body_lighter room looping waits Continue text = omega (arith, next_lighter room looping waits looping.next)

  after_next_lighter : (room : ℕ) (looping : Loop) (waits : List (Waiting K)) (code : Code) (text : List ℕ) → weight (after_next_move room looping waits code text) < 1 + (1 + waits_weight waits)
  after_next_lighter room looping waits Normal text = omega arith
  after_next_lighter room looping waits Error text = omega arith
  after_next_lighter room looping waits (Return code) text = omega arith
  after_next_lighter room looping waits Break text = omega arith
  after_next_lighter room looping waits Continue text = omega arith

  start_lighter : (room : ℕ) (looping : Loop) (waits : List (Waiting K)) (code : Code) (text : List ℕ) → weight (after_start_move room looping waits code text) < 1 + (1 + waits_weight waits)
  start_lighter room looping waits Normal text = omega arith
  start_lighter room looping waits Error text = omega arith
  start_lighter room looping waits (Return code) text = omega arith
  start_lighter room looping waits Break text = omega arith
  start_lighter room looping waits Continue text = omega arith

  global_lighter : (waits : List (Waiting K)) (code : Code) (text : List ℕ) → weight (moved (global_end code text) waits) < 1 + (1 + waits_weight waits)
  global_lighter waits Normal text = omega arith
  global_lighter waits Error text = omega arith
  global_lighter waits (Return code) text = omega arith
  global_lighter waits Break text = omega arith
  global_lighter waits Continue text = omega arith

  pub end_lighter : (store : Store) (context : Context) (code : Code) (text : List ℕ) (waiting : Waiting K) (waits : List (Waiting K)) → weight (end_move store context code text waiting waits).moved < 1 + (waiting_weight waiting + waits_weight waits)
  end_lighter store context Normal text (ForCommand room after) waits = omega arith
  end_lighter store context Error text (ForCommand room after) waits = omega arith
  end_lighter store context (Return code) text (ForCommand room after) waits = omega arith
  end_lighter store context Break text (ForCommand room after) waits = omega arith
  end_lighter store context Continue text (ForCommand room after) waits = omega arith
  end_lighter store context Normal text (ForPart w) waits =
      let level : ℕ = here context.levels store in
      let light : weight (part_move level store w waits text) ≤ 2 + (word_weight (script_weight w.room) w.pieces + (words_weight (script_weight w.room) w.words + (commands_weight (script_weight w.room) w.after + waits_weight waits))) =
      word_light w.room w.after w.expand w.words w.whole waits (λ more. words_move level store w.room w.after w.words more waits) (word_weight (script_weight w.room) w.pieces) (join_end w.so_far text (word_end level store w.pieces))
      (λ more. words_light level store w.room w.after w.words more waits)
      (join_weighs (script_weight w.room) (element_weight (script_weight w.room) index_depth) (word_weight (script_weight w.room) w.pieces) (nat_le (length (w.so_far ++ text)) 65536) (word_end level store w.pieces (w.so_far ++ text)) (end_weighs (script_weight w.room) (element_weight (script_weight w.room) index_depth) level store w.pieces (w.so_far ++ text))) in
      omega arith
  end_lighter store context Error text (ForPart w) waits = omega arith
  end_lighter store context (Return code) text (ForPart w) waits = omega arith
  end_lighter store context Break text (ForPart w) waits = omega arith
  end_lighter store context Continue text (ForPart w) waits = omega arith
  end_lighter store context Normal text (ForIndex x) waits = omega (arith, longer_light x (x.so_far ++ text) (nat_le (length (x.so_far ++ text)) 65536) waits)
  end_lighter store context Error text (ForIndex x) waits = omega arith
  end_lighter store context (Return code) text (ForIndex x) waits = omega arith
  end_lighter store context Break text (ForIndex x) waits = omega arith
  end_lighter store context Continue text (ForIndex x) waits = omega arith
  end_lighter store context Normal text (ForValue room evaluation) waits = omega arith
  end_lighter store context Error text (ForValue room evaluation) waits = omega arith
  end_lighter store context (Return code) text (ForValue room evaluation) waits = omega arith
  end_lighter store context Break text (ForValue room evaluation) waits = omega arith
  end_lighter store context Continue text (ForValue room evaluation) waits = omega arith
  end_lighter store context Normal text (ForTest room looping) waits = iteration_lighter room looping waits (truth_of_text text)
  end_lighter store context Error text (ForTest room looping) waits = omega arith
  end_lighter store context (Return code) text (ForTest room looping) waits = omega arith
  end_lighter store context Break text (ForTest room looping) waits = omega arith
  end_lighter store context Continue text (ForTest room looping) waits = omega arith
  end_lighter store context Normal text (ForChoice room branches otherwise) waits = chosen_lighter room branches otherwise waits (truth_of_text text)
  end_lighter store context Error text (ForChoice room branches otherwise) waits = omega (arith, choice_positive room branches otherwise waits)
  end_lighter store context (Return code) text (ForChoice room branches otherwise) waits = omega (arith, choice_positive room branches otherwise waits)
  end_lighter store context Break text (ForChoice room branches otherwise) waits = omega (arith, choice_positive room branches otherwise waits)
  end_lighter store context Continue text (ForChoice room branches otherwise) waits = omega (arith, choice_positive room branches otherwise waits)
  end_lighter store context code text (ForBody room looping) waits = body_lighter room looping waits code text
  end_lighter store context code text (ForNext room looping) waits = after_next_lighter room looping waits code text
  end_lighter store context code text (ForStart room looping) waits = start_lighter room looping waits code text
  end_lighter store context code text (ForCatch name) waits = omega arith
  end_lighter store context code text (ForLevels levels) waits = omega arith
  end_lighter store context code text ForProcedure waits = omega arith
  end_lighter store context code text (ForScript room task) waits = omega arith
  end_lighter store context code text ForAll waits = global_lighter waits (out_of_global code) text

  evaluation_lighter : (level : ℕ) (store : Store) (room : ℕ) (evaluation : Resumption) (given : Option (List ℕ)) (waits : List (Waiting K)) (after : Moved K) → EvaluationMoves level store room evaluation given waits after → weight after < evaluation_weight room evaluation + waits_weight waits
  evaluation_lighter level store room evaluation given waits after (answer, next, told, by, e) = rw e (answer_lighter level store room evaluation next waits answer by)

  quiet_lighter_by : (store : Store) (context : Context) (doing : Doing K) (waits : List (Waiting K)) (n : Standing K) → IsQuietBy doing waits → MovesBy store context doing waits n → weight n.moved < weight (moved doing waits)
  quiet_lighter_by store context (Begins room text) waits n q e = rw e (begin_lighter room text waits)
  quiet_lighter_by store context (GoesOn room commands result) waits n q e = rw e (omega (arith, go_on_lighter (here context.levels store) store room commands result waits))
  quiet_lighter_by store context (Indexes x) waits n q e = rw e (indexes_lighter (here context.levels store) store x waits)
  quiet_lighter_by store context (Evaluates room evaluation given) waits n q e = evaluation_lighter (here context.levels store) store room evaluation given waits n.moved e.0
  quiet_lighter_by store context (Calls room words) waits n q e = absurd q
  quiet_lighter_by store context (Tests room looping) waits n q e = absurd q
  quiet_lighter_by store context (Steps room task) waits n q e = absurd q
  quiet_lighter_by store context (Resumes room task code text) waits n q e = absurd q
  quiet_lighter_by store context (Ends code text) [] n q e = absurd (q refl)
  quiet_lighter_by store context (Ends code text) (waiting ∷ waits) n q e = rw e (end_lighter store context code text waiting waits)

  -- a move makes what is to do before the next step lighter
  pub quiet_lighter : (m n : Standing K) → IsQuiet m.moved → Moves m n → weight n.moved < weight m.moved
  quiet_lighter m n q e = quiet_lighter_by m.store m.context m.moved.doing m.moved.waits n q e

  light_by : (store : Store) (context : Context) (doing : Doing K) (waits : List (Waiting K)) (n : Standing K) → MovesBy store context doing waits n → weight n.moved ≤ weight (moved doing waits)
  light_by store context (Begins room text) waits n e = omega (arith, quiet_lighter_by store context (Begins room text) waits n tt e)
  light_by store context (GoesOn room commands result) waits n e = omega (arith, quiet_lighter_by store context (GoesOn room commands result) waits n tt e)
  light_by store context (Indexes x) waits n e = omega (arith, quiet_lighter_by store context (Indexes x) waits n tt e)
  light_by store context (Evaluates room evaluation given) waits n e = omega (arith, quiet_lighter_by store context (Evaluates room evaluation given) waits n tt e)
  light_by store context (Calls room words) waits n e = rw e (omega arith)
  light_by store context (Tests room looping) waits n e = rw e (omega arith)
  light_by store context (Steps room task) waits n e = rw e (omega arith)
  light_by store context (Resumes room task code text) waits n e = rw e (omega arith)
  light_by store context (Ends code text) [] n e = rw e (omega arith)
  light_by store context (Ends code text) (waiting ∷ waits) n e = rw e (omega (arith, end_lighter store context code text waiting waits))

  leads_light_by : (moves : ℕ) (m n : Standing K) → LeadsBy moves m n → weight n.moved ≤ weight m.moved
  leads_light_by zero m n e = rw e (omega arith)
  leads_light_by (suc moves) m n (between, first, last) = omega (arith, light_by between.store between.context between.moved.doing between.moved.waits n last, leads_light_by moves m between first)

  -- moves without a step make nothing heavier
  pub leads_light : (m n : Standing K) → Leads m n → weight n.moved ≤ weight m.moved
  leads_light m n (moves, leads) = leads_light_by moves m n leads

-- ── tasks ──

module _ {K : Type 0} (size : K → ℕ) where
  abbrev pub doing_tasks : Doing K → ℕ
  doing_tasks (Resumes room task code text) = suc (size task)
  doing_tasks _ = 0

  abbrev pub waiting_tasks : Waiting K → ℕ
  waiting_tasks (ForScript room task) = suc (size task)
  waiting_tasks _ = 0

  abbrev pub waits_tasks : List (Waiting K) → ℕ
  waits_tasks [] = 0
  waits_tasks (waiting ∷ waits) = waiting_tasks waiting + waits_tasks waits

  abbrev pub tasks : Moved K → ℕ
  tasks m = doing_tasks m.doing + waits_tasks m.waits

  more_tasks : (waits : List (Waiting K)) (whole : List (List ℕ)) (go : List (List ℕ) → Moved K) (more : Result (List (List ℕ)) (List ℕ))
      → ((all : List (List ℕ)) → tasks (go all) ≡ waits_tasks waits) → tasks (more_move waits go (with_more_words whole more)) ≡ waits_tasks waits
  more_tasks waits whole go (Ok more) h = h (whole ++ more)
  more_tasks waits whole go (Err text) h = omega arith

  index_begins_tasks : (room depth : ℕ) (name : List ℕ) (pieces : Result (List Piece) ParseFault) → doing_tasks (index_begins room depth name pieces) ≡ 0
  index_begins_tasks room depth name (Ok pieces) = refl
  index_begins_tasks room depth name (Err fault) = refl

  part_begins_tasks : (room depth : ℕ) (part : Part) → doing_tasks (part_begins room depth part) ≡ 0
  part_begins_tasks room depth (Script script) = refl
  part_begins_tasks room zero (ElementOf name index) = refl
  part_begins_tasks room (suc depth) (ElementOf name index) = ap doing_tasks (element_begins_some {K = K} room depth name index) ∙ index_begins_tasks room depth name (index_pieces index)

  word_tasks : (room : ℕ) (after : List Command) (expand : Bool) (words : List Word) (whole : List (List ℕ)) (waits : List (Waiting K)) (go : List (List ℕ) → Moved K) (end : WordEnd)
      → ((more : List (List ℕ)) → tasks (go more) ≡ waits_tasks waits) → tasks (word_move room after expand words whole waits go end) ≡ waits_tasks waits
  word_tasks room after expand words whole waits go (Whole text) h = more_tasks waits whole go (words_of expand text) h
  word_tasks room after expand words whole waits go (Failed text) h = omega arith
  word_tasks room after expand words whole waits go (AtPart part pieces so_far) h = omega (arith, part_begins_tasks room index_depth part)

  words_tasks : (level : ℕ) (store : Store) (room : ℕ) (after : List Command) (words : List Word) (whole : List (List ℕ)) (waits : List (Waiting K)) → tasks (words_move level store room after words whole waits) ≡ waits_tasks waits
  words_tasks level store room after [] [] waits = omega arith
  words_tasks level store room after [] (name ∷ arguments) waits = omega arith
  words_tasks level store room after (word ∷ words) whole waits =
      word_tasks room after word.expand words whole waits (λ more. words_move level store room after words more waits) (word_end level store word.pieces []) (λ more. words_tasks level store room after words more waits)

  element_tasks : (name : List ℕ) (value : Result (List ℕ) ReadFault) → doing_tasks (element_end name value) ≡ 0
  element_tasks name (Ok value) = refl
  element_tasks name (Err fault) = refl

  index_tasks : (level : ℕ) (store : Store) (x : Indexing) (waits : List (Waiting K)) (end : WordEnd) → tasks (index_move level store x waits end) ≡ waits_tasks waits
  index_tasks level store x waits (Whole index) = omega (arith, element_tasks (element_name x.name index) (element_in store level x.name index))
  index_tasks level store x waits (Failed text) = omega arith
  index_tasks level store x waits (AtPart part pieces so_far) = omega (arith, part_begins_tasks x.room x.depth part)

  longer_tasks : (x : Indexing) (so_far : List ℕ) (b : Bool) → doing_tasks (cond b (Indexes (record x { so_far = so_far })) (Ends Error limit_text)) ≡ 0
  longer_tasks x so_far true = refl
  longer_tasks x so_far false = refl

  after_index_tasks : (x : Indexing) (waits : List (Waiting K)) (code : Code) (text : List ℕ) → tasks (after_index x waits code text) ≡ waits_tasks waits
  after_index_tasks x waits Normal text = omega (arith, longer_tasks x (x.so_far ++ text) (nat_le (length (x.so_far ++ text)) 65536))
  after_index_tasks x waits Error text = omega arith
  after_index_tasks x waits (Return code) text = omega arith
  after_index_tasks x waits Break text = omega arith
  after_index_tasks x waits Continue text = omega arith

  parsed_tasks : (room : ℕ) (waits : List (Waiting K)) (script : Result (List Command) ParseFault) → tasks (parsed_move room waits script) ≡ waits_tasks waits
  parsed_tasks room waits (Ok commands) = omega arith
  parsed_tasks room waits (Err fault) = omega arith

  pub begin_tasks : (room : ℕ) (text : List ℕ) (waits : List (Waiting K)) → tasks (begin_move room text waits) ≡ waits_tasks waits
  begin_tasks zero text waits = omega arith
  begin_tasks (suc room) text waits = ap tasks (begin_some room text waits) ∙ parsed_tasks room waits (script_of text)

  pub go_on_tasks : (level : ℕ) (store : Store) (room : ℕ) (commands : List Command) (result : List ℕ) (waits : List (Waiting K)) → tasks (go_on_move level store room commands result waits) ≡ waits_tasks waits
  go_on_tasks level store room [] result waits = omega arith
  go_on_tasks level store room (command ∷ after) result waits = words_tasks level store room after command.words [] waits

  command_tasks : (room : ℕ) (after : List Command) (waits : List (Waiting K)) (code : Code) (text : List ℕ) → tasks (after_command room after waits code text) ≡ 0 + waits_tasks waits
  command_tasks room after waits Normal text = refl
  command_tasks room after waits Error text = refl
  command_tasks room after waits (Return code) text = refl
  command_tasks room after waits Break text = refl
  command_tasks room after waits Continue text = refl

  part_tasks : (level : ℕ) (store : Store) (w : Wording) (waits : List (Waiting K)) (code : Code) (text : List ℕ) → tasks (after_part level store w waits code text) ≡ waits_tasks waits
  part_tasks level store w waits Normal text =
      word_tasks w.room w.after w.expand w.words w.whole waits (λ more. words_move level store w.room w.after w.words more waits) (join_end w.so_far text (word_end level store w.pieces)) (λ more. words_tasks level store w.room w.after w.words more waits)
  part_tasks level store w waits Error text = omega arith
  part_tasks level store w waits (Return code) text = omega arith
  part_tasks level store w waits Break text = omega arith
  part_tasks level store w waits Continue text = omega arith

  begun_tasks : (room : ℕ) (begun : Result Resumption (List ℕ)) → doing_tasks (begun_as room begun) ≡ 0
  begun_tasks room (Ok evaluation) = refl
  begun_tasks room (Err text) = refl

  otherwise_tasks : (room : ℕ) (otherwise : Option (List ℕ)) (waits : List (Waiting K)) → tasks (otherwise_move room otherwise waits) ≡ waits_tasks waits
  otherwise_tasks room (Some body) waits = omega arith
  otherwise_tasks room None waits = omega arith

  pub choice_tasks : (room : ℕ) (branches : List Branch) (otherwise : Option (List ℕ)) (waits : List (Waiting K)) → tasks (choice_move room branches otherwise waits) ≡ waits_tasks waits
  choice_tasks room [] otherwise waits = otherwise_tasks room otherwise waits
  choice_tasks room (branch ∷ branches) otherwise waits = omega (arith, begun_tasks room (evaluation_begins branch.test))

  given_tasks : (room : ℕ) (evaluation : Resumption) (name : List ℕ) (value : Result (List ℕ) ReadFault) → doing_tasks (value_given room evaluation name value) ≡ 0
  given_tasks room evaluation name (Ok value) = refl
  given_tasks room evaluation name (Err fault) = refl

  answer_tasks : (level : ℕ) (store : Store) (room : ℕ) (evaluation : Resumption) (waits : List (Waiting K)) (answer : Result Ask EvalFault) → tasks (answer_move level store room evaluation waits answer) ≡ waits_tasks waits
  answer_tasks level store room evaluation waits (Ok (ask.Variable name)) = omega (arith, given_tasks room evaluation name (variable_in store level name))
  answer_tasks level store room evaluation waits (Ok (ask.Element array index)) = omega (arith, given_tasks room evaluation (element_name array index) (element_in store level array index))
  answer_tasks level store room evaluation waits (Ok (ask.Command script)) = omega arith
  answer_tasks level store room evaluation waits (Ok (ask.Value text)) = omega arith
  answer_tasks level store room evaluation waits (Err fault) = omega arith

  value_tasks : (room : ℕ) (evaluation : Resumption) (waits : List (Waiting K)) (code : Code) (text : List ℕ) → tasks (after_value_move room evaluation waits code text) ≡ waits_tasks waits
  value_tasks room evaluation waits Normal text = omega arith
  value_tasks room evaluation waits Error text = omega arith
  value_tasks room evaluation waits (Return code) text = omega arith
  value_tasks room evaluation waits Break text = omega arith
  value_tasks room evaluation waits Continue text = omega arith

  iteration_tasks : (room : ℕ) (looping : Loop) (waits : List (Waiting K)) (truth : Result Bool (List ℕ)) → tasks (iteration_move room looping waits truth) ≡ waits_tasks waits
  iteration_tasks room looping waits (Ok true) = omega arith
  iteration_tasks room looping waits (Ok false) = omega arith
  iteration_tasks room looping waits (Err text) = omega arith

  test_tasks : (room : ℕ) (looping : Loop) (waits : List (Waiting K)) (code : Code) (text : List ℕ) → tasks (after_test_move room looping waits code text) ≡ waits_tasks waits
  test_tasks room looping waits Normal text = iteration_tasks room looping waits (truth_of_text text)
  test_tasks room looping waits Error text = omega arith
  test_tasks room looping waits (Return code) text = omega arith
  test_tasks room looping waits Break text = omega arith
  test_tasks room looping waits Continue text = omega arith

  chosen_tasks : (room : ℕ) (branches : List Branch) (otherwise : Option (List ℕ)) (waits : List (Waiting K)) (truth : Result Bool (List ℕ)) → tasks (chosen_move room branches otherwise waits truth) ≡ waits_tasks waits
  chosen_tasks room [] otherwise waits (Ok holds) = otherwise_tasks room otherwise waits
  chosen_tasks room [] otherwise waits (Err text) = omega arith
  chosen_tasks room (branch ∷ branches) otherwise waits (Ok true) = omega arith
  chosen_tasks room (branch ∷ branches) otherwise waits (Ok false) = choice_tasks room branches otherwise waits
  chosen_tasks room (branch ∷ branches) otherwise waits (Err text) = omega arith

  after_choice_tasks : (room : ℕ) (branches : List Branch) (otherwise : Option (List ℕ)) (waits : List (Waiting K)) (code : Code) (text : List ℕ) → tasks (after_choice_move room branches otherwise waits code text) ≡ waits_tasks waits
  after_choice_tasks room branches otherwise waits Normal text = chosen_tasks room branches otherwise waits (truth_of_text text)
  after_choice_tasks room branches otherwise waits Error text = omega arith
  after_choice_tasks room branches otherwise waits (Return code) text = omega arith
  after_choice_tasks room branches otherwise waits Break text = omega arith
  after_choice_tasks room branches otherwise waits Continue text = omega arith

  next_tasks : (room : ℕ) (looping : Loop) (waits : List (Waiting K)) (next : Option (List ℕ)) → tasks (next_move room looping waits next) ≡ waits_tasks waits
  next_tasks room looping waits None = omega arith
  next_tasks room looping waits (Some script) = omega arith

  body_tasks : (room : ℕ) (looping : Loop) (waits : List (Waiting K)) (code : Code) (text : List ℕ) → tasks (after_body_move room looping waits code text) ≡ waits_tasks waits
  body_tasks room looping waits Normal text = next_tasks room looping waits looping.next
  body_tasks room looping waits Error text = omega arith
  body_tasks room looping waits (Return code) text = omega arith
  body_tasks room looping waits Break text = omega arith
  body_tasks room looping waits Continue text = next_tasks room looping waits looping.next

  after_next_tasks : (room : ℕ) (looping : Loop) (waits : List (Waiting K)) (code : Code) (text : List ℕ) → tasks (after_next_move room looping waits code text) ≡ waits_tasks waits
  after_next_tasks room looping waits Normal text = omega arith
  after_next_tasks room looping waits Error text = omega arith
  after_next_tasks room looping waits (Return code) text = omega arith
  after_next_tasks room looping waits Break text = omega arith
  after_next_tasks room looping waits Continue text = omega arith

  start_tasks : (room : ℕ) (looping : Loop) (waits : List (Waiting K)) (code : Code) (text : List ℕ) → tasks (after_start_move room looping waits code text) ≡ waits_tasks waits
  start_tasks room looping waits Normal text = omega arith
  start_tasks room looping waits Error text = omega arith
  start_tasks room looping waits (Return code) text = omega arith
  start_tasks room looping waits Break text = omega arith
  start_tasks room looping waits Continue text = omega arith

  global_tasks : (waits : List (Waiting K)) (code : Code) (text : List ℕ) → tasks (moved (global_end code text) waits) ≡ waits_tasks waits
  global_tasks waits Normal text = omega arith
  global_tasks waits Error text = omega arith
  global_tasks waits (Return code) text = omega arith
  global_tasks waits Break text = omega arith
  global_tasks waits Continue text = omega arith

  pub end_tasks : (store : Store) (context : Context) (code : Code) (text : List ℕ) (waiting : Waiting K) (waits : List (Waiting K)) → tasks (end_move store context code text waiting waits).moved ≡ waits_tasks (waiting ∷ waits)
  end_tasks store context code text (ForCommand room after) waits = command_tasks room after waits code text
  end_tasks store context code text (ForPart w) waits = omega (arith, part_tasks (here context.levels store) store w waits code text)
  end_tasks store context code text (ForIndex x) waits = omega (arith, after_index_tasks x waits code text)
  end_tasks store context code text (ForValue room evaluation) waits = omega (arith, value_tasks room evaluation waits code text)
  end_tasks store context code text (ForTest room looping) waits = omega (arith, test_tasks room looping waits code text)
  end_tasks store context code text (ForChoice room branches otherwise) waits = omega (arith, after_choice_tasks room branches otherwise waits code text)
  end_tasks store context code text (ForBody room looping) waits = omega (arith, body_tasks room looping waits code text)
  end_tasks store context code text (ForNext room looping) waits = omega (arith, after_next_tasks room looping waits code text)
  end_tasks store context code text (ForStart room looping) waits = omega (arith, start_tasks room looping waits code text)
  end_tasks store context code text (ForCatch name) waits = omega arith
  end_tasks store context code text (ForLevels levels) waits = omega arith
  end_tasks store context code text ForProcedure waits = omega arith
  end_tasks store context code text (ForScript room task) waits = refl
  end_tasks store context code text ForAll waits = omega (arith, global_tasks waits (out_of_global code) text)

  evaluation_tasks : (level : ℕ) (store : Store) (room : ℕ) (evaluation : Resumption) (given : Option (List ℕ)) (waits : List (Waiting K)) (after : Moved K) → EvaluationMoves level store room evaluation given waits after → tasks after ≡ waits_tasks waits
  evaluation_tasks level store room evaluation given waits after (answer, next, told, by, e) = ap tasks e ∙ answer_tasks level store room next waits answer

  quiet_tasks_by : (store : Store) (context : Context) (doing : Doing K) (waits : List (Waiting K)) (n : Standing K) → MovesBy store context doing waits n → tasks n.moved ≡ tasks (moved doing waits)
  quiet_tasks_by store context (Begins room text) waits n e = rw e (begin_tasks room text waits ∙ omega arith)
  quiet_tasks_by store context (GoesOn room commands result) waits n e = rw e (go_on_tasks (here context.levels store) store room commands result waits ∙ omega arith)
  quiet_tasks_by store context (Indexes x) waits n e = rw e (index_tasks (here context.levels store) store x waits (word_end (here context.levels store) store x.pieces x.so_far) ∙ omega arith)
  quiet_tasks_by store context (Evaluates room evaluation given) waits n e = evaluation_tasks (here context.levels store) store room evaluation given waits n.moved e.0 ∙ omega arith
  quiet_tasks_by store context (Calls room words) waits n e = rw e refl
  quiet_tasks_by store context (Tests room looping) waits n e = rw e refl
  quiet_tasks_by store context (Steps room task) waits n e = rw e refl
  quiet_tasks_by store context (Resumes room task code text) waits n e = rw e refl
  quiet_tasks_by store context (Ends code text) [] n e = rw e refl
  quiet_tasks_by store context (Ends code text) (waiting ∷ waits) n e = rw e (end_tasks store context code text waiting waits ∙ omega arith)

  -- moves without a step leave the tasks alone
  leads_tasks_by : (moves : ℕ) (m n : Standing K) → LeadsBy moves m n → tasks n.moved ≡ tasks m.moved
  leads_tasks_by zero m n e = rw e refl
  leads_tasks_by (suc moves) m n (between, first, last) = quiet_tasks_by between.store between.context between.moved.doing between.moved.waits n last ∙ leads_tasks_by moves m between first

  pub leads_tasks : (m n : Standing K) → Leads m n → tasks n.moved ≡ tasks m.moved
  leads_tasks m n (moves, leads) = leads_tasks_by moves m n leads

-- one move more
pub leads_on : {K : Type 0} (m n k : Standing K) → Leads m n → Moves n k → Leads m k
leads_on m n k (moves, leads) last = (suc moves, (n, leads, last))

leads_all_by : {K : Type 0} (m n : Standing K) (moves : ℕ) (k : Standing K) → Leads m n → LeadsBy moves n k → Leads m k
leads_all_by m n zero k first e = rw e first
leads_all_by m n (suc moves) k first (between, before, last) = leads_on m between k (leads_all_by m n moves between first before) last

-- moves, and more moves behind them
pub leads_all : {K : Type 0} (m n k : Standing K) → Leads m n → Leads n k → Leads m k
leads_all m n k first (moves, leads) = leads_all_by m n moves k first leads
