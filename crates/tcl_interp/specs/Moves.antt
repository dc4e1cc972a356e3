-- Steps. The moves of the interpreter: what is done, what waits, the variables and the context after each.
use Rattle.std.specs.Prelude.{ℕ, suc, ◌-◌, ◌==◌, Bool, true, false, List, [], ◌∷◌, ◌++◌, length, nat_le, if◌then◌else◌, Option, Some, None, Result, Ok, Err}
use Rattle.tcl_words.specs.declared.script.Command.{Command}
use Rattle.tcl_words.specs.declared.script.Word.{Word}
use Rattle.tcl_words.specs.declared.script.Piece.{Piece}
use Rattle.tcl_words.specs.declared.script.Piece.TheVariants.{Literal, Variable, Element, Bracket}
use Rattle.tcl_text.specs.declared.fault.ParseFault.{ParseFault}
use Rattle.tcl_text.specs.declared.fault.ParseFault.TheVariants.{TooLong}
use Rattle.tcl_text.specs.FaultTexts.{parse_text as text_of}
use Rattle.tcl_vars.specs.Store.{Store, variable_in, element_in}
use Rattle.tcl_commands.specs.declared.branches.Branch.{Branch}
use Rattle.tcl_expr.specs.declared.ask.Ask.{Ask}
use Rattle.tcl_expr.specs.declared.ask.Ask.TheVariants as ask
use Rattle.tcl_expr.specs.declared.fault.EvalFault.{EvalFault}
use Rattle.tcl_expr.specs.Resuming.{Resumption}
use Rattle.tcl_expr.specs.Messages.{eval_message}
use Rattle.tcl_text.specs.declared.fault.ReadFault.{ReadFault}
use Rattle.tcl_control.specs.declared.code.Code.{Code}
use Rattle.tcl_control.specs.declared.code.Code.TheVariants.{Normal, Error, Break, Continue}
use Rattle.tcl_control.specs.declared.context.Context.{Context}
use Rattle.tcl_control.specs.declared.plan.Plan.{Plan}
use Rattle.tcl_control.specs.declared.plan.Plan.TheVariants as plan
use Rattle.tcl_control.specs.declared.loops.Test.{Test}
use Rattle.tcl_control.specs.declared.loops.Test.TheVariants.{Holds, Items}
use Rattle.tcl_control.specs.declared.loops.Loop.{Loop}
use Rattle.tcl_control.specs.Expressions.{truth_of_text}
use Rattle.tcl_control.specs.ExpressionForms.{evaluation_begins}
use Rattle.tcl_control.specs.Commands.{Ending, caught_ending}
use Rattle.tcl_table.specs.Levels.{here, popped}
use Rattle.tcl_table.specs.Source.{script_of}
use Rattle.tcl_table.specs.Texts.{limit_text, message, nesting_text, break_outside, continue_outside, cannot_read_text, element_name, unknown_command}
use Rattle.tcl_control.specs.Loops.{Tested, More, NoMore, Fails as TestFails, items_tested}
use Rattle.tcl_interp.specs.declared.tasks.Act.{Act}
use Rattle.tcl_interp.specs.declared.tasks.Act.TheVariants.{Done, Step, Run, Unknown}
use Rattle.tcl_interp.specs.Evaluation.{index_pieces, words_of}
use Rattle.tcl_interp.specs.Plans.{with_first_levels, others, with_levels_behind, callers, procedure_code, procedure_text}
use Rattle.tcl_interp.specs.Scripts.{out_of_global}
use Rattle.tcl_interp.specs.Finish.{Wording, Indexing, Doing, Begins, GoesOn, Indexes, Evaluates, Calls, Tests, Steps, Resumes, Ends, Waiting, ForCommand, ForPart, ForIndex, ForValue, ForTest, ForChoice, ForBody, ForNext, ForStart, ForCatch, ForLevels, ForProcedure, ForScript, ForAll}
use Rattle.tcl_text.specs.Limits.{most_bytes, most_nested}

-- what is done, and what waits
pub record Moved (K : Type 0) : Type 0 where
  pub doing : Doing K
  pub waits : List (Waiting K)

-- the same, with the variables and the context
pub record Standing (K : Type 0) : Type 0 where
  pub moved : Moved K
  pub store : Store
  pub context : Context

-- ── words ──

-- a part of a word that is evaluated by itself: a script in brackets, or an element by the array's name and the index
pub data Part : Type 0 where
  Script : List ℕ → Part
  ElementOf : List ℕ → List ℕ → Part

-- a piece by itself: a text, an error, or a part to be evaluated
pub data PieceText : Type 0 where
  Plain : List ℕ → PieceText
  Fails : List ℕ → PieceText
  Waits : Part → PieceText

abbrev pub variable_value : List ℕ → Result (List ℕ) ReadFault → PieceText
variable_value name (Ok value) = Plain value
variable_value name (Err fault) = Fails (cannot_read_text name fault)

-- where variables are those of a level
abbrev pub piece_text : ℕ → Store → Piece → PieceText
piece_text level store (Literal text) = Plain text
piece_text level store (Variable name) = variable_value name (variable_in store level name)
piece_text level store (Element name index) = Waits (ElementOf name index)
piece_text level store (Bracket script) = Waits (Script script)

-- how far a word or an index comes: it is whole, it fails, or a part is to be evaluated whose result is its next piece
pub data WordEnd : Type 0 where
  Whole : List ℕ → WordEnd
  Failed : List ℕ → WordEnd
  AtPart : Part → List Piece → List ℕ → WordEnd

abbrev pub join_end : List ℕ → List ℕ → (List ℕ → WordEnd) → WordEnd
join_end so_far text go = if nat_le (length (so_far ++ text)) most_bytes then go (so_far ++ text) else Failed limit_text

abbrev pub piece_end : PieceText → List Piece → List ℕ → (List ℕ → WordEnd) → WordEnd
piece_end (Plain text) pieces so_far go = join_end so_far text go
piece_end (Fails text) pieces so_far go = Failed text
piece_end (Waits part) pieces so_far go = AtPart part pieces so_far

abbrev pub word_end : ℕ → Store → List Piece → List ℕ → WordEnd
word_end level store [] so_far = Whole so_far
word_end level store (piece ∷ pieces) so_far = piece_end (piece_text level store piece) pieces so_far (word_end level store pieces)

-- How many indices are gone down from a word. No more than `most_nested` of them stand in one another in any index that can be read, so no element
-- comes to the end of this (`deep_enough`).
unfoldable pub index_depth : ℕ
index_depth = suc most_nested

-- the words so far, and those that one more gives
abbrev pub with_more_words : List (List ℕ) → Result (List (List ℕ)) (List ℕ) → Result (List (List ℕ)) (List ℕ)
with_more_words whole (Ok more) = Ok (whole ++ more)
with_more_words whole (Err text) = Err text

module _ {K : Type 0} where
  abbrev pub moved : Doing K → List (Waiting K) → Moved K
  moved doing waits = record { doing = doing; waits = waits }

  -- a command whose words are whole
  abbrev pub called_move : ℕ → List Command → List (List ℕ) → List (Waiting K) → Moved K
  called_move room after [] waits = moved (GoesOn room after []) waits
  called_move room after (name ∷ arguments) waits = moved (Calls room (name ∷ arguments)) (ForCommand room after ∷ waits)

  -- an index begins
  abbrev pub index_begins : ℕ → ℕ → List ℕ → Result (List Piece) ParseFault → Doing K
  index_begins room depth name (Ok pieces) = Indexes (record { room = room; depth = depth; name = name; so_far = []; pieces = pieces })
  index_begins room depth name (Err fault) = Ends Error (message (text_of fault))

  -- an element begins, with indices at most so deep in it
  abbrev pub element_begins : ℕ → ℕ → List ℕ → List ℕ → Doing K
  element_begins room depth name index = if depth == 0 then Ends Error (message (text_of TooLong)) else index_begins room (depth - 1) name (index_pieces index)

  -- a part begins
  abbrev pub part_begins : ℕ → ℕ → Part → Doing K
  part_begins room depth (Script script) = Begins room script
  part_begins room depth (ElementOf name index) = element_begins room depth name index

  -- a part of a word begins
  abbrev pub word_part : ℕ → List Command → Bool → List Word → List (List ℕ) → List Piece → List ℕ → Part → List (Waiting K) → Moved K
  word_part room after expand words whole pieces so_far part waits =
      moved (part_begins room index_depth part)
      (ForPart (record { room = room; after = after; whole = whole; so_far = so_far; expand = expand; pieces = pieces; words = words }) ∷ waits)

  -- with the words that are whole then
  abbrev pub more_move : List (Waiting K) → (List (List ℕ) → Moved K) → Result (List (List ℕ)) (List ℕ) → Moved K
  more_move waits go (Ok all) = go all
  more_move waits go (Err text) = moved (Ends Error text) waits

  -- a word that comes so far, with the words behind it
  abbrev pub word_move : ℕ → List Command → Bool → List Word → List (List ℕ) → List (Waiting K) → (List (List ℕ) → Moved K) → WordEnd → Moved K
  word_move room after expand words whole waits go (Whole text) = more_move waits go (with_more_words whole (words_of expand text))
  word_move room after expand words whole waits go (Failed text) = moved (Ends Error text) waits
  word_move room after expand words whole waits go (AtPart part pieces so_far) = word_part room after expand words whole pieces so_far part waits

  abbrev pub words_move : ℕ → Store → ℕ → List Command → List Word → List (List ℕ) → List (Waiting K) → Moved K
  words_move level store room after [] whole waits = called_move room after whole waits
  words_move level store room after (word ∷ words) whole waits =
      word_move room after word.expand words whole waits (λ more. words_move level store room after words more waits) (word_end level store word.pieces [])

  -- ── elements ──

  abbrev pub element_end : List ℕ → Result (List ℕ) ReadFault → Doing K
  element_end name (Ok value) = Ends Normal value
  element_end name (Err fault) = Ends Error (cannot_read_text name fault)

  -- an index that comes so far
  abbrev pub index_move : ℕ → Store → Indexing → List (Waiting K) → WordEnd → Moved K
  index_move level store x waits (Whole index) = moved (element_end (element_name x.name index) (element_in store level x.name index)) waits
  index_move level store x waits (Failed text) = moved (Ends Error text) waits
  index_move level store x waits (AtPart part pieces so_far) =
      moved (part_begins x.room x.depth part) (ForIndex (record x { so_far = so_far; pieces = pieces }) ∷ waits)

  abbrev pub indexes_move : ℕ → Store → Indexing → List (Waiting K) → Moved K
  indexes_move level store x waits = index_move level store x waits (word_end level store x.pieces x.so_far)

  -- ── expressions ──

  -- an evaluation begins, unless the expression has a fault
  abbrev pub begun_as : ℕ → Result Resumption (List ℕ) → Doing K
  begun_as room (Ok evaluation) = Evaluates room evaluation None
  begun_as room (Err text) = Ends Error text

  abbrev pub expression_begins : ℕ → List ℕ → Doing K
  expression_begins room text = begun_as room (evaluation_begins text)

  -- it goes on with the value of a variable of this name
  abbrev pub value_given : ℕ → Resumption → List ℕ → Result (List ℕ) ReadFault → Doing K
  value_given room evaluation name (Ok value) = Evaluates room evaluation (Some value)
  value_given room evaluation name (Err fault) = Ends Error (cannot_read_text name fault)

  -- it has asked for something, or has ended
  abbrev pub asked_move : ℕ → Store → ℕ → Resumption → List (Waiting K) → Ask → Moved K
  asked_move level store room evaluation waits (ask.Variable name) = moved (value_given room evaluation name (variable_in store level name)) waits
  asked_move level store room evaluation waits (ask.Element array index) =
      moved (value_given room evaluation (element_name array index) (element_in store level array index)) waits
  asked_move level store room evaluation waits (ask.Command script) = moved (Begins room script) (ForValue room evaluation ∷ waits)
  asked_move level store room evaluation waits (ask.Value text) = moved (Ends Normal text) waits

  abbrev pub answer_move : ℕ → Store → ℕ → Resumption → List (Waiting K) → Result Ask EvalFault → Moved K
  answer_move level store room evaluation waits (Ok asked) = asked_move level store room evaluation waits asked
  answer_move level store room evaluation waits (Err fault) = moved (Ends Error (eval_message fault)) waits

  -- the last body of `if`
  abbrev pub otherwise_move : ℕ → Option (List ℕ) → List (Waiting K) → Moved K
  otherwise_move room (Some body) waits = moved (Begins room body) waits
  otherwise_move room None waits = moved (Ends Normal []) waits

  -- on to the first condition of `if`
  abbrev pub choice_move : ℕ → List Branch → Option (List ℕ) → List (Waiting K) → Moved K
  choice_move room [] otherwise waits = otherwise_move room otherwise waits
  choice_move room (branch ∷ branches) otherwise waits = moved (expression_begins room branch.test) (ForChoice room (branch ∷ branches) otherwise ∷ waits)

  -- ── scripts ──

  abbrev pub parsed_move : ℕ → List (Waiting K) → Result (List Command) ParseFault → Moved K
  parsed_move room waits (Ok commands) = moved (GoesOn room commands []) waits
  parsed_move room waits (Err fault) = moved (Ends Error (message (text_of fault))) waits

  abbrev pub begin_move : ℕ → List ℕ → List (Waiting K) → Moved K
  begin_move room text waits = if room == 0 then moved (Ends Error nesting_text) waits else parsed_move (room - 1) waits (script_of text)

  abbrev pub go_on_move : ℕ → Store → ℕ → List Command → List ℕ → List (Waiting K) → Moved K
  go_on_move level store room [] result waits = moved (Ends Normal result) waits
  go_on_move level store room (command ∷ after) result waits = words_move level store room after command.words [] waits

  -- ── something ends that was waited for ──

  abbrev pub after_command : ℕ → List Command → List (Waiting K) → Code → List ℕ → Moved K
  after_command room after waits Normal text = moved (GoesOn room after text) waits
  after_command room after waits code text = moved (Ends code text) waits

  abbrev pub part_move : ℕ → Store → Wording → List (Waiting K) → List ℕ → Moved K
  part_move level store w waits text =
      word_move w.room w.after w.expand w.words w.whole waits (λ more. words_move level store w.room w.after w.words more waits)
      (join_end w.so_far text (word_end level store w.pieces))

  abbrev pub after_part : ℕ → Store → Wording → List (Waiting K) → Code → List ℕ → Moved K
  after_part level store w waits Normal text = part_move level store w waits text
  after_part level store w waits code text = moved (Ends code text) waits

  -- an index with one piece more
  abbrev pub longer_index : Indexing → List ℕ → Doing K
  longer_index x text = if nat_le (length (x.so_far ++ text)) most_bytes then Indexes (record x { so_far = x.so_far ++ text }) else Ends Error limit_text

  abbrev pub after_index : Indexing → List (Waiting K) → Code → List ℕ → Moved K
  after_index x waits Normal text = moved (longer_index x text) waits
  after_index x waits code text = moved (Ends code text) waits

  abbrev pub after_value_move : ℕ → Resumption → List (Waiting K) → Code → List ℕ → Moved K
  after_value_move room evaluation waits Normal text = moved (Evaluates room evaluation (Some text)) waits
  after_value_move room evaluation waits code text = moved (Ends code text) waits

  -- the test of a loop
  abbrev pub iteration_move : ℕ → Loop → List (Waiting K) → Result Bool (List ℕ) → Moved K
  iteration_move room looping waits (Ok true) = moved (Begins room looping.body) (ForBody room looping ∷ waits)
  iteration_move room looping waits (Ok false) = moved (Ends Normal []) waits
  iteration_move room looping waits (Err text) = moved (Ends Error text) waits

  abbrev pub after_test_move : ℕ → Loop → List (Waiting K) → Code → List ℕ → Moved K
  after_test_move room looping waits Normal text = iteration_move room looping waits (truth_of_text text)
  after_test_move room looping waits code text = moved (Ends code text) waits

  -- whether the first condition of `if` holds
  abbrev pub chosen_move : ℕ → List Branch → Option (List ℕ) → List (Waiting K) → Result Bool (List ℕ) → Moved K
  chosen_move room branches otherwise waits (Err text) = moved (Ends Error text) waits
  chosen_move room [] otherwise waits (Ok holds) = otherwise_move room otherwise waits
  chosen_move room (branch ∷ branches) otherwise waits (Ok true) = moved (Begins room branch.body) waits
  chosen_move room (branch ∷ branches) otherwise waits (Ok false) = choice_move room branches otherwise waits

  abbrev pub after_choice_move : ℕ → List Branch → Option (List ℕ) → List (Waiting K) → Code → List ℕ → Moved K
  after_choice_move room branches otherwise waits Normal text = chosen_move room branches otherwise waits (truth_of_text text)
  after_choice_move room branches otherwise waits code text = moved (Ends code text) waits

  -- on to the next test of a loop
  abbrev pub next_move : ℕ → Loop → List (Waiting K) → Option (List ℕ) → Moved K
  next_move room looping waits None = moved (Tests room looping) waits
  next_move room looping waits (Some script) = moved (Begins room script) (ForNext room looping ∷ waits)

  abbrev pub after_body_move : ℕ → Loop → List (Waiting K) → Code → List ℕ → Moved K
  after_body_move room looping waits Normal text = next_move room looping waits looping.next
  after_body_move room looping waits Continue text = next_move room looping waits looping.next
  after_body_move room looping waits Break text = moved (Ends Normal []) waits
  after_body_move room looping waits code text = moved (Ends code text) waits

  abbrev pub after_next_move : ℕ → Loop → List (Waiting K) → Code → List ℕ → Moved K
  after_next_move room looping waits Normal text = moved (Tests room looping) waits
  after_next_move room looping waits Break text = moved (Ends Normal []) waits
  after_next_move room looping waits code text = moved (Ends code text) waits

  abbrev pub after_start_move : ℕ → Loop → List (Waiting K) → Code → List ℕ → Moved K
  after_start_move room looping waits Normal text = moved (Tests room looping) waits
  after_start_move room looping waits code text = moved (Ends code text) waits

  abbrev pub global_end : Code → List ℕ → Doing K
  global_end Break text = Ends Error break_outside
  global_end Continue text = Ends Error continue_outside
  global_end code text = Ends code text

  abbrev pub standing : Moved K → Store → Context → Standing K
  standing moved store context = record { moved = moved; store = store; context = context }

  -- it has ended, and variables may have changed
  abbrev pub ending_move : Ending → Context → List (Waiting K) → Standing K
  ending_move ending context waits = standing (moved (Ends ending.code ending.text) waits) ending.store context

  abbrev pub end_move : Store → Context → Code → List ℕ → Waiting K → List (Waiting K) → Standing K
  end_move store context code text (ForCommand room after) waits = standing (after_command room after waits code text) store context
  end_move store context code text (ForPart w) waits = standing (after_part (here context.levels store) store w waits code text) store context
  end_move store context code text (ForIndex x) waits = standing (after_index x waits code text) store context
  end_move store context code text (ForValue room evaluation) waits = standing (after_value_move room evaluation waits code text) store context
  end_move store context code text (ForTest room looping) waits = standing (after_test_move room looping waits code text) store context
  end_move store context code text (ForChoice room branches otherwise) waits =
      standing (after_choice_move room branches otherwise waits code text) store context
  end_move store context code text (ForBody room looping) waits = standing (after_body_move room looping waits code text) store context
  end_move store context code text (ForNext room looping) waits = standing (after_next_move room looping waits code text) store context
  end_move store context code text (ForStart room looping) waits = standing (after_start_move room looping waits code text) store context
  end_move store context code text (ForCatch name) waits = ending_move (caught_ending (here context.levels store) name code text store) context waits
  end_move store context code text (ForLevels levels) waits = standing (moved (Ends code text) waits) store (with_levels_behind levels context)
  end_move store context code text ForProcedure waits =
      standing (moved (Ends (procedure_code code) (procedure_text code text)) waits) (popped store) (callers context)
  end_move store context code text (ForScript room task) waits = standing (moved (Resumes room task (out_of_global code) text) waits) store context
  end_move store context code text ForAll waits = standing (moved (global_end (out_of_global code) text) waits) store context

  -- ── commands, tests and tasks ──

  -- a command does what its plan says
  abbrev pub plan_move : ℕ → Store → Context → List (Waiting K) → Plan → Standing K
  plan_move room store context waits (plan.Ends code text) = standing (moved (Ends code text) waits) store context
  plan_move room store context waits (plan.Runs script) = standing (moved (Begins room script) waits) store context
  plan_move room store context waits (plan.Catches script name) = standing (moved (Begins room script) (ForCatch name ∷ waits)) store context
  plan_move room store context waits (plan.RunsAt count script) =
      standing (moved (Begins room script) (ForLevels (others count context) ∷ waits)) store (with_first_levels count context)
  plan_move room store context waits (plan.Enters body) = standing (moved (Begins room body) (ForProcedure ∷ waits)) store context
  plan_move room store context waits (plan.Evaluates expression) = standing (moved (expression_begins room expression) waits) store context
  plan_move room store context waits (plan.Chooses choices) = standing (choice_move room choices.branches choices.otherwise waits) store context
  plan_move room store context waits (plan.Loops looping) = standing (moved (Tests room looping) waits) store context
  plan_move room store context waits (plan.Starts script looping) = standing (moved (Begins room script) (ForStart room looping ∷ waits)) store context

  abbrev pub items_move : ℕ → Loop → Context → List (Waiting K) → Tested → Standing K
  items_move room looping context waits (More store groups) =
      standing (moved (Begins room looping.body) (ForBody room (record looping { test = Items groups }) ∷ waits)) store context
  items_move room looping context waits (NoMore store) = standing (moved (Ends Normal []) waits) store context
  items_move room looping context waits (TestFails store text) = standing (moved (Ends Error text) waits) store context

  -- a loop tests whether it has another iteration
  abbrev pub test_move : ℕ → Loop → Store → Context → List (Waiting K) → Test → Standing K
  test_move room looping store context waits (Holds condition) =
      standing (moved (expression_begins room condition) (ForTest room looping ∷ waits)) store context
  test_move room looping store context waits (Items groups) = items_move room looping context waits (items_tested (here context.levels store) groups store)

  -- what an act of a command of this name, or of a task, leads to
  abbrev pub act_move : ℕ → List ℕ → Store → Context → List (Waiting K) → Act K → Standing K
  act_move room name store context waits (Done code text) = standing (moved (Ends code text) waits) store context
  act_move room name store context waits (Step task) = standing (moved (Steps room task) waits) store context
  act_move room name store context waits (Run script task) =
      standing (moved (Begins room script) (ForLevels (others 1 context) ∷ ForScript room task ∷ waits)) store (with_first_levels 1 context)
  act_move room name store context waits Unknown = standing (moved (Ends Error (unknown_command name)) waits) store context
