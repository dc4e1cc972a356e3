-- Steps. What the parts of the interpreter stand for.
use Rattle.std.specs.Prelude.{◌≡◌, ℕ, ◌+◌, Bool, false, List, [], ◌∷◌, map, reverse, drop, Result, Ok, Err}
use Rattle.tcl_words.specs.declared.script.Command.{Command}
use Rattle.tcl_words.specs.declared.script.Word.{Word}
use Rattle.tcl_words.specs.declared.script.Piece.{Piece}
use Rattle.tcl_text.specs.declared.fault.ParseFault.{ParseFault}
use Rattle.tcl_vars.specs.Store.{Store}
use Rattle.tcl_control.specs.declared.context.Context.{Context}
use Rattle.tcl_table.specs.Source.{script_of}
use Rattle.tcl_interp.specs.declared.machine.ScriptPlace.{ScriptPlace}
use Rattle.tcl_interp.specs.declared.machine.Wording.{Wording as WordsPart}
use Rattle.tcl_interp.specs.declared.machine.Indexing.{Indexing as IndexPart}
use Rattle.tcl_interp.specs.declared.machine.Now.{Now}
use Rattle.tcl_interp.specs.declared.machine.Now.TheVariants as now
use Rattle.tcl_interp.specs.declared.machine.Frame.{Frame}
use Rattle.tcl_interp.specs.declared.machine.Frame.TheVariants as frame
use Rattle.tcl_interp.specs.declared.machine.Machine.{Machine}
use Rattle.tcl_interp.specs.declared.machine.Machine.TheVariants as machine
use Rattle.tcl_interp.specs.Finish.{Wording, Indexing, Doing, Begins, GoesOn, Indexes, Evaluates, Calls, Tests, Steps, Resumes, Ends, Waiting, ForCommand, ForPart, ForIndex, ForValue, ForTest, ForChoice, ForBody, ForNext, ForStart, ForCatch, ForLevels, ForProcedure, ForScript, ForAll, RestToDo, Idle, Running, Spent, Broken}
use Rattle.tcl_interp.specs.Moves.{Moved, Standing, Part, Script, ElementOf, PieceText, Plain, Fails, Waits, WordEnd, Whole, Failed, AtPart, word_end}
use Rattle.tcl_interp.specs.Evaluation.{index_pieces}
use Rattle.tcl_interp.specs.declared.words.Part.{Part as WordPart}
use Rattle.tcl_interp.specs.declared.words.Part.TheVariants as part
use Rattle.tcl_interp.specs.declared.words.Value.{Value}
use Rattle.tcl_interp.specs.declared.words.Value.TheVariants as value
use Rattle.tcl_interp.specs.declared.words.Put.{Put}
use Rattle.tcl_interp.specs.declared.words.Put.TheVariants as put

-- the commands of a script that has been read
abbrev pub read_commands : Result (List Command) ParseFault → List Command
read_commands (Ok commands) = commands
read_commands (Err fault) = []

abbrev pub commands_in : List ℕ → List Command
commands_in text = read_commands (script_of text)

-- the commands that are left
abbrev pub left_in : ScriptPlace → List Command
left_in place = drop place.next (commands_in place.script)

-- the words of the command in front, and the pieces of the word in front
abbrev pub words_in_front : List Command → List Word
words_in_front [] = []
words_in_front (command ∷ commands) = command.words

abbrev pub pieces_in_front : List Word → List Piece
pieces_in_front [] = []
pieces_in_front (word ∷ words) = word.pieces

-- whether the word in front is a list of words
abbrev pub expand_in_front : List Word → Bool
expand_in_front [] = false
expand_in_front (word ∷ words) = word.expand

-- the word in front is one text, and no list
abbrev pub IsSingle : ℕ → Store → List Word → List ℕ → Type 0
IsSingle level store words text = (expand_in_front words ≡ false) × (Whole text ≡ word_end level store (pieces_in_front words) [])

abbrev pub wording_of : WordsPart → Wording
wording_of part =
    let words = words_in_front (left_in part.place) in
    record {
      room = part.place.room;
      after = drop (part.place.next + 1) (commands_in part.place.script);
      whole = part.whole;
      so_far = part.so_far;
      expand = expand_in_front (drop part.word words);
      pieces = drop part.piece (pieces_in_front (drop part.word words));
      words = drop (part.word + 1) words;
    }

-- the pieces of an index that has been read
abbrev pub read_pieces : Result (List Piece) ParseFault → List Piece
read_pieces (Ok pieces) = pieces
read_pieces (Err fault) = []

abbrev pub pieces_in : List ℕ → List Piece
pieces_in index = read_pieces (index_pieces index)

abbrev pub indexing_of : IndexPart → Indexing
indexing_of part = record { room = part.room; depth = part.depth; name = part.name; so_far = part.so_far; pieces = drop part.piece (pieces_in part.index) }

abbrev pub part_of : WordPart → Part
part_of (part.Script script) = Script script
part_of (part.Element name index) = ElementOf name index

abbrev pub value_of : Value → PieceText
value_of (value.Plain text) = Plain text
value_of (value.Fails text) = Fails text
value_of (value.Waits part) = Waits (part_of part)

-- how far a word came, of these pieces
abbrev pub put_end : List Piece → Put → WordEnd
put_end pieces (put.Whole text) = Whole text
put_end pieces (put.Failed text) = Failed text
put_end pieces (put.AtPart part next so_far) = AtPart (part_of part) (drop next pieces) so_far

module _ {K : Type 0} where
  abbrev pub doing_of : Now K → Doing K
  doing_of (now.Begins room script) = Begins room script
  doing_of (now.GoesOn place result) = GoesOn place.room (left_in place) result
  doing_of (now.Indexes part) = Indexes (indexing_of part.value)
  doing_of (now.Evaluates room answered) = Evaluates room answered.value.eval answered.value.given
  doing_of (now.Calls room words) = Calls room words
  doing_of (now.Tests room looping) = Tests room looping
  doing_of (now.Steps room task) = Steps room task.value
  doing_of (now.Resumes room task code text) = Resumes room task.value code text
  doing_of (now.Ends code text) = Ends code text

  abbrev pub waiting_of : Frame K → Waiting K
  waiting_of (frame.ForCommand place) = ForCommand place.room (left_in place)
  waiting_of (frame.ForPart part) = ForPart (wording_of part.value)
  waiting_of (frame.ForIndex part) = ForIndex (indexing_of part.value)
  waiting_of (frame.ForValue room asking) = ForValue room asking.value.eval
  waiting_of (frame.ForTest room looping) = ForTest room looping
  waiting_of (frame.ForChoice room choosing) = ForChoice room (drop choosing.value.place choosing.value.choices.branches) choosing.value.choices.otherwise
  waiting_of (frame.ForBody room looping) = ForBody room looping
  waiting_of (frame.ForNext room looping) = ForNext room looping
  waiting_of (frame.ForStart room looping) = ForStart room looping
  waiting_of (frame.ForCatch name) = ForCatch name
  waiting_of (frame.ForLevels levels) = ForLevels levels
  waiting_of frame.ForProcedure = ForProcedure
  waiting_of (frame.ForScript room task) = ForScript room task.value
  waiting_of frame.ForAll = ForAll

  -- what waits, innermost first: the last frame
  unfoldable pub waits_of : List (Frame K) → List (Waiting K)
  waits_of frames = reverse (map waiting_of frames)

  abbrev pub moved_of : Now K → List (Frame K) → Moved K
  moved_of now frames = record { doing = doing_of now; waits = waits_of frames }

  abbrev pub standing_of : Now K → List (Frame K) → Store → Context → Standing K
  standing_of now frames store context = record { moved = moved_of now frames; store = store; context = context }

  abbrev pub rest_by : Machine K → List (Waiting K) → RestToDo K
  rest_by machine.Idle waits = Idle
  rest_by (machine.Running now) waits = Running (doing_of now) waits
  rest_by machine.Spent waits = Spent
  rest_by machine.Broken waits = Broken
