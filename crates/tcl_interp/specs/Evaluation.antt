-- Meaning. The evaluation of words and of commands in order, where it is given how a script and how a command is run.
use Rattle.std.specs.Prelude.{ℕ, zero, suc, Bool, List, [], ◌∷◌, ◌++◌, length, nat_le, if◌then◌else◌, Result, Ok, Err}
use Rattle.tcl_text.specs.Readings.{list_of}
use Rattle.tcl_text.specs.declared.fault.ListFault.{ListFault}
use Rattle.tcl_words.specs.declared.script.Command.{Command}
use Rattle.tcl_words.specs.declared.script.Word.{Word}
use Rattle.tcl_words.specs.declared.script.Piece.{Piece}
use Rattle.tcl_words.specs.declared.script.Piece.TheVariants.{Literal, Variable, Element, Bracket}
use Rattle.tcl_text.specs.declared.fault.ParseFault.{ParseFault}
use Rattle.tcl_text.specs.declared.fault.ParseFault.TheVariants.{TooLong}
use Rattle.tcl_text.specs.FaultTexts.{list_text, parse_text as text_of}
use Rattle.tcl_words.proofs.Parses.{one_index_parse}
use Rattle.tcl_words.specs.Grammar.{IsIndexParse}
use Rattle.tcl_text.specs.One.{One}
use Rattle.tcl_vars.specs.Store.{Store, variable_in, element_in}
use Rattle.tcl_text.specs.declared.fault.ReadFault.{ReadFault}
use Rattle.tcl_control.specs.declared.code.Code.{Code}
use Rattle.tcl_control.specs.declared.code.Code.TheVariants.{Normal, Error}
use Rattle.tcl_control.specs.declared.context.Context.{Context}
use Rattle.tcl_table.specs.Levels.{here}
use Rattle.tcl_table.specs.Texts.{limit_text, message, cannot_read_text, element_name}
use Rattle.tcl_text.specs.Limits.{most_bytes}

-- What commands beside Tcl's see and change, the variables, the levels and the commands, and how many steps are left.
pub record State (S : Type 0) : Type 0 where
  pub shows : S
  pub store : Store
  pub context : Context
  pub steps : ℕ

-- how a script or a command ends: in a state, with a code and a text, or for good because it needs a step and none is left
pub data Outcome (S : Type 0) : Type 0 where
  Ended : State S → Code → List ℕ → Outcome S
  OutOfSteps : State S → Outcome S

-- the place of the frame whose variables are seen
abbrev pub seen_frame : {S : Type 0} → State S → ℕ
seen_frame state = here state.context.levels state.store

-- what comes behind something that ends
abbrev pub and_then : {S : Type 0} → Outcome S → (State S → Code → List ℕ → Outcome S) → Outcome S
and_then (Ended state code text) after = after state code text
and_then (OutOfSteps state) after = OutOfSteps state

-- what comes behind something that ends normally; every other code goes past it
abbrev pub on_normal : {S : Type 0} → (State S → List ℕ → Outcome S) → State S → Code → List ℕ → Outcome S
on_normal after state Normal text = after state text
on_normal after state code text = Ended state code text

-- with one step taken, so many being left
abbrev pub stepped : {S : Type 0} → ℕ → State S → (State S → Outcome S) → Outcome S
stepped zero state after = OutOfSteps state
stepped (suc left) state after = after (record state { steps = left })

abbrev pub with_step : {S : Type 0} → State S → (State S → Outcome S) → Outcome S
with_step state after = stepped state.steps state after

-- with the value of a variable
abbrev pub on_read : {S : Type 0} → List ℕ → State S → (State S → List ℕ → Outcome S) → Result (List ℕ) ReadFault → Outcome S
on_read name state after (Ok value) = after state value
on_read name state after (Err fault) = Ended state Error (cannot_read_text name fault)

abbrev pub with_value_of : {S : Type 0} → List ℕ → State S → (State S → List ℕ → Outcome S) → Outcome S
with_value_of name state after = on_read name state after (variable_in state.store (seen_frame state) name)

-- with the text so far of a word and one piece more, where that isn't too long for a value
abbrev pub with_joined : {S : Type 0} → List ℕ → List ℕ → State S → (State S → List ℕ → Outcome S) → Outcome S
with_joined so_far text state after = if nat_le (length (so_far ++ text)) most_bytes then after state (so_far ++ text) else Ended state Error limit_text

-- The words that a word's text gives: itself, or the elements of the list that it is, where `{*}` stands before it.
abbrev pub items_or_text : Result (List (List ℕ)) ListFault → Result (List (List ℕ)) (List ℕ)
items_or_text (Ok items) = Ok items
items_or_text (Err fault) = Err (message (list_text fault))

abbrev pub words_of : Bool → List ℕ → Result (List (List ℕ)) (List ℕ)
words_of expand text = if expand then items_or_text (list_of text) else Ok (text ∷ [])

abbrev pub on_words : {S : Type 0} → State S → (State S → List (List ℕ) → Outcome S) → Result (List (List ℕ)) (List ℕ) → Outcome S
on_words state after (Ok words) = after state words
on_words state after (Err text) = Ended state Error text

-- The grammar of indices relates one thing to each text, its pieces or its fault, and no other. This type says what it is; the proof behind it says
-- that it is there.
abbrev pub only_index_parse : (text : List ℕ) → One (IsIndexParse text)
only_index_parse text = one_index_parse text

-- What a text is as the index of an element: the one thing that the grammar relates to it.
unfoldable pub index_pieces : List ℕ → Result (List Piece) ParseFault
index_pieces text = (only_index_parse text).it

-- an element is read, whose index is whole
abbrev pub element_read : {S : Type 0} → List ℕ → State S → List ℕ → Outcome S
element_read name state index =
    on_read (element_name name index) state (λ state' value. Ended state' Normal value) (element_in state.store (seen_frame state) name index)

abbrev pub on_index : {S : Type 0} → State S → (List Piece → Outcome S) → Result (List Piece) ParseFault → Outcome S
on_index state after (Ok pieces) = after pieces
on_index state after (Err fault) = Ended state Error (message (text_of fault))

-- How a script is run, and how an element of an array is read, by its name and its index, are given.
module _ {S : Type 0} (run : List ℕ → State S → Outcome S) (element : List ℕ → List ℕ → State S → Outcome S) where
  -- A piece of a word, or of an index: its text.
  abbrev pub piece_meaning : Piece → State S → (State S → List ℕ → Outcome S) → Outcome S
  piece_meaning (Literal text) state after = after state text
  piece_meaning (Variable name) state after = with_value_of name state after
  piece_meaning (Element name index) state after = and_then (element name index state) (on_normal after)
  piece_meaning (Bracket script) state after = and_then (run script state) (on_normal after)

  -- the pieces that are left of a word or an index, behind what stands before them
  abbrev pub pieces_meaning : List Piece → List ℕ → State S → (State S → List ℕ → Outcome S) → Outcome S
  pieces_meaning [] so_far state after = after state so_far
  pieces_meaning (piece ∷ pieces) so_far state after =
      piece_meaning piece state (λ state' text. with_joined so_far text state' (λ state'' joined. pieces_meaning pieces joined state'' after))

module _ {S : Type 0} (run : List ℕ → State S → Outcome S) where
  -- An element: its index is put together, and then it is read. How the elements that stand in the index are read is given.
  abbrev pub element_by : (List ℕ → List ℕ → State S → Outcome S) → List ℕ → List ℕ → State S → Outcome S
  element_by inner name index state = on_index state (λ pieces. pieces_meaning run inner pieces [] state (element_read name)) (index_pieces index)

  -- So all the way down, where the index has fewer bytes than this. The index of an element that stands in it has fewer than it, so none comes to the first
  -- line. The number is there for the recursion alone: law `elements_are_read` has the equation without it.
  abbrev pub element_within : ℕ → List ℕ → List ℕ → State S → Outcome S
  element_within zero name index state = Ended state Error (message (text_of TooLong))
  element_within (suc bytes) name index state = element_by (element_within bytes) name index state

  -- an element, with those in its index read in the same way
  abbrev pub element_meaning : List ℕ → List ℕ → State S → Outcome S
  element_meaning name index state = element_within (suc (length index)) name index state

  -- the pieces of a word
  abbrev pub word_meaning : List Piece → List ℕ → State S → (State S → List ℕ → Outcome S) → Outcome S
  word_meaning pieces so_far state after = pieces_meaning run element_meaning pieces so_far state after

-- How a script is run, and how a command is called with its words, are given.
module _ {S : Type 0} (run : List ℕ → State S → Outcome S) (call : List (List ℕ) → State S → Outcome S) where
  -- the words that are left of a command, behind those before them
  abbrev pub words_meaning : List Word → List (List ℕ) → State S → (State S → List (List ℕ) → Outcome S) → Outcome S
  words_meaning [] words state after = after state words
  words_meaning (word ∷ rest) words state after =
      word_meaning run word.pieces [] state
      (λ state' text. on_words state' (λ state'' more. words_meaning rest (words ++ more) state'' after) (words_of word.expand text))

  -- A command is called once its words are put together, for one step. One without words does nothing, and takes no step.
  abbrev pub called : State S → List (List ℕ) → Outcome S
  called state [] = Ended state Normal []
  called state (name ∷ arguments) = with_step state (call (name ∷ arguments))

  -- the commands that are left of a script, behind one with this result
  abbrev pub commands_meaning : List Command → List ℕ → State S → Outcome S
  commands_meaning [] result state = Ended state Normal result
  commands_meaning (command ∷ rest) result state =
      and_then (words_meaning command.words [] state called) (on_normal (λ state' text. commands_meaning rest text state'))
