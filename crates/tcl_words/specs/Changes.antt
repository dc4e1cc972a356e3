-- Steps. What the rest of a text gives to the parts of a script that are open before it, and what a byte puts in front of that.
use Rattle.std.specs.Prelude.{ℕ, Bool, List, [], ◌∷◌, ◌++◌, Result, Ok, Err}
use Rattle.tcl_words.specs.Spans.{word_of, command_from}
use Rattle.tcl_words.specs.declared.script.WordForm.{WordForm}
use Rattle.tcl_words.specs.declared.script.WordForm.TheVariants.{Bare, Quoted, Braced}
use Rattle.tcl_words.specs.declared.script.Piece.{Piece}
use Rattle.tcl_words.specs.declared.script.Piece.TheVariants.{Literal, Variable}
use Rattle.tcl_words.specs.declared.script.Word.{Word}
use Rattle.tcl_words.specs.declared.script.Command.{Command}
use Rattle.tcl_text.specs.declared.fault.ParseFault.{ParseFault}

pub record TextRest : Type 0 where
  -- to the literal
  pub bytes : List ℕ
  -- to the word or the index: its further pieces, and where the word ends
  pub pieces : List Piece
  pub end : ℕ
  -- to the command: its further words
  pub words : List Word
  -- to the script: its further commands
  pub commands : List Command
  -- where the script or the index ends
  pub close : ℕ

abbrev pub Read : Type 0
Read = Result TextRest ParseFault

-- a rest changed, where there is no fault in it
abbrev pub put : (TextRest → TextRest) → Read → Read
put change (Ok rest) = Ok (change rest)
put change (Err fault) = Err fault

-- the end of the script or of the index, and of a word that ends there
abbrev pub last_rest : ℕ → TextRest
last_rest at = record { bytes = []; pieces = []; end = at; words = []; commands = []; close = at }

-- a literal is a piece where it has bytes
abbrev pub literal_before : List ℕ → List Piece → List Piece
literal_before [] pieces = pieces
literal_before (b ∷ bytes) pieces = Literal (b ∷ bytes) ∷ pieces

-- the pieces of a word of this form that begins with these bytes; in braces they are all, and a piece also where there are none
abbrev pub word_pieces : WordForm → List ℕ → List Piece → List Piece
word_pieces Bare bytes pieces = literal_before bytes pieces
word_pieces Quoted bytes pieces = literal_before bytes pieces
word_pieces Braced bytes pieces = Literal bytes ∷ []

-- a piece, and then a literal
abbrev pub piece_before : Piece → TextRest → TextRest
piece_before own rest = record rest { bytes = []; pieces = own ∷ literal_before rest.bytes rest.pieces }

-- What is put in front of a rest.
pub data Change : Type 0 where
  -- bytes of the literal
  bytes : List ℕ → Change
  -- a variable of this name
  name : List ℕ → Change
  -- the brace or the quote that ends a word: what follows is not of its text
  text_ends : Change
  -- a word ends at this position, and its command may go on
  word_ends : ℕ → Change
  -- a command ends
  command_ends : Change
  -- a word of this form begins, perhaps with `{*}`, at this position
  word_begins : WordForm → Bool → ℕ → Change
  -- a command begins at this position
  command_begins : ℕ → Change

abbrev pub changed_by : Change → TextRest → TextRest
changed_by (bytes own) rest = record rest { bytes = own ++ rest.bytes }
changed_by (name own) rest = piece_before (Variable own) rest
changed_by text_ends rest = record rest { bytes = []; pieces = [] }
changed_by (word_ends at) rest = record rest { bytes = []; pieces = []; end = at }
changed_by command_ends rest = record rest { bytes = []; pieces = []; end = 0; words = [] }
changed_by (word_begins form expand start) rest = record rest {
  bytes = [];
  pieces = [];
  end = 0;
  words = word_of form expand start (word_pieces form rest.bytes rest.pieces) rest.end ∷ rest.words;
}
changed_by (command_begins start) rest = record rest {
  bytes = [];
  pieces = [];
  end = 0;
  words = [];
  commands = command_from start rest.words ∷ rest.commands;
}

-- the first of the changes stands first in the text
abbrev pub changed : List Change → TextRest → TextRest
changed [] rest = rest
changed (change ∷ changes) rest = changed_by change (changed changes rest)
