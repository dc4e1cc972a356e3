-- Steps. How deep the parts of a script go into one another, for the scripts in brackets and the indices that
-- they hold: each is read from a shorter text than the script that holds it.
use Rattle.std.specs.Prelude.{ℕ, ◌+◌, ◌*◌, max, List, [], ◌∷◌, length}
use Rattle.tcl_words.specs.declared.script.Piece.{Piece}
use Rattle.tcl_words.specs.declared.script.Piece.TheVariants.{Literal, Variable, Element, Bracket}
use Rattle.tcl_words.specs.declared.script.Word.{Word}
use Rattle.tcl_words.specs.declared.script.Command.{Command}

-- more than the parts of a script of this text need
abbrev pub text_room : List ℕ → ℕ
text_room text = 3 * length text + 3

abbrev pub piece_room : Piece → ℕ
piece_room (Literal text) = 0
piece_room (Variable name) = 0
piece_room (Element name index) = text_room index + 1
piece_room (Bracket script) = text_room script + 1

abbrev pub pieces_room : List Piece → ℕ
pieces_room [] = 0
pieces_room (piece ∷ pieces) = max (piece_room piece) (pieces_room pieces)

abbrev pub word_room : Word → ℕ
word_room word = pieces_room word.pieces

abbrev pub words_room : List Word → ℕ
words_room [] = 0
words_room (word ∷ words) = max (pieces_room word.pieces + 1) (words_room words)

abbrev pub command_room : Command → ℕ
command_room command = words_room command.words

abbrev pub commands_room : List Command → ℕ
commands_room [] = 0
commands_room (command ∷ commands) = max (words_room command.words + 1) (commands_room commands)
