-- Steps. What is kept in place, or in memory of its own, as words, commands and lists.
use Rattle.std.specs.Prelude.{Bool, true, false, List, [], ◌∷◌}
use Rattle.tcl_words.specs.Parsed.{ParsedWord, ParsedCommand}
use Rattle.tcl_words.specs.declared.script.WordForm.{WordForm}
use Rattle.tcl_words.specs.declared.script.WordForm.TheVariants.{Braced as BracedForm, Quoted as QuotedForm, Bare as BareForm}
use Rattle.tcl_words.specs.declared.script.Look.{Look}
use Rattle.tcl_words.specs.declared.script.Look.TheVariants.{Braced, Quoted, Bare, ExpandedBraced, ExpandedQuoted, ExpandedBare}
use Rattle.tcl_words.specs.declared.script.WordLayout.{WordLayout}
use Rattle.tcl_words.specs.declared.script.WordLayout.TheVariants.{One as OnePieceWord, Many as ManyPiecesWord}
use Rattle.tcl_words.specs.declared.script.Piece.{Piece}
use Rattle.tcl_words.specs.declared.script.PieceList.{PieceList}
use Rattle.tcl_words.specs.declared.script.PieceList.TheVariants.{One as OnePiece, Many as ManyPieces}
use Rattle.tcl_words.specs.declared.script.CommandLayout.{CommandLayout}
use Rattle.tcl_words.specs.declared.script.CommandLayout.TheVariants.{One as OneWordCommand, Many as ManyWordsCommand}
use Rattle.tcl_words.specs.declared.script.CommandList.{CommandList}
use Rattle.tcl_words.specs.declared.script.CommandList.TheVariants.{Empty, One as OneCommand, Many as ManyCommands}

abbrev pub form_of : Look → WordForm
form_of Braced = BracedForm
form_of Quoted = QuotedForm
form_of Bare = BareForm
form_of ExpandedBraced = BracedForm
form_of ExpandedQuoted = QuotedForm
form_of ExpandedBare = BareForm

abbrev pub expands : Look → Bool
expands Braced = false
expands Quoted = false
expands Bare = false
expands ExpandedBraced = true
expands ExpandedQuoted = true
expands ExpandedBare = true

abbrev pub word_kept : WordLayout → ParsedWord
word_kept (OnePieceWord look span piece) = record { form = form_of look; expand = expands look; span = span; pieces = piece ∷ [] }
word_kept (ManyPiecesWord look span pieces) = record { form = form_of look; expand = expands look; span = span; pieces = pieces.items }

abbrev pub piece_items : PieceList → List Piece
piece_items (OnePiece piece) = piece ∷ []
piece_items (ManyPieces pieces) = pieces.items

abbrev pub command_kept : CommandLayout → ParsedCommand
command_kept (OneWordCommand span word) = record { span = span; words = word ∷ [] }
command_kept (ManyWordsCommand span words) = record { span = span; words = words.items }

abbrev pub command_items : CommandList → List ParsedCommand
command_items Empty = []
command_items (OneCommand command) = command.value ∷ []
command_items (ManyCommands commands) = commands.value.items
