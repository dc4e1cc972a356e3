-- Steps. Each script in brackets and each index is of less room than what holds it.
use Rattle.std.specs.Prelude.{◌≤◌, ◌<◌, ◌+◌, List, [], ◌∷◌}
use Rattle.std.proofs.Common.{arith}
use denote.Param.Weighed.{most}
use Rattle.tcl_words.specs.Parsed.{ParsedWord, ParsedCommand}
use Rattle.tcl_words.specs.Room.{text_room, piece_room, pieces_room, words_room, commands_room, word_room, command_room}
use Rattle.tcl_words.specs.declared.script.Piece.{Piece}
use Rattle.tcl_words.specs.declared.script.Piece.TheVariants.{Literal, Variable, Element, Bracket}
use Rattle.tcl_words.specs.Lists.{piece_items, word_kept, command_kept, command_items}
use Rattle.tcl_words.specs.declared.script.PieceList.{PieceList}
use Rattle.tcl_words.specs.declared.script.PieceList.TheVariants.{One as OnePiece, Many as ManyPieces}
use Rattle.tcl_words.specs.declared.script.WordLayout.{WordLayout}
use Rattle.tcl_words.specs.declared.script.WordLayout.TheVariants.{One as OnePieceWord, Many as ManyPiecesWord}
use Rattle.tcl_words.specs.declared.script.CommandLayout.{CommandLayout}
use Rattle.tcl_words.specs.declared.script.CommandLayout.TheVariants.{One as OneWordCommand, Many as ManyWordsCommand}
use Rattle.tcl_words.specs.declared.script.CommandList.{CommandList}
use Rattle.tcl_words.specs.declared.script.CommandList.TheVariants.{Empty, One as OneCommand, Many as ManyCommands}
use Rattle.tcl_words.specs.declared.script.Pieces.TheInside.{Inside as PiecesInside}
use Rattle.tcl_words.specs.declared.script.Word.TheInside.{Inside as WordInside}
use Rattle.tcl_words.specs.declared.script.Command.TheInside.{Inside as CommandInside}
use Rattle.tcl_words.specs.declared.script.Index.TheInside.{Inside as IndexInside}
use Rattle.tcl_words.specs.declared.script.Script.TheInside.{Inside as ScriptInside}
use Rattle.tcl_words.specs.declared.script.Command.TheDeep.{deep-Piece, deep-PieceList, deep-Word, deep-WordLayout, deep-Command, deep-CommandLayout, deep-CommandList, deep-Pieces, deep-Index, deep-Script}

piece_most : (piece : Piece) → deep-Piece piece ≤ piece_room piece
piece_most (Literal text) = omega arith
piece_most (Variable name) = omega arith
piece_most (Element name index) = omega arith
piece_most (Bracket script) = omega arith

pieces_most : (pieces : List Piece) → most deep-Piece pieces ≤ pieces_room pieces
pieces_most [] = omega arith
pieces_most (piece ∷ pieces) = omega (arith, piece_most piece, pieces_most pieces)

words_most : (words : List ParsedWord) → most (λ word. word_room word + 1) words ≤ words_room words
words_most [] = omega arith
words_most (word ∷ words) = omega (arith, words_most words)

commands_most : (commands : List ParsedCommand) → most (λ command. command_room command + 1) commands ≤ commands_room commands
commands_most [] = omega arith
commands_most (command ∷ commands) = omega (arith, commands_most commands)

piece_list_most : (list : PieceList) → deep-PieceList list ≤ pieces_room (piece_items list)
piece_list_most (OnePiece piece) = omega (arith, piece_most piece)
piece_list_most (ManyPieces pieces) = omega (arith, pieces_most pieces.items)

word_layout_most : (layout : WordLayout) → deep-WordLayout layout ≤ word_room (word_kept layout)
word_layout_most (OnePieceWord look span piece) = omega (arith, piece_most piece)
word_layout_most (ManyPiecesWord look span pieces) = omega (arith, pieces_most pieces.items)

command_layout_most : (layout : CommandLayout) → deep-CommandLayout layout ≤ command_room (command_kept layout)
command_layout_most (OneWordCommand span word) = omega arith
command_layout_most (ManyWordsCommand span words) = omega (arith, words_most words.items)

command_list_most : (list : CommandList) → deep-CommandList list ≤ commands_room (command_items list)
command_list_most Empty = omega arith
command_list_most (OneCommand command) = omega arith
command_list_most (ManyCommands commands) = omega (arith, commands_most commands.value.items)

pub pieces_fall : (a : PiecesInside) → deep-Pieces a ≤ pieces_room (piece_items a.list)
pieces_fall a = omega (arith, piece_list_most a.list)

pub word_falls : (a : WordInside) → deep-Word a ≤ word_room (word_kept a.layout)
word_falls a = omega (arith, word_layout_most a.layout)

pub command_falls : (a : CommandInside) → deep-Command a ≤ command_room (command_kept a.layout)
command_falls a = omega (arith, command_layout_most a.layout)

pub index_falls : (a : IndexInside) → pieces_room a.parsed.value.pieces < text_room a.parsed.value.text → deep-Index a ≤ text_room a.parsed.value.text
index_falls a h = omega arith

pub script_falls : (a : ScriptInside) → commands_room (command_items a.commands) ≤ text_room a.text → deep-Script a ≤ text_room a.text
script_falls a h = omega (arith, command_list_most a.commands)
