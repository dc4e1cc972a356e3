-- An index is what is read of its text.
use Rattle.std.proofs.Common.{◌≡◌, ℕ, List}
use Rattle.tcl_words.specs.Reading.{index_pieces_of}
use Rattle.tcl_words.proofs.Parses.{index_parse_is_read, one_index_parse}
use Rattle.tcl_interp.specs.Evaluation.{index_pieces}

pub index_walk : (text : List ℕ) → index_pieces text ≡ index_pieces_of text
unfolding index_pieces
index_walk text = index_parse_is_read text (one_index_parse text).it (one_index_parse text).holds
