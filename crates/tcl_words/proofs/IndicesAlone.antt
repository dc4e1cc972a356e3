-- An index that was read within a text is read so by itself.
use Rattle.std.proofs.Common.{◌≡◌, ℕ, ◌+◌, ◌≤◌, true, List, [], ◌∷◌, ◌++◌, length, sym, ap, ◌∙◌, length-append, arith, Ok}
use Rattle.std.specs.List.{slice_range}
use Rattle.tcl_words.specs.Changes.{TextRest, put, last_rest, literal_before}
use Rattle.tcl_words.specs.Reading.{within, rest_of, index_pieces_of}
use Rattle.tcl_words.specs.Parts.{Whole, joined_parts, no_parts, parts_with_rest}
use Rattle.tcl_words.specs.Grammar.{leaves, ArePieces, IsInnerOf, IsIndexOf}
use Rattle.tcl_words.specs.declared.kind.Mode.TheVariants.{Parens}
use Rattle.tcl_words.specs.declared.kind.BytePlace.TheVariants.{Text}
use Rattle.tcl_words.specs.declared.script.Piece.{Piece}
use Rattle.tcl_words.proofs.Indices.{index-index_pieces_of}
use Rattle.tcl_words.proofs.Inners.{index_alone}
use Rattle.tcl_words.proofs.Joins.{slice_none}
use Rattle.tcl_words.proofs.NameLemmas.{slice_index_text}
use Rattle.tcl_words.proofs.PiecesRead.{GivesText, with_text, pieces_read}
use Rattle.tcl_words.proofs.ScriptsRead.{inner_reads}
use Rattle.tcl_words.proofs.StopLemmas.{paren_read}

pub index_by_itself : (room : ℕ) (own text : List ℕ) (pieces : List Piece) → room ≤ 200 → ArePieces (IsInnerOf room) true Parens (own ++ 41 ∷ text) pieces (leaves (41 ∷ text)) → IsIndexOf own pieces
index_by_itself room own text pieces small are =
    let opened : List ℕ = 40 ∷ (own ++ 41 ∷ text) in
    let g : GivesText (within room) Parens 1 (own ++ 41 ∷ text) pieces (41 ∷ text) = pieces_read true room Parens (inner_reads room) are 1 in
    let rest : TextRest = with_text g.bytes g.after (last_rest g.end) in
    let read : rest_of opened (within room) 1 (Text Parens) 0 ≡ Ok rest = g.is ∙ ap (put (with_text g.bytes g.after)) (paren_read room text g.end) in
    let whole : Whole = parts_with_rest (no_parts 1) opened (Text Parens) 1 rest in
    let alone = index_alone opened 0 room whole small (ap (joined_parts (no_parts 1) opened (Text Parens) 1) read) in
    let end : g.end ≡ 1 + length own = omega (arith, g.at_end, length-append own (41 ∷ text)) in
    let source : slice_range opened 1 g.end ≡ own = ap (slice_range opened 1) end ∙ slice_index_text [] own text in
    let are_pieces : whole.pieces ≡ pieces = ap (λ t. literal_before (t ++ g.bytes) g.after) (slice_none opened 1) ∙ g.joined in
    index-index_pieces_of own pieces (ap index_pieces_of (sym source) ∙ alone.0 ∙ ap (λ t. Ok t) are_pieces)
