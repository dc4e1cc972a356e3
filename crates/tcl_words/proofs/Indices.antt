-- The pieces that are read of an index are those of the grammar.
use Rattle.std.proofs.Common.{◌⊎◌, inl, inr, true, ◌∷◌, ◌≡◌, ℕ, false, List, [], refl, sym, ap, subst, ◌∙◌, Ok, Err}
use Rattle.tcl_words.specs.Reading.{pieces_in, index_pieces_of, outermost}
use Rattle.tcl_words.specs.Grammar.{TextEnding, leaves, fails, ends_body, ArePieces, IsInnerOf, IsIndexOf, IsIndexFault}
use Rattle.tcl_words.specs.declared.kind.Mode.TheVariants.{Parens}
use Rattle.tcl_words.specs.declared.script.Piece.{Piece}
use Rattle.tcl_text.specs.declared.fault.ParseFault.{ParseFault}
use Rattle.tcl_words.proofs.PiecesRead.{GivesText, GivesPieces, pieces_read}
use Rattle.tcl_words.proofs.ScriptsRead.{inner_reads}
use Rattle.tcl_words.proofs.PiecesCut.{IsPiecesCut, pieces_found}
use Rattle.tcl_words.proofs.ScriptsCut.{inner_cuts}

abbrev IsCut : List ℕ → List Piece → TextEnding → Type 0
IsCut text pieces ending = ArePieces (IsInnerOf 200) false Parens text pieces ending

pub index_pieces_of-index : (text : List ℕ) (pieces : List Piece) → IsIndexOf text pieces → index_pieces_of text ≡ Ok pieces
index_pieces_of-index text pieces are =
    let g : GivesText outermost Parens 0 text pieces [] = pieces_read false 200 Parens (inner_reads 200) are.cut 0 in
    ap pieces_in g.is ∙ ap (λ t. Ok t) g.joined

pub index_pieces_of-fault : (text : List ℕ) (fault : ParseFault) → IsIndexFault text fault → index_pieces_of text ≡ Err fault
index_pieces_of-fault text fault told =
    let g : GivesPieces outermost Parens 0 text told.pieces (fails fault) = pieces_read false 200 Parens (inner_reads 200) told.cut 0 in
    ap pieces_in g

-- an index that is read by itself ends where its text does
ends_there : (left : List ℕ) → ends_body false Parens left ≡ true → left ≡ []
ends_there [] h = refl
ends_there (b ∷ left) h = cc

index_cut : (text : List ℕ) (found : List Piece) (ending : TextEnding) → IsCut text found ending → IsPiecesCut false Parens text ending → IsIndexOf text found ⊎ ((fault : ParseFault) × IsIndexFault text fault)
index_cut text found (leaves left) are (own, e, h) = inl (record { cut = subst (λ l. IsCut text found (leaves l)) (ends_there left h) are })
index_cut text found (fails fault) are cut = inr (fault, record { pieces = found; cut = are })

-- each text is an index or has a fault
index_or_fault : (text : List ℕ) → ((pieces : List Piece) × IsIndexOf text pieces) ⊎ ((fault : ParseFault) × IsIndexFault text fault)
index_or_fault text =
    let found = pieces_found 200 false Parens (inner_cuts 200) text in
    elim (index_cut text found.pieces found.ending found.are found.cut) [ inl are ↦ inl (found.pieces, are) | inr told ↦ inr told ]

index_at : (text : List ℕ) (pieces : List Piece) → ((found : List Piece) × IsIndexOf text found) ⊎ ((fault : ParseFault) × IsIndexFault text fault) → index_pieces_of text ≡ Ok pieces → IsIndexOf text pieces
index_at text pieces (inl (found, are)) h =
    let k : Ok found ≡ Ok pieces = sym (index_pieces_of-index text found are) ∙ h in
    let same : found ≡ pieces = cc in
    subst (IsIndexOf text) same are
index_at text pieces (inr (fault, told)) h = let k : Err fault ≡ Ok pieces = sym (index_pieces_of-fault text fault told) ∙ h in cc

pub index-index_pieces_of : (text : List ℕ) (pieces : List Piece) → index_pieces_of text ≡ Ok pieces → IsIndexOf text pieces
index-index_pieces_of text pieces h = index_at text pieces (index_or_fault text) h

fault_at : (text : List ℕ) (fault : ParseFault) → ((found : List Piece) × IsIndexOf text found) ⊎ ((other : ParseFault) × IsIndexFault text other) → index_pieces_of text ≡ Err fault → IsIndexFault text fault
fault_at text fault (inl (found, are)) h = let k : Ok found ≡ Err fault = sym (index_pieces_of-index text found are) ∙ h in cc
fault_at text fault (inr (other, told)) h =
    let k : Err other ≡ Err fault = sym (index_pieces_of-fault text other told) ∙ h in
    let same : other ≡ fault = cc in
    subst (IsIndexFault text) same told

pub fault-index_pieces_of : (text : List ℕ) (fault : ParseFault) → index_pieces_of text ≡ Err fault → IsIndexFault text fault
fault-index_pieces_of text fault h = fault_at text fault (index_or_fault text) h
