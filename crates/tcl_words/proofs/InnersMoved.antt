-- Scripts in brackets and indices are the same whatever follows them.
use Rattle.std.proofs.Common.{◌≡◌, ℕ, suc, ◌+◌, true, List, [], ◌∷◌, ◌++◌, length, refl, sym, ap, subst, ◌∙◌, length-append, arith, Ok, Err}
use Rattle.tcl_words.specs.Changes.{TextRest, put, last_rest}
use Rattle.tcl_words.specs.Reading.{rest_of, within}
use Rattle.tcl_words.specs.Grammar.{TextEnding, leaves, fails, script, index, ArePieces, IsInnerOf, IsScript}
use Rattle.tcl_words.specs.declared.kind.Mode.TheVariants.{Parens}
use Rattle.tcl_words.specs.declared.kind.BytePlace.{BytePlace}
use Rattle.tcl_words.specs.declared.kind.BytePlace.TheVariants.{Start, Text}
use Rattle.tcl_words.specs.declared.script.Piece.{Piece}
use Rattle.tcl_words.specs.declared.script.Command.{Command}
use Rattle.tcl_words.proofs.StopLemmas.{paren_read}
use Rattle.tcl_words.proofs.PiecesRead.{GivesText, with_text, pieces_read}
use Rattle.tcl_words.proofs.ScriptsRead.{GivesLeft, script_read, inner_reads}
use Rattle.tcl_words.proofs.PiecesCut.{IsPiecesCut, pieces_found}
use Rattle.tcl_words.proofs.ScriptsCut.{IsScriptCut, script_found, inner_cuts, index_left}
use Rattle.tcl_words.proofs.Alone.{closed}

-- two cuts of a text at the same place
pub same_cut : (a b s t : List ℕ) → a ++ s ≡ b ++ t → length a ≡ length b → (a ≡ b) × (s ≡ t)
same_cut [] [] s t e m = (refl, e)
same_cut [] (y ∷ b) s t e m = absurd (omega (arith, m))
same_cut (x ∷ a) [] s t e m = absurd (omega (arith, m))
same_cut (x ∷ a) (y ∷ b) s t e m =
    let k : length a ≡ length b = omega (arith, m) in
    let heads : x ≡ y = cc in
    let tails : a ++ s ≡ b ++ t = cc in
    let more = same_cut a b s t tails k in
    (ap (λ c. c ∷ a) heads ∙ ap (λ l. y ∷ l) more.0, more.1)

pub same_rest : (a b s t : List ℕ) → a ++ s ≡ b ++ t → length s ≡ length t → (a ≡ b) × (s ≡ t)
same_rest a b s t e m = let k : length a ≡ length b = omega (arith, m, ap length e, length-append a s, length-append b t) in same_cut a b s t e k

-- what was read up to a closer is read before any other text behind it
read_again : (own text other : List ℕ) (c room : ℕ) (place : BytePlace) (at : ℕ) (rest : TextRest) → rest_of (own ++ c ∷ text) (within room) 0 place at ≡ Ok rest → rest.close ≡ at + length own →
    rest_of (own ++ c ∷ other) (within room) 0 place at ≡ Ok rest
read_again own text other c room place at rest e m =
    let cut = closed (own ++ c ∷ text) room 0 place at rest e in
    let k : length own ≡ length cut.inner = omega (arith, m, cut.close_at) in
    let same = same_cut own cut.inner (c ∷ text) (cut.closer ∷ cut.after) cut.text_is k in
    let closers : c ≡ cut.closer = closer_is text cut.after c cut.closer same.1 in
    ap (λ o. rest_of (o ++ c ∷ other) (within room) 0 place at) same.0
    ∙ ap (λ d. rest_of (cut.inner ++ d ∷ other) (within room) 0 place at) closers
    ∙ cut.again other room (omega arith)
  where
    closer_is : (s t : List ℕ) (x y : ℕ) → x ∷ s ≡ y ∷ t → x ≡ y
    closer_is s t x y f = cc

script_again : (room : ℕ) (own other : List ℕ) (commands : List Command) (ending : TextEnding) (rest : TextRest) → rest_of (own ++ 93 ∷ other) (within room) 0 Start 0 ≡ Ok rest → rest.close ≡ length own →
    IsScript (IsInnerOf room) true 0 (own ++ 93 ∷ other) commands ending → IsScriptCut true (own ++ 93 ∷ other) ending → IsInnerOf (suc room) script (own ++ 93 ∷ other) (leaves (93 ∷ other))
script_again room own other commands (fails fault) rest e m is cut =
    let g : rest_of (own ++ 93 ∷ other) (within room) 0 Start 0 ≡ Err fault = script_read true room (inner_reads room) commands (fails fault) 0 (own ++ 93 ∷ other) is in
    let k : Ok rest ≡ Err fault = sym e ∙ g in cc
script_again room own other commands (leaves left) rest e m is (front, f, h) =
    let g : GivesLeft (rest_of (own ++ 93 ∷ other) (within room) 0 Start 0) (0 + length (own ++ 93 ∷ other)) [] commands left = script_read true room (inner_reads room) commands (leaves left) 0 (own ++ 93 ∷ other) is in
    let k : Ok rest ≡ Ok g.rest = sym e ∙ g.is in
    let same : rest ≡ g.rest = cc in
    let n : length (93 ∷ other) ≡ length left = omega (arith, m, ap (λ r. r.close) same, g.at_close, length-append own (93 ∷ other)) in
    let cut = same_rest own front (93 ∷ other) left f n in
    (commands, subst (λ l. IsScript (IsInnerOf room) true 0 (own ++ 93 ∷ other) commands (leaves l)) (sym cut.1) is)

pub script_moved : (room : ℕ) (own text other : List ℕ) → IsInnerOf (suc room) script (own ++ 93 ∷ text) (leaves (93 ∷ text)) → IsInnerOf (suc room) script (own ++ 93 ∷ other) (leaves (93 ∷ other))
script_moved room own text other (commands, h) =
    let g : GivesLeft (rest_of (own ++ 93 ∷ text) (within room) 0 Start 0) (0 + length (own ++ 93 ∷ text)) [] commands (93 ∷ text) = script_read true room (inner_reads room) commands (leaves (93 ∷ text)) 0 (own ++ 93 ∷ text) h in
    let m : g.rest.close ≡ length own = omega (arith, g.at_close, length-append own (93 ∷ text)) in
    let n : g.rest.close ≡ 0 + length own = omega (arith, m) in
    let found = script_found room true (inner_cuts room) 0 (own ++ 93 ∷ other) in
    script_again room own other found.commands found.ending g.rest (read_again own text other 93 room Start 0 g.rest g.is n) m found.is found.cut

index_again : (room : ℕ) (own other : List ℕ) (pieces : List Piece) (ending : TextEnding) (rest : TextRest) → rest_of (own ++ 41 ∷ other) (within room) 0 (Text Parens) 0 ≡ Ok rest → rest.close ≡ length own →
    ArePieces (IsInnerOf room) true Parens (own ++ 41 ∷ other) pieces ending → IsPiecesCut true Parens (own ++ 41 ∷ other) ending → IsInnerOf (suc room) index (own ++ 41 ∷ other) (leaves (41 ∷ other))
index_again room own other pieces (fails fault) rest e m are cut =
    let g : rest_of (own ++ 41 ∷ other) (within room) 0 (Text Parens) 0 ≡ Err fault = pieces_read true room Parens (inner_reads room) are 0 in
    let k : Ok rest ≡ Err fault = sym e ∙ g in cc
index_again room own other pieces (leaves left) rest e m are (front, f, h) =
    let g : GivesText (within room) Parens 0 (own ++ 41 ∷ other) pieces left = pieces_read true room Parens (inner_reads room) are 0 in
    let more = index_left left h in
    let r : rest_of left (within room) 0 (Text Parens) g.end ≡ Ok (last_rest g.end) = ap (λ l. rest_of l (within room) 0 (Text Parens) g.end) more.1 ∙ paren_read room more.0 g.end in
    let k : Ok rest ≡ Ok (with_text g.bytes g.after (last_rest g.end)) = sym e ∙ g.is ∙ ap (put (with_text g.bytes g.after)) r in
    let same : rest ≡ with_text g.bytes g.after (last_rest g.end) = cc in
    let n : length (41 ∷ other) ≡ length left = omega (arith, m, ap (λ q. q.close) same, g.at_end, length-append own (41 ∷ other)) in
    let cut = same_rest own front (41 ∷ other) left f n in
    (pieces, subst (λ l. ArePieces (IsInnerOf room) true Parens (own ++ 41 ∷ other) pieces (leaves l)) (sym cut.1) are)

pub index_moved : (room : ℕ) (own text other : List ℕ) → IsInnerOf (suc room) index (own ++ 41 ∷ text) (leaves (41 ∷ text)) → IsInnerOf (suc room) index (own ++ 41 ∷ other) (leaves (41 ∷ other))
index_moved room own text other (pieces, h) =
    let g : GivesText (within room) Parens 0 (own ++ 41 ∷ text) pieces (41 ∷ text) = pieces_read true room Parens (inner_reads room) h 0 in
    let rest : TextRest = with_text g.bytes g.after (last_rest g.end) in
    let e : rest_of (own ++ 41 ∷ text) (within room) 0 (Text Parens) 0 ≡ Ok rest = g.is ∙ ap (put (with_text g.bytes g.after)) (paren_read room text g.end) in
    let m : g.end ≡ length own = omega (arith, g.at_end, length-append own (41 ∷ text)) in
    let n : g.end ≡ 0 + length own = omega (arith, m) in
    let found = pieces_found room true Parens (inner_cuts room) (own ++ 41 ∷ other) in
    index_again room own other found.pieces found.ending rest (read_again own text other 41 room (Text Parens) 0 rest e n) m found.are found.cut
