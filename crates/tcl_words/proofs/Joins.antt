-- What was read joined with a rest of the text: how bytes and parts go over from the rest to what was read.
use Rattle.std.proofs.Common.{◌≡◌, ℕ, ◌+◌, ◌-◌, ◌<◌, ◌≤◌, Bool, List, [], ◌∷◌, ◌++◌, length, take, drop, refl, sym, ap, ◌∙◌, append_assoc, append-nil, arith, Ok, Err, slice_index}
use Rattle.std.specs.List.{slice_range}
use Rattle.std.proofs.lemmas.List.{drop-drop, length-append, length-drop, length-take-le}
use Rattle.std.proofs.lemmas.List.Edits.{between_more, between_none}
use Rattle.std.proofs.Math.Seq.{take-add}
use Rattle.tcl_words.specs.Changes.{TextRest, Read, put, piece_before, literal_before, bytes, text_ends, word_ends, command_ends, word_begins, command_begins, changed, changed_by}
use Rattle.tcl_words.specs.Parts.{Parts, joined_parts, with_word, with_command, with_piece, with_literal, with_braced, so_far}
use Rattle.tcl_words.specs.declared.kind.BytePlace.TheVariants.{Start, Between, Text, PastQuotes, InBraces, PastBraces}
use Rattle.tcl_words.specs.declared.kind.Mode.{Mode}
use Rattle.tcl_words.specs.declared.kind.Mode.TheVariants.{Bare, Quotes, Parens}
use Rattle.tcl_words.specs.declared.script.WordForm.TheVariants.{Bare as BareForm, Quoted as QuotedForm, Braced as BracedForm}
use Rattle.tcl_words.specs.declared.script.Piece.{Piece}
use Rattle.tcl_words.specs.declared.script.Piece.TheVariants.{Literal}

pub slice_none : (s : List ℕ) (at : ℕ) → slice_range s at at ≡ []
slice_none s at = between_none s at

pub slice_one : (s : List ℕ) (at b : ℕ) → at < length s → slice_index s at ≡ b → slice_range s at (at + 1) ≡ b ∷ []
slice_one s at b lt e = between_more s at at 0 (omega arith) lt ∙ ap (λ t. t ++ slice_index s at ∷ []) (slice_none s at) ∙ ap (λ x. x ∷ []) e

pub slice_split : (s : List ℕ) (mark stop at : ℕ) → mark ≤ stop → stop ≤ at → slice_range s mark at ≡ slice_range s mark stop ++ slice_range s stop at
slice_split s mark stop at h k =
    let e : at - mark ≡ (stop - mark) + (at - stop) = omega arith in
    let m : mark + (stop - mark) ≡ stop = omega arith in
    ap (λ n. take n (drop mark s)) e
    ∙ take-add (stop - mark) (at - stop) (drop mark s)
    ∙ ap (λ t. slice_range s mark stop ++ take (at - stop) t) (drop-drop (stop - mark) mark s ∙ ap (λ n. drop n s) m)

-- the first bytes of what stands behind a position
pub slice_behind : (s : List ℕ) (from n : ℕ) → slice_range s from (from + n) ≡ take n (drop from s)
slice_behind s from n = let e : from + n - from ≡ n = omega arith in ap (λ k. take k (drop from s)) e

pub literal_before-append : (own : List ℕ) (pieces : List Piece) → literal_before own pieces ≡ literal_before own [] ++ pieces
literal_before-append [] pieces = refl
literal_before-append (b ∷ own) pieces = refl

-- a literal that has bytes is a piece
pub literal_alone : (own : List ℕ) → 0 < length own → literal_before own [] ≡ Literal own ∷ []
literal_alone (b ∷ own) h = refl
literal_alone [] h = absurd (omega arith)

-- the open literal has bytes where some are kept, or some of the source's are to come
pub kept_bytes : (p : Parts) (s : List ℕ) (at : ℕ) → 0 < length p.literal → 0 < length (so_far p s at)
kept_bytes p s at h = rw (length-append p.literal (slice_range s p.mark at)) (omega arith)

pub coming_bytes : (p : Parts) (s : List ℕ) (at : ℕ) → p.mark < at → at ≤ length s → 0 < length (so_far p s at)
coming_bytes p s at h k =
    let e : length (slice_range s p.mark at) ≡ at - p.mark = length-take-le (at - p.mark) (drop p.mark s) (rw (length-drop p.mark s) (omega arith)) in
    rw (length-append p.literal (slice_range s p.mark at)) (omega arith)

-- bytes of the literal as the source has them
pub over : (p : Parts) (s : List ℕ) (at end : ℕ) (own rest : List ℕ) → p.mark ≤ at → at ≤ end → slice_range s at end ≡ own → so_far p s at ++ (own ++ rest) ≡ so_far p s end ++ rest
over p s at end own rest h k e =
    append_assoc p.literal (slice_range s p.mark at) (own ++ rest)
    ∙ ap (λ t. p.literal ++ t) (sym (append_assoc (slice_range s p.mark at) own rest) ∙ ap (λ t. t ++ rest) (ap (λ t. slice_range s p.mark at ++ t) (sym e) ∙ sym (slice_split s p.mark at end h k)))
    ∙ sym (append_assoc p.literal (slice_range s p.mark end) rest)

pub text_bytes : (p : Parts) (s : List ℕ) (mode : Mode) (at end : ℕ) (own : List ℕ) (r : Read) → p.mark ≤ at → at ≤ end → slice_range s at end ≡ own →
    joined_parts p s (Text mode) at (put (changed (bytes own ∷ [])) r) ≡ joined_parts p s (Text mode) end r
text_bytes p s Bare at end own (Ok rest) h k e = rw (over p s at end own rest.bytes h k e) refl
text_bytes p s Quotes at end own (Ok rest) h k e = rw (over p s at end own rest.bytes h k e) refl
text_bytes p s Parens at end own (Ok rest) h k e = rw (over p s at end own rest.bytes h k e) refl
text_bytes p s mode at end own (Err fault) h k e = refl

pub brace_bytes : (p : Parts) (s : List ℕ) (depth next at end : ℕ) (own : List ℕ) (r : Read) → p.mark ≤ at → at ≤ end → slice_range s at end ≡ own →
    joined_parts p s (InBraces depth) at (put (changed (bytes own ∷ [])) r) ≡ joined_parts p s (InBraces next) end r
brace_bytes p s depth next at end own (Ok rest) h k e = rw (over p s at end own rest.bytes h k e) refl
brace_bytes p s depth next at end own (Err fault) h k e = refl

-- bytes of the literal that the source writes otherwise
pub otherwise : (p : Parts) (s : List ℕ) (at end : ℕ) (own rest : List ℕ) → so_far p s at ++ (own ++ rest) ≡ ((so_far p s at ++ own) ++ slice_range s end end) ++ rest
otherwise p s at end own rest = simp (slice_none, append-nil, append_assoc)

pub text_meant : (p : Parts) (s : List ℕ) (mode : Mode) (at end : ℕ) (own : List ℕ) (r : Read) →
    joined_parts p s (Text mode) at (put (changed (bytes own ∷ [])) r) ≡ joined_parts (record p { literal = so_far p s at ++ own; mark = end }) s (Text mode) end r
text_meant p s Bare at end own (Ok rest) = rw (otherwise p s at end own rest.bytes) refl
text_meant p s Quotes at end own (Ok rest) = rw (otherwise p s at end own rest.bytes) refl
text_meant p s Parens at end own (Ok rest) = rw (otherwise p s at end own rest.bytes) refl
text_meant p s mode at end own (Err fault) = refl

pub brace_meant : (p : Parts) (s : List ℕ) (depth at end : ℕ) (own : List ℕ) (r : Read) →
    joined_parts p s (InBraces depth) at (put (changed (bytes own ∷ [])) r) ≡ joined_parts (record p { literal = so_far p s at ++ own; mark = end }) s (InBraces depth) end r
brace_meant p s depth at end own (Ok rest) = rw (otherwise p s at end own rest.bytes) refl
brace_meant p s depth at end own (Err fault) = refl

-- a piece, and before it the literal that is open
piece_over : (p : Parts) (s : List ℕ) (at end : ℕ) (own : Piece) (rest : TextRest) →
    p.pieces ++ literal_before (so_far p s at ++ []) (own ∷ literal_before rest.bytes rest.pieces)
    ≡ ((p.pieces ++ literal_before (so_far p s at) []) ++ own ∷ []) ++ literal_before (([] ++ slice_range s end end) ++ rest.bytes) rest.pieces
piece_over p s at end own rest =
    rw (append-nil (so_far p s at), slice_none s end)
    (ap (λ t. p.pieces ++ t) (literal_before-append (so_far p s at) (own ∷ literal_before rest.bytes rest.pieces)) ∙ simp append_assoc)

pub text_piece : (p : Parts) (s : List ℕ) (mode : Mode) (at end : ℕ) (own : Piece) (r : Read) →
    joined_parts p s (Text mode) at (put (piece_before own) r) ≡ joined_parts (with_piece (with_literal p s at) own end) s (Text mode) end r
text_piece p s Bare at end own (Ok rest) = rw (piece_over p s at end own rest) refl
text_piece p s Quotes at end own (Ok rest) = rw (piece_over p s at end own rest) refl
text_piece p s Parens at end own (Ok rest) = rw (piece_over p s at end own rest) refl
text_piece p s mode at end own (Err fault) = refl

-- the same, where the piece is what a bracket or a parenthesis opened
pub text_opened : (p : Parts) (s : List ℕ) (mode : Mode) (at end : ℕ) (own : Piece) (r : Read) →
    joined_parts p s (Text mode) at (put (changed []) (put (piece_before own) r)) ≡ joined_parts (with_piece (with_literal p s at) own end) s (Text mode) end r
text_opened p s mode at end own (Ok rest) = text_piece p s mode at end own (Ok rest)
text_opened p s mode at end own (Err fault) = refl

-- a text ends, and with it its last literal
text_over : (p : Parts) (s : List ℕ) (at : ℕ) → p.pieces ++ literal_before (so_far p s at ++ []) [] ≡ (p.pieces ++ literal_before (so_far p s at) []) ++ []
text_over p s at = simp append-nil

pub bare_ended : (p : Parts) (s : List ℕ) (at next : ℕ) (r : Read) → joined_parts p s (Text Bare) at (put (changed_by text_ends) r) ≡ joined_parts (with_literal p s at) s PastBraces next r
bare_ended p s at next (Ok rest) = rw (text_over p s at) refl
bare_ended p s at next (Err fault) = refl

pub quotes_ended : (p : Parts) (s : List ℕ) (at next : ℕ) (r : Read) → joined_parts p s (Text Quotes) at (put (changed (text_ends ∷ [])) r) ≡ joined_parts (with_literal p s at) s PastQuotes next r
quotes_ended p s at next (Ok rest) = rw (text_over p s at) refl
quotes_ended p s at next (Err fault) = refl

pub braces_ended : (p : Parts) (s : List ℕ) (at next : ℕ) (r : Read) → joined_parts p s (InBraces 0) at (put (changed (text_ends ∷ [])) r) ≡ joined_parts (with_braced p s at) s PastBraces next r
braces_ended p s at next (Ok rest) = rw (append-nil (so_far p s at), append-nil (p.pieces ++ Literal (so_far p s at) ∷ [])) refl
braces_ended p s at next (Err fault) = refl

pub word_ended : (p : Parts) (s : List ℕ) (at here next : ℕ) (r : Read) → joined_parts p s PastBraces here (put (changed_by (word_ends at)) r) ≡ joined_parts (with_word p at) s Between next r
word_ended p s at here next (Ok rest) = simp (append-nil, append_assoc)
word_ended p s at here next (Err fault) = refl

pub command_ended : (p : Parts) (s : List ℕ) (here next : ℕ) (r : Read) → joined_parts p s Between here (put (changed_by command_ends) r) ≡ joined_parts (with_command p) s Start next r
command_ended p s here next (Ok rest) = simp (append-nil, append_assoc)
command_ended p s here next (Err fault) = refl

pub bare_begun : (p : Parts) (s : List ℕ) (expand : Bool) (start here at : ℕ) (r : Read) →
    joined_parts p s Between here (put (changed_by (word_begins BareForm expand start)) r) ≡ joined_parts (record p { word_start = start; form = BareForm; expand = expand; pieces = []; literal = []; mark = at }) s (Text Bare) at r
bare_begun p s expand start here at (Ok rest) = rw (slice_none s at) refl
bare_begun p s expand start here at (Err fault) = refl

pub quotes_begun : (p : Parts) (s : List ℕ) (expand : Bool) (start here at : ℕ) (r : Read) →
    joined_parts p s Between here (put (changed (word_begins QuotedForm expand start ∷ [])) r) ≡ joined_parts (record p { word_start = start; form = QuotedForm; expand = expand; pieces = []; literal = []; mark = at }) s (Text Quotes) at r
quotes_begun p s expand start here at (Ok rest) = rw (slice_none s at) refl
quotes_begun p s expand start here at (Err fault) = refl

pub braces_begun : (p : Parts) (s : List ℕ) (expand : Bool) (start here at : ℕ) (r : Read) →
    joined_parts p s Between here (put (changed (word_begins BracedForm expand start ∷ [])) r) ≡ joined_parts (record p { word_start = start; form = BracedForm; expand = expand; pieces = []; literal = []; mark = at }) s (InBraces 0) at r
braces_begun p s expand start here at (Ok rest) = rw (slice_none s at) refl
braces_begun p s expand start here at (Err fault) = refl

pub command_begun : (p : Parts) (s : List ℕ) (start here at : ℕ) (r : Read) → joined_parts p s Start here (put (changed_by (command_begins start)) r) ≡ joined_parts (record p { command_start = start; words = [] }) s Between at r
command_begun p s start here at (Ok rest) = refl
command_begun p s start here at (Err fault) = refl
