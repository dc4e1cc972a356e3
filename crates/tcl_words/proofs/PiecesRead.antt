-- The pieces of a body are read as the grammar says.
use Rattle.std.specs.List.{slice_range}
use Rattle.std.proofs.Common.{length-drop, take, ◌≡◌, ℕ, suc, ◌+◌, ◌≤◌, Bool, List, [], ◌∷◌, ◌++◌, length, drop, refl, ap, ◌∙◌, append-nil, length-append, arith, Ok, Err}
use Rattle.tcl_text.specs.Backslash.{escape}
use Rattle.tcl_text.proofs.BackslashLemmas.{escape_within}
use Rattle.tcl_words.specs.Kinds.{dollar_of}
use Rattle.tcl_words.specs.Changes.{TextRest, Read, put, literal_before, piece_before, changed}
use Rattle.tcl_words.specs.Changes.Change.{bytes as put_bytes}
use Rattle.tcl_words.specs.Moves.{on, at_dollar}
use Rattle.tcl_words.specs.Reading.{Level, rest_of, past, within}
use Rattle.tcl_words.specs.Grammar.{TextEnding, leaves, fails, script, index, with_bytes, ArePieces, IsInnerOf}
use Rattle.tcl_words.specs.Grammar.ArePieces.{stop, unended, byte, backslash, dollar, variable, braced_name, unclosed_name, element, faulty_index, bracket, faulty_script}
use Rattle.tcl_words.specs.declared.kind.Mode.{Mode}
use Rattle.tcl_words.specs.declared.kind.BytePlace.{BytePlace}
use Rattle.tcl_words.specs.declared.kind.BytePlace.TheVariants.{Text}
use Rattle.tcl_words.specs.declared.kind.Dollar.{Dollar as DollarForm}
use Rattle.tcl_words.specs.declared.kind.Opener.{Opener}
use Rattle.tcl_words.specs.declared.kind.Opener.TheVariants.{Bracket as BracketOpener, Index as IndexOpener}
use Rattle.tcl_words.specs.declared.kind.Step.TheVariants.{Within}
use Rattle.tcl_words.specs.declared.script.Piece.{Piece}
use Rattle.tcl_words.specs.declared.script.Piece.TheVariants.{Literal, Variable, Element, Bracket}
use Rattle.tcl_text.specs.declared.fault.ParseFault.{ParseFault}
use Rattle.tcl_words.proofs.ClassLemmas.{plain_move, backslash_move, dollar_move, bracket_move}
use Rattle.tcl_words.proofs.StepLemmas.{after_move, moved_by, put-none, skip_drop, skip_read, skip_past, skip_element}
use Rattle.tcl_words.proofs.NameLemmas.{dollar-named, dollar-indexed, dollar-alone, dollar-braced, dollar-unclosed, take_front, slice_braced}
use Rattle.tcl_words.proofs.StopLemmas.{stop_clear, unended_read}

-- no literal is the first
abbrev pub NoLiteral : List Piece → Type 0
NoLiteral [] = Unit {0}
NoLiteral (Literal text ∷ pieces) = ⊥
NoLiteral (Variable name ∷ pieces) = Unit {0}
NoLiteral (Element name key ∷ pieces) = Unit {0}
NoLiteral (Bracket own ∷ pieces) = Unit {0}

abbrev pub with_text : List ℕ → List Piece → TextRest → TextRest
with_text bytes after rest = record rest { bytes = bytes; pieces = after }

-- these pieces are read before what the text that is left gives, where `go` reads that from its position
pub record GivesBefore (r : Read) (go : ℕ → Read) (total : ℕ) (pieces : List Piece) (left : List ℕ) : Type 0 where
  pub bytes : List ℕ
  pub after : List Piece
  pub end : ℕ
  pub joined : literal_before bytes after ≡ pieces
  pub none : NoLiteral after
  pub at_end : end + length left ≡ total
  pub is : r ≡ put (with_text bytes after) (go end)

-- and what a text gives with an ending, where `go` reads texts
abbrev pub GivesAll : (List ℕ → ℕ → Read) → Read → ℕ → List Piece → TextEnding → Type 0
GivesAll go r total pieces (leaves left) = GivesBefore r (go left) total pieces left
GivesAll go r total pieces (fails fault) = r ≡ Err fault

abbrev pub text_read : Level → Mode → List ℕ → ℕ → Read
text_read level mode text at = rest_of text level 0 (Text mode) at

abbrev pub GivesText : Level → Mode → ℕ → List ℕ → List Piece → List ℕ → Type 0
GivesText level mode at text pieces left = GivesBefore (text_read level mode text at) (text_read level mode left) (at + length text) pieces left

abbrev pub GivesPieces : Level → Mode → ℕ → List ℕ → List Piece → TextEnding → Type 0
GivesPieces level mode at text pieces ending = GivesAll (text_read level mode) (text_read level mode text at) (at + length text) pieces ending

-- what an opener before this text gives, where `go` reads on
abbrev pub opened : Opener → Mode → ℕ → ℕ → List ℕ → (ℕ → BytePlace → Read) → Read
opened opener mode room at behind go = past (Ok (Within opener mode)) room at behind go (λ next skip first. rest_of behind (within next) skip first 0)

-- brackets and indices are read as the grammar says where so many may be opened
pub record InnerReads (room : ℕ) : Type 0 where
  pub closed_script : (own text : List ℕ) → IsInnerOf room script (own ++ 93 ∷ text) (leaves (93 ∷ text)) → (mode : Mode) (at : ℕ) (go : ℕ → BytePlace → Read) →
      opened BracketOpener mode room at (own ++ 93 ∷ text) go ≡ put (piece_before (Bracket own)) (go (suc (length own)) (Text mode))
  pub script_fault : (text : List ℕ) (fault : ParseFault) → IsInnerOf room script text (fails fault) → (mode : Mode) (at : ℕ) (go : ℕ → BytePlace → Read) →
      opened BracketOpener mode room at text go ≡ Err fault
  pub closed_index : (name own text : List ℕ) → IsInnerOf room index (own ++ 41 ∷ text) (leaves (41 ∷ text)) → (mode : Mode) (at : ℕ) (go : ℕ → BytePlace → Read) →
      opened (IndexOpener (length name)) mode room at (name ++ 40 ∷ (own ++ 41 ∷ text)) go ≡ put (piece_before (Element name own)) (go (suc (suc (length name) + length own)) (Text mode))
  pub index_fault : (name text : List ℕ) (fault : ParseFault) → IsInnerOf room index text (fails fault) → (mode : Mode) (at : ℕ) (go : ℕ → BytePlace → Read) →
      opened (IndexOpener (length name)) mode room at (name ++ 40 ∷ text) go ≡ Err fault

joined_first : (b : ℕ) (own : List ℕ) (after : List Piece) → NoLiteral after → Literal (b ∷ own) ∷ after ≡ with_bytes (b ∷ own) after
joined_first b own [] h = refl
joined_first b own (Literal text ∷ after) h = absurd h
joined_first b own (Variable name ∷ after) h = refl
joined_first b own (Element name key ∷ after) h = refl
joined_first b own (Bracket inner ∷ after) h = refl

joined_bytes : (own bytes : List ℕ) (after : List Piece) → NoLiteral after → literal_before (own ++ bytes) after ≡ with_bytes own (literal_before bytes after)
joined_bytes [] bytes after h = refl
joined_bytes (b ∷ own) [] after h = ap (λ t. Literal (b ∷ t) ∷ after) (append-nil own) ∙ joined_first b own after h
joined_bytes (b ∷ own) (c ∷ bytes) after h = refl

bytes_over : (own bytes : List ℕ) (after : List Piece) (r : Read) → put (changed (put_bytes own ∷ [])) (put (with_text bytes after) r) ≡ put (with_text (own ++ bytes) after) r
bytes_over own bytes after (Ok rest) = refl
bytes_over own bytes after (Err fault) = refl

piece_over : (p : Piece) (bytes : List ℕ) (after : List Piece) (r : Read) → put (piece_before p) (put (with_text bytes after) r) ≡ put (with_text [] (p ∷ literal_before bytes after)) r
piece_over p bytes after (Ok rest) = refl
piece_over p bytes after (Err fault) = refl

module _ (go : List ℕ → ℕ → Read) (r behind : Read) (total next : ℕ) (same : next ≡ total) where
  pub bytes_before : (own : List ℕ) (pieces : List Piece) (ending : TextEnding) → r ≡ put (changed (put_bytes own ∷ [])) behind → GivesAll go behind next pieces ending → GivesAll go r total (with_bytes own pieces) ending
  bytes_before own pieces (leaves left) e g = record {
    bytes = own ++ g.bytes;
    after = g.after;
    end = g.end;
    joined = joined_bytes own g.bytes g.after g.none ∙ ap (with_bytes own) g.joined;
    none = g.none;
    at_end = g.at_end ∙ same;
    is = e ∙ ap (put (changed (put_bytes own ∷ []))) g.is ∙ bytes_over own g.bytes g.after (go left g.end);
  }
  bytes_before own pieces (fails fault) e g = e ∙ ap (put (changed (put_bytes own ∷ []))) g

  pub piece_front : (p : Piece) (pieces : List Piece) (ending : TextEnding) → NoLiteral (p ∷ []) → r ≡ put (piece_before p) behind → GivesAll go behind next pieces ending → GivesAll go r total (p ∷ pieces) ending
  piece_front p pieces (leaves left) n e g = record {
    bytes = [];
    after = p ∷ literal_before g.bytes g.after;
    end = g.end;
    joined = ap (λ t. p ∷ t) g.joined;
    none = no_literal p (literal_before g.bytes g.after) n;
    at_end = g.at_end ∙ same;
    is = e ∙ ap (put (piece_before p)) g.is ∙ piece_over p g.bytes g.after (go left g.end);
  }
    where
      no_literal : (q : Piece) (more : List Piece) → NoLiteral (q ∷ []) → NoLiteral (q ∷ more)
      no_literal (Literal own) more h = h
      no_literal (Variable name) more h = h
      no_literal (Element name key) more h = h
      no_literal (Bracket own) more h = h
  piece_front p pieces (fails fault) n e g = e ∙ ap (put (piece_before p)) g

bytes_onto : (level : Level) (mode : Mode) (own text behind : List ℕ) (at next : ℕ) (pieces : List Piece) (ending : TextEnding) →
    rest_of text level 0 (Text mode) at ≡ put (changed (put_bytes own ∷ [])) (rest_of behind level 0 (Text mode) next) →
    next + length behind ≡ at + length text → GivesPieces level mode next behind pieces ending → GivesPieces level mode at text (with_bytes own pieces) ending
bytes_onto level mode own text behind at next pieces ending e m g =
    bytes_before (text_read level mode) (text_read level mode text at) (text_read level mode behind next) (at + length text) (next + length behind) m own pieces ending e g

piece_onto : (level : Level) (mode : Mode) (p : Piece) (text behind : List ℕ) (at next : ℕ) (pieces : List Piece) (ending : TextEnding) → NoLiteral (p ∷ []) →
    rest_of text level 0 (Text mode) at ≡ put (piece_before p) (rest_of behind level 0 (Text mode) next) →
    next + length behind ≡ at + length text → GivesPieces level mode next behind pieces ending → GivesPieces level mode at text (p ∷ pieces) ending
piece_onto level mode p text behind at next pieces ending n e m g =
    piece_front (text_read level mode) (text_read level mode text at) (text_read level mode behind next) (at + length text) (next + length behind) m p pieces ending n e g

-- a `$` with what follows it
dollar_step : (level : Level) (mode : Mode) (text : List ℕ) (at : ℕ) (form : DollarForm) → dollar_of text ≡ form →
    rest_of (36 ∷ text) level 0 (Text mode) at ≡ after_move (at_dollar mode form 36 text) level at text
dollar_step level mode text at form e = moved_by (at_dollar mode form 36 text) (Text mode) 36 text level at (dollar_move level.inside mode at text ∙ ap (λ f. at_dollar mode f 36 text) e)

pub pieces_read : (inside : Bool) (room : ℕ) (mode : Mode) → InnerReads room → {text : List ℕ} {pieces : List Piece} {ending : TextEnding} →
    ArePieces (IsInnerOf room) inside mode text pieces ending → (at : ℕ) → GivesPieces (record { inside = inside; room = room }) mode at text pieces ending
pieces_read inside room mode inner (stop {text} h) at = record {
  bytes = [];
  after = [];
  end = at;
  joined = refl;
  none = tt;
  at_end = refl;
  is = stop_clear inside room mode text at h;
}
pieces_read inside room mode inner (unended h) at = unended_read inside room mode at h
pieces_read inside room mode inner (byte {b} {text} {pieces} {ending} h p more) at =
    let level : Level = record { inside = inside; room = room } in
    bytes_onto level mode (b ∷ []) (b ∷ text) text at (at + 1) pieces ending
    (moved_by (on (put_bytes (b ∷ []) ∷ []) 0 (Text mode)) (Text mode) b text level at (plain_move inside mode b at text h p))
    (omega arith) (pieces_read inside room mode inner more (at + 1))
pieces_read inside room mode inner (backslash {text} {pieces} {ending} h more) at =
    let level : Level = record { inside = inside; room = room } in
    let n : ℕ = (escape text).length in
    let fits : n ≤ length text = escape_within text in
    let m : at + 1 + n + length (drop n text) ≡ at + length (92 ∷ text) = omega (arith, length-drop n text) in
    bytes_onto level mode (escape text).meaning (92 ∷ text) (drop n text) at (at + 1 + n) pieces ending
    (moved_by (on (put_bytes (escape text).meaning ∷ []) n (Text mode)) (Text mode) 92 text level at (backslash_move inside mode at text h)
    ∙ ap (put (changed (put_bytes (escape text).meaning ∷ []))) (skip_drop n text level (Text mode) (at + 1) fits))
    m (pieces_read inside room mode inner more (at + 1 + n))
pieces_read inside room mode inner (dollar {text} {pieces} {ending} h k more) at =
    let level : Level = record { inside = inside; room = room } in
    bytes_onto level mode (36 ∷ []) (36 ∷ text) text at (at + 1) pieces ending
    (dollar_step level mode text at _ (dollar-alone text h k))
    (omega arith) (pieces_read inside room mode inner more (at + 1))
pieces_read inside room mode inner (variable name {text} {pieces} {ending} is h k more) at =
    let level : Level = record { inside = inside; room = room } in
    let m : at + 1 + length name + length text ≡ at + length (36 ∷ (name ++ text)) = omega (arith, length-append name text) in
    piece_onto level mode (Variable name) (36 ∷ (name ++ text)) text at (at + 1 + length name) pieces ending tt
    (dollar_step level mode (name ++ text) at _ (dollar-named name text is h k)
    ∙ ap (put (piece_before (Variable (take (length name) (name ++ text))))) (skip_read name text level (Text mode) (at + 1))
    ∙ ap (λ t. put (piece_before (Variable t)) (rest_of text level 0 (Text mode) (at + 1 + length name))) (take_front name text))
    m (pieces_read inside room mode inner more (at + 1 + length name))
pieces_read inside room mode inner (braced_name name {text} {pieces} {ending} h more) at =
    let level : Level = record { inside = inside; room = room } in
    let two : length name + 2 ≡ suc (suc (length name)) = omega arith in
    let m : at + 1 + 1 + suc (length name) + length text ≡ at + length (36 ∷ 123 ∷ (name ++ 125 ∷ text)) = omega (arith, length-append name (125 ∷ text)) in
    piece_onto level mode (Variable name) (36 ∷ 123 ∷ (name ++ 125 ∷ text)) text at (at + 1 + 1 + suc (length name)) pieces ending tt
    (dollar_step level mode (123 ∷ (name ++ 125 ∷ text)) at _ (dollar-braced name text h)
    ∙ ap (λ n. put (piece_before (Variable (slice_range (123 ∷ (name ++ 125 ∷ text)) 1 (suc (length name))))) (rest_of (123 ∷ (name ++ 125 ∷ text)) level n (Text mode) (at + 1))) two
    ∙ ap (put (piece_before (Variable (slice_range (123 ∷ (name ++ 125 ∷ text)) 1 (suc (length name)))))) (skip_past name 125 text level (Text mode) (at + 1 + 1))
    ∙ ap (λ t. put (piece_before (Variable t)) (rest_of text level 0 (Text mode) (at + 1 + 1 + suc (length name)))) (slice_braced name text))
    m (pieces_read inside room mode inner more (at + 1 + 1 + suc (length name)))
pieces_read inside room mode inner (unclosed_name {text} h) at =
    let level : Level = record { inside = inside; room = room } in
    dollar_step level mode (123 ∷ text) at _ (dollar-unclosed text h)
pieces_read inside room mode inner (element name own {text} {pieces} {ending} is h more) at =
    let level : Level = record { inside = inside; room = room } in
    let behind : List ℕ = name ++ 40 ∷ (own ++ 41 ∷ text) in
    let n : ℕ = suc (length name) + length own in
    let m : at + 1 + suc n + length text ≡ at + length (36 ∷ behind) = omega (arith, length-append name (40 ∷ (own ++ 41 ∷ text)), length-append own (41 ∷ text)) in
    piece_onto level mode (Element name own) (36 ∷ behind) text at (at + 1 + suc n) pieces ending tt
    (dollar_step level mode behind at _ (dollar-indexed name (own ++ 41 ∷ text) is)
    ∙ put-none (opened (IndexOpener (length name)) mode room at behind (λ skip next. rest_of behind level skip next (at + 1)))
    ∙ inner.closed_index name own text h mode at (λ skip next. rest_of behind level skip next (at + 1))
    ∙ ap (put (piece_before (Element name own))) (skip_element name own text level (Text mode) (at + 1)))
    m (pieces_read inside room mode inner more (at + 1 + suc n))
pieces_read inside room mode inner (faulty_index name {text} {fault} is h) at =
    let level : Level = record { inside = inside; room = room } in
    let behind : List ℕ = name ++ 40 ∷ text in
    dollar_step level mode behind at _ (dollar-indexed name text is)
    ∙ ap (put (changed [])) (inner.index_fault name text fault h mode at (λ skip next. rest_of behind level skip next (at + 1)))
pieces_read inside room mode inner (bracket own {text} {pieces} {ending} h more) at =
    let level : Level = record { inside = inside; room = room } in
    let behind : List ℕ = own ++ 93 ∷ text in
    let m : at + 1 + suc (length own) + length text ≡ at + length (91 ∷ behind) = omega (arith, length-append own (93 ∷ text)) in
    piece_onto level mode (Bracket own) (91 ∷ behind) text at (at + 1 + suc (length own)) pieces ending tt
    (moved_by (record { changes = []; step = Ok (Within BracketOpener mode) }) (Text mode) 91 behind level at (bracket_move inside mode at behind)
    ∙ put-none (opened BracketOpener mode room at behind (λ skip next. rest_of behind level skip next (at + 1)))
    ∙ inner.closed_script own text h mode at (λ skip next. rest_of behind level skip next (at + 1))
    ∙ ap (put (piece_before (Bracket own))) (skip_past own 93 text level (Text mode) (at + 1)))
    m (pieces_read inside room mode inner more (at + 1 + suc (length own)))
pieces_read inside room mode inner (faulty_script {text} {fault} h) at =
    let level : Level = record { inside = inside; room = room } in
    moved_by (record { changes = []; step = Ok (Within BracketOpener mode) }) (Text mode) 91 text level at (bracket_move inside mode at text)
    ∙ ap (put (changed [])) (inner.script_fault text fault h mode at (λ skip next. rest_of text level skip next (at + 1)))
