-- Quotes that stand in a text that is no script are read as the grammar of scripts relates them.
use Rattle.std.proofs.Common.{◌≡◌, ◌≢◌, ℕ, suc, ◌+◌, ◌≤◌, true, false, List, [], ◌∷◌, ◌++◌, length, take, drop, Result, Ok, Err, refl, sym, ap, subst, ◌∙◌, eqb-true, append_assoc, length-append, length-drop, arith}
use Rattle.std.specs.List.{slice_range}
use Rattle.tcl_text.specs.Backslash.{escape}
use Rattle.tcl_text.proofs.BackslashLemmas.{escape_within}
use Rattle.tcl_words.specs.Kinds.{class_means, dollar_of}
use Rattle.tcl_words.specs.Classes.{class_of, begins_newline, begins_expansion}
use Rattle.tcl_words.specs.Changes.{Read, put, last_rest, literal_before, piece_before, changed}
use Rattle.tcl_words.specs.Changes.Change.{bytes as put_bytes}
use Rattle.tcl_words.specs.Moves.{ByteMove, in_text, at_dollar}
use Rattle.tcl_words.specs.Reading.{rest_of, past, within}
use Rattle.tcl_words.specs.Operands.{at_quote, quoted_rest, pieces_found, quoted_of}
use Rattle.tcl_words.specs.Grammar.{TextEnding, leaves, fails, with_bytes, ends_body, is_plain, begins, ArePieces, IsInnerOf}
use Rattle.tcl_words.specs.Grammar.ArePieces.{stop, unended, byte, backslash, dollar, variable, braced_name, unclosed_name, element, faulty_index, bracket, faulty_script}
use Rattle.tcl_words.specs.OperandGrammar.{IsBehindQuote}
use Rattle.tcl_words.specs.declared.kind.Mode.TheVariants.{Quotes, Parens}
use Rattle.tcl_words.specs.declared.kind.Kind.{Kind}
use Rattle.tcl_words.specs.declared.kind.Kind.TheVariants.{Blank, Newline, Semicolon, Hash, Dollar, Quote, OpenBracket, CloseBracket, OpenBrace, Expansion, CloseBrace, CloseParen, Backslash, Continuation, Other}
use Rattle.tcl_words.specs.declared.kind.Dollar.{Dollar as DollarForm}
use Rattle.tcl_words.specs.declared.kind.Opener.TheVariants.{Bracket as BracketOpener, Index as IndexOpener}
use Rattle.tcl_words.specs.declared.script.Piece.{Piece}
use Rattle.tcl_words.specs.declared.script.Piece.TheVariants.{Variable, Element, Bracket}
use Rattle.tcl_text.specs.declared.fault.ParseFault.{ParseFault}
use Rattle.tcl_words.proofs.ClassLemmas.{byte_is, other_class, continuation_or, expansion_or}
use Rattle.tcl_words.proofs.StepLemmas.{put-none}
use Rattle.tcl_words.proofs.NameLemmas.{dollar-named, dollar-indexed, dollar-alone, dollar-braced, dollar-unclosed, drop_front, take_front, slice_braced}
use Rattle.tcl_words.proofs.PiecesRead.{NoLiteral, GivesBefore, GivesAll, InnerReads, opened, with_text, bytes_before, piece_front}
use Rattle.tcl_words.proofs.PiecesCut.{IsPiecesCut, pieces_found as pieces_cut}
use Rattle.tcl_words.proofs.ScriptsRead.{inner_reads}
use Rattle.tcl_words.proofs.ScriptsCut.{inner_cuts}
use Rattle.tcl_words.proofs.OperandLemmas.{quoted_skip}

abbrev quotes_read : ℕ → List ℕ → ℕ → Read
quotes_read room text at = quoted_rest room text 0 at

-- what the text behind a byte gives with this move
abbrev after_byte : ByteMove → ℕ → ℕ → List ℕ → Read
after_byte move room at text =
    put (changed move.changes)
    (past move.step room at text (λ skip next. quoted_rest room text skip (at + 1)) (λ room skip next. rest_of text (within room) skip next 0))

abbrev onto_bytes : List ℕ → Read → Read
onto_bytes own r = put (changed (put_bytes own ∷ [])) r

plain_by : (room : ℕ) (kind : Kind) (b : ℕ) (text : List ℕ) (at : ℕ) → kind ≢ Quote → is_plain kind ≡ true →
    at_quote (class_means false kind text) at (after_byte (in_text Parens (class_means false kind text) b text) room at text) ≡ onto_bytes (b ∷ []) (quotes_read room text (at + 1))
plain_by room Quote b text at h p = absurd (h refl)
plain_by room Dollar b text at h p = cc
plain_by room OpenBracket b text at h p = cc
plain_by room Backslash b text at h p = cc
plain_by room Continuation b text at h p = cc
plain_by room OpenBrace b text at h p =
    expansion_or (λ k. at_quote k at (after_byte (in_text Parens k b text) room at text) ≡ onto_bytes (b ∷ []) (quotes_read room text (at + 1))) (begins_expansion text) refl refl
plain_by room CloseBracket b text at h p = refl
plain_by room CloseParen b text at h p = refl
plain_by room Blank b text at h p = refl
plain_by room Newline b text at h p = refl
plain_by room Semicolon b text at h p = refl
plain_by room Hash b text at h p = refl
plain_by room Expansion b text at h p = refl
plain_by room CloseBrace b text at h p = refl
plain_by room Other b text at h p = refl

-- a byte that stands for itself
plain_step : (room b : ℕ) (text : List ℕ) (at : ℕ) → begins 34 (b ∷ text) ≡ false → is_plain (class_of b) ≡ true → quotes_read room (b ∷ text) at ≡ onto_bytes (b ∷ []) (quotes_read room text (at + 1))
plain_step room b text at h p = plain_by room (class_of b) b text at (other_class b 34 Quote h (byte_is b Quote)) p

quoted_drop : (room n : ℕ) (text : List ℕ) (at : ℕ) → n ≤ length text → quoted_rest room text n (at + 1) ≡ quotes_read room (drop n text) (at + 1 + n)
quoted_drop room n text at fits = quoted_skip room text n (at + 1) fits

backslash_step : (room : ℕ) (text : List ℕ) (at : ℕ) → quotes_read room (92 ∷ text) at ≡ onto_bytes (escape text).meaning (quotes_read room (drop (escape text).length text) (at + 1 + (escape text).length))
unfolding class_of
backslash_step room text at =
    continuation_or (λ k. at_quote k at (after_byte (in_text Parens k 92 text) room at text) ≡ onto_bytes (escape text).meaning (quoted_rest room text (escape text).length (at + 1))) (begins_newline text) refl refl
    ∙ ap (onto_bytes (escape text).meaning) (quoted_drop room (escape text).length text at (escape_within text))

dollar_step : (room : ℕ) (text : List ℕ) (at : ℕ) (form : DollarForm) → dollar_of text ≡ form → quotes_read room (36 ∷ text) at ≡ after_byte (at_dollar Parens form 36 text) room at text
unfolding class_of
dollar_step room text at form e = ap (λ f. after_byte (at_dollar Parens f 36 text) room at text) e

bracket_step : (room : ℕ) (text : List ℕ) (at : ℕ) → quotes_read room (91 ∷ text) at ≡ put (changed []) (opened BracketOpener Parens room at text (λ skip next. quoted_rest room text skip (at + 1)))
unfolding class_of
bracket_step room text at = refl

end_step : (room : ℕ) (text : List ℕ) (at : ℕ) → quotes_read room (34 ∷ text) at ≡ Ok (last_rest at)
unfolding class_of
end_step room text at = refl

-- where a quote stops the pieces
quote_left : (left : List ℕ) → ends_body true Quotes left ≡ true → (rest : List ℕ) × (left ≡ 34 ∷ rest)
quote_left [] h = cc
quote_left (b ∷ rest) h = (rest, ap (λ c. c ∷ rest) (eqb-true b 34 h))

stop_step : (room : ℕ) (text : List ℕ) (at : ℕ) → ends_body true Quotes text ≡ true → quotes_read room text at ≡ put (with_text [] []) (quotes_read room text at)
stop_step room text at h =
    let left = quote_left text h in
    let read : quotes_read room text at ≡ Ok (last_rest at) = ap (λ t. quotes_read room t at) left.1 ∙ end_step room left.0 at in
    read ∙ sym (ap (put (with_text [] [])) read)

-- past bytes that were taken before
skip_front : (room : ℕ) (front text : List ℕ) (at : ℕ) → quoted_rest room (front ++ text) (length front) (at + 1) ≡ quotes_read room text (at + 1 + length front)
skip_front room front text at =
    quoted_skip room (front ++ text) (length front) (at + 1) (omega (arith, length-append front text)) ∙ ap (λ t. quotes_read room t (at + 1 + length front)) (drop_front front text)

skip_closed : (room : ℕ) (own : List ℕ) (c n : ℕ) (text : List ℕ) (at : ℕ) → n ≡ suc (length own) → quoted_rest room (own ++ c ∷ text) n (at + 1) ≡ quotes_read room text (at + 1 + n)
skip_closed room own c n text at e =
    let whole : n ≡ length (own ++ c ∷ []) = omega (arith, e, length-append own (c ∷ [])) in
    ap (λ t. quoted_rest room t n (at + 1)) (sym (append_assoc own (c ∷ []) text))
    ∙ ap (λ k. quoted_rest room ((own ++ c ∷ []) ++ text) k (at + 1)) whole
    ∙ skip_front room (own ++ c ∷ []) text at
    ∙ ap (λ k. quotes_read room text (at + 1 + k)) (sym whole)

skip_index : (room : ℕ) (name own text : List ℕ) (at : ℕ) →
    quoted_rest room (name ++ 40 ∷ (own ++ 41 ∷ text)) (suc (suc (length name) + length own)) (at + 1) ≡ quotes_read room text (at + 1 + suc (suc (length name) + length own))
skip_index room name own text at =
    ap (λ t. quoted_rest room t (suc (suc (length name) + length own)) (at + 1)) (sym (append_assoc name (40 ∷ own) (41 ∷ text)))
    ∙ skip_closed room (name ++ 40 ∷ own) 41 (suc (suc (length name) + length own)) text at (omega (arith, length-append name (40 ∷ own)))

-- what a text in quotes gives from a position
abbrev Quoted : ℕ → ℕ → List ℕ → List Piece → TextEnding → Type 0
Quoted room at text pieces ending = GivesAll (quotes_read room) (quotes_read room text at) (at + length text) pieces ending

module _ (room : ℕ) (inner : InnerReads room) where
  bytes_onto : (own text behind : List ℕ) (at next : ℕ) (pieces : List Piece) (ending : TextEnding) → quotes_read room text at ≡ onto_bytes own (quotes_read room behind next) →
      next + length behind ≡ at + length text → Quoted room next behind pieces ending → Quoted room at text (with_bytes own pieces) ending
  bytes_onto own text behind at next pieces ending e m g =
      bytes_before (quotes_read room) (quotes_read room text at) (quotes_read room behind next) (at + length text) (next + length behind) m own pieces ending e g

  piece_onto : (p : Piece) (text behind : List ℕ) (at next : ℕ) (pieces : List Piece) (ending : TextEnding) → NoLiteral (p ∷ []) → quotes_read room text at ≡ put (piece_before p) (quotes_read room behind next) →
      next + length behind ≡ at + length text → Quoted room next behind pieces ending → Quoted room at text (p ∷ pieces) ending
  piece_onto p text behind at next pieces ending n e m g =
      piece_front (quotes_read room) (quotes_read room text at) (quotes_read room behind next) (at + length text) (next + length behind) m p pieces ending n e g

  -- the pieces of a text in quotes
  pieces_given : {text : List ℕ} {pieces : List Piece} {ending : TextEnding} → ArePieces (IsInnerOf room) true Quotes text pieces ending → (at : ℕ) → Quoted room at text pieces ending
  pieces_given (stop {text} h) at = record { bytes = []; after = []; end = at; joined = refl; none = tt; at_end = refl; is = stop_step room text at h }
  pieces_given (unended h) at = refl
  pieces_given (byte {b} {text} {pieces} {ending} h p more) at =
      bytes_onto (b ∷ []) (b ∷ text) text at (at + 1) pieces ending (plain_step room b text at h p) (omega arith) (pieces_given more (at + 1))
  pieces_given (backslash {text} {pieces} {ending} h more) at =
      let n : ℕ = (escape text).length in
      let fits : n ≤ length text = escape_within text in
      let m : at + 1 + n + length (drop n text) ≡ at + length (92 ∷ text) = omega (arith, length-drop n text) in
      bytes_onto (escape text).meaning (92 ∷ text) (drop n text) at (at + 1 + n) pieces ending (backslash_step room text at) m (pieces_given more (at + 1 + n))
  pieces_given (dollar {text} {pieces} {ending} h k more) at =
      bytes_onto (36 ∷ []) (36 ∷ text) text at (at + 1) pieces ending (dollar_step room text at _ (dollar-alone text h k)) (omega arith) (pieces_given more (at + 1))
  pieces_given (variable name {text} {pieces} {ending} is h k more) at =
      let m : at + 1 + length name + length text ≡ at + length (36 ∷ (name ++ text)) = omega (arith, length-append name text) in
      piece_onto (Variable name) (36 ∷ (name ++ text)) text at (at + 1 + length name) pieces ending tt
      (dollar_step room (name ++ text) at _ (dollar-named name text is h k)
      ∙ ap (put (piece_before (Variable (take (length name) (name ++ text))))) (skip_front room name text at)
      ∙ ap (λ t. put (piece_before (Variable t)) (quotes_read room text (at + 1 + length name))) (take_front name text))
      m (pieces_given more (at + 1 + length name))
  pieces_given (braced_name name {text} {pieces} {ending} h more) at =
      let behind : List ℕ = 123 ∷ (name ++ 125 ∷ text) in
      let n : ℕ = length name + 2 in
      let m : at + 1 + n + length text ≡ at + length (36 ∷ behind) = omega (arith, length-append name (125 ∷ text)) in
      piece_onto (Variable name) (36 ∷ behind) text at (at + 1 + n) pieces ending tt
      (dollar_step room behind at _ (dollar-braced name text h)
      ∙ ap (put (piece_before (Variable (slice_range behind 1 (suc (length name)))))) (skip_closed room (123 ∷ name) 125 n text at (omega arith))
      ∙ ap (λ t. put (piece_before (Variable t)) (quotes_read room text (at + 1 + n))) (slice_braced name text))
      m (pieces_given more (at + 1 + n))
  pieces_given (unclosed_name {text} h) at = dollar_step room (123 ∷ text) at _ (dollar-unclosed text h)
  pieces_given (element name own {text} {pieces} {ending} is h more) at =
      let behind : List ℕ = name ++ 40 ∷ (own ++ 41 ∷ text) in
      let n : ℕ = suc (length name) + length own in
      let m : at + 1 + suc n + length text ≡ at + length (36 ∷ behind) = omega (arith, length-append name (40 ∷ (own ++ 41 ∷ text)), length-append own (41 ∷ text)) in
      piece_onto (Element name own) (36 ∷ behind) text at (at + 1 + suc n) pieces ending tt
      (dollar_step room behind at _ (dollar-indexed name (own ++ 41 ∷ text) is)
      ∙ put-none (opened (IndexOpener (length name)) Parens room at behind (λ skip next. quoted_rest room behind skip (at + 1)))
      ∙ inner.closed_index name own text h Parens at (λ skip next. quoted_rest room behind skip (at + 1))
      ∙ ap (put (piece_before (Element name own))) (skip_index room name own text at))
      m (pieces_given more (at + 1 + suc n))
  pieces_given (faulty_index name {text} {fault} is h) at =
      let behind : List ℕ = name ++ 40 ∷ text in
      dollar_step room behind at _ (dollar-indexed name text is)
      ∙ ap (put (changed [])) (inner.index_fault name text fault h Parens at (λ skip next. quoted_rest room behind skip (at + 1)))
  pieces_given (bracket own {text} {pieces} {ending} h more) at =
      let behind : List ℕ = own ++ 93 ∷ text in
      let m : at + 1 + suc (length own) + length text ≡ at + length (91 ∷ behind) = omega (arith, length-append own (93 ∷ text)) in
      piece_onto (Bracket own) (91 ∷ behind) text at (at + 1 + suc (length own)) pieces ending tt
      (bracket_step room behind at
      ∙ put-none (opened BracketOpener Parens room at behind (λ skip next. quoted_rest room behind skip (at + 1)))
      ∙ inner.closed_script own text h Parens at (λ skip next. quoted_rest room behind skip (at + 1))
      ∙ ap (put (piece_before (Bracket own))) (skip_closed room own 93 (suc (length own)) text at refl))
      m (pieces_given more (at + 1 + suc (length own)))
  pieces_given (faulty_script {text} {fault} h) at =
      bracket_step room text at ∙ ap (put (changed [])) (inner.script_fault text fault h Parens at (λ skip next. quoted_rest room text skip (at + 1)))

abbrev Found : Type 0
Found = Result (List Piece × ℕ) ParseFault

closed_given : (room : ℕ) (own rest : List ℕ) (pieces : List Piece) (n : ℕ) → ArePieces (IsInnerOf room) true Quotes (own ++ 34 ∷ rest) pieces (leaves (34 ∷ rest)) → n ≡ suc (length own) →
    quoted_of room (own ++ 34 ∷ rest) ≡ Ok (pieces, n)
closed_given room own rest pieces n are count =
    let g : GivesBefore (quotes_read room (own ++ 34 ∷ rest) 0) (quotes_read room (34 ∷ rest)) (0 + length (own ++ 34 ∷ rest)) pieces (34 ∷ rest) = pieces_given room (inner_reads room) are 0 in
    let close : suc g.end ≡ n = omega (arith, g.at_end, count, length-append own (34 ∷ rest)) in
    ap pieces_found (g.is ∙ ap (put (with_text g.bytes g.after)) (end_step room rest g.end))
    ∙ ap (λ k. let read : Found = Ok (literal_before g.bytes g.after, k) in read) close
    ∙ ap (λ p. let read : Found = Ok (p, n) in read) g.joined

pub quotes_given : (room : ℕ) (text : List ℕ) (result : Found) → IsBehindQuote room text result → quoted_of room text ≡ result
quotes_given room text (Ok found) (own, rest, cut, are, count) = ap (quoted_of room) cut ∙ closed_given room own rest found.0 found.1 are count
quotes_given room text (Err fault) (pieces, are) = ap pieces_found (pieces_given room (inner_reads room) are 0)

quotes_cut : (room : ℕ) (text : List ℕ) → (result : Found) × IsBehindQuote room text result
quotes_cut room text = let found = pieces_cut room true Quotes (inner_cuts room) text in at found.pieces found.ending found.are found.cut
  where
    at : (pieces : List Piece) (ending : TextEnding) → ArePieces (IsInnerOf room) true Quotes text pieces ending → IsPiecesCut true Quotes text ending → (result : Found) × IsBehindQuote room text result
    at pieces (leaves left) are (own, e, h) =
        let more = quote_left left h in
        let cut : text ≡ own ++ 34 ∷ more.0 = e ∙ ap (λ t. own ++ t) more.1 in
        let whole : ArePieces (IsInnerOf room) true Quotes (own ++ 34 ∷ more.0) pieces (leaves (34 ∷ more.0)) =
        subst (λ t. ArePieces (IsInnerOf room) true Quotes t pieces (leaves (34 ∷ more.0))) cut (subst (λ l. ArePieces (IsInnerOf room) true Quotes text pieces (leaves l)) more.1 are) in
        (Ok (pieces, suc (length own)), (own, more.0, cut, whole, refl))
    at pieces (fails fault) are cut = (Err fault, (pieces, are))

pub quotes_are : (room : ℕ) (text : List ℕ) (result : Found) → quoted_of room text ≡ result → IsBehindQuote room text result
quotes_are room text result e = let found = quotes_cut room text in subst (IsBehindQuote room text) (sym (quotes_given room text found.0 found.1) ∙ e) found.1
