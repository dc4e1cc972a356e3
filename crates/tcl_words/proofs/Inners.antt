-- What scripts and indices give by themselves.
use Rattle.std.proofs.Common.{◌≡◌, ℕ, zero, suc, ◌+◌, ◌-◌, ◌≤◌, Bool, true, false, List, [], ◌∷◌, ◌++◌, length, drop, take, refl, sym, ap, ◌∙◌, arith, Ok, Err, Result, length-append}
use Rattle.std.specs.List.{slice_range}
use Rattle.tcl_words.specs.Kinds.{kind_before, dollar_of}
use Rattle.tcl_words.specs.Changes.{TextRest, Read, put, piece_before, literal_before, Change, bytes, name, text_ends, word_ends, command_ends, word_begins, command_begins, changed, changed_by}
use Rattle.tcl_words.specs.Moves.{ByteMove, at_dollar, in_parens}
use Rattle.tcl_words.specs.Reading.{Level, within, rest_of, read_at_end, past, past_opened, opened_place, first_skip, opened_piece, commands_in, pieces_in, index_pieces_of, outermost}
use Rattle.tcl_words.specs.Parts.{Whole, joined_parts, no_parts, script_whole, index_whole}
use Rattle.tcl_words.specs.declared.kind.Kind.{Kind}
use Rattle.tcl_words.specs.declared.kind.Kind.TheVariants.{Blank, Newline, Semicolon, Hash, Dollar, Quote, OpenBracket, CloseBracket, OpenBrace, Expansion, CloseBrace, CloseParen, Backslash, Continuation, Other}
use Rattle.tcl_words.specs.declared.kind.Dollar.{Dollar as DollarForm}
use Rattle.tcl_words.specs.declared.kind.Dollar.TheVariants.{Alone, Named, Indexed, Braced, Unclosed}
use Rattle.tcl_words.specs.declared.kind.BytePlace.{BytePlace}
use Rattle.tcl_words.specs.declared.kind.BytePlace.TheVariants.{Start, Text}
use Rattle.tcl_words.specs.declared.kind.Mode.TheVariants.{Parens}
use Rattle.tcl_words.specs.declared.kind.Opener.{Opener}
use Rattle.tcl_words.specs.declared.kind.Step.{Step}
use Rattle.tcl_words.specs.declared.kind.Step.TheVariants.{On, Within, Ends}
use Rattle.tcl_words.specs.declared.script.Piece.{Piece}
use Rattle.tcl_words.specs.declared.script.Piece.TheVariants.{Variable}
use Rattle.tcl_text.specs.declared.fault.ParseFault.{ParseFault}
use Rattle.tcl_words.proofs.Alone.{Closed, closed}
use Rattle.tcl_words.proofs.Joins.{slice_none}
use Rattle.tcl_words.proofs.Nests.{rest_skip}

-- the same to a text that is open
abbrev SameText : Read → Read → Type 0
SameText (Ok one) (Ok other) = (one.bytes ≡ other.bytes) × (one.pieces ≡ other.pieces)
SameText (Ok one) (Err fault) = ⊥
SameText (Err fault) (Ok other) = ⊥
SameText (Err fault) (Err other) = fault ≡ other

piece_same : (own : Piece) (one other : TextRest) → SameText (Ok one) (Ok other) → SameText (Ok (piece_before own one)) (Ok (piece_before own other))
piece_same own one other same = (refl, ap (λ t. own ∷ literal_before t one.pieces) same.0 ∙ ap (λ t. own ∷ literal_before other.bytes t) same.1)

change_same : (c : Change) (one other : TextRest) → SameText (Ok one) (Ok other) → SameText (Ok (changed_by c one)) (Ok (changed_by c other))
change_same (bytes own) one other same = (ap (λ t. own ++ t) same.0, same.1)
change_same (name own) one other same = piece_same (Variable own) one other same
change_same text_ends one other same = (refl, refl)
change_same (word_ends at) one other same = (refl, refl)
change_same command_ends one other same = (refl, refl)
change_same (word_begins form expand start) one other same = (refl, refl)
change_same (command_begins start) one other same = (refl, refl)

changed_same : (cs : List Change) (one other : TextRest) → SameText (Ok one) (Ok other) → SameText (Ok (changed cs one)) (Ok (changed cs other))
changed_same [] one other same = same
changed_same (c ∷ cs) one other same = change_same c (changed cs one) (changed cs other) (changed_same cs one other same)

put_same : (cs : List Change) (one other : Read) → SameText one other → SameText (put (changed cs) one) (put (changed cs) other)
put_same cs (Ok one) (Ok other) same = changed_same cs one other same
put_same cs (Ok one) (Err fault) same = same
put_same cs (Err fault) (Ok other) same = same
put_same cs (Err fault) (Err other) same = same

put_piece : (own : Piece) (one other : Read) → SameText one other → SameText (put (piece_before own) one) (put (piece_before own) other)
put_piece own (Ok one) (Ok other) same = piece_same own one other same
put_piece own (Ok one) (Err fault) same = same
put_piece own (Err fault) (Ok other) same = same
put_piece own (Err fault) (Err other) same = same

-- an index is read on as such
abbrev StaysIn : Result Step ParseFault → Type 0
StaysIn (Ok (On skip next)) = next ≡ Text Parens
StaysIn (Ok (Within opener mode)) = mode ≡ Parens
StaysIn (Ok Ends) = Unit {0}
StaysIn (Err fault) = Unit {0}

dollar_stays : (form : DollarForm) (b : ℕ) (behind : List ℕ) → StaysIn (at_dollar Parens form b behind).step
dollar_stays Alone b behind = refl
dollar_stays (Named n) b behind = refl
dollar_stays (Indexed n) b behind = refl
dollar_stays (Braced n) b behind = refl
dollar_stays Unclosed b behind = tt

stays : (kind : Kind) (b : ℕ) (behind : List ℕ) → StaysIn (in_parens kind b behind).step
stays Blank b behind = refl
stays Newline b behind = refl
stays Semicolon b behind = refl
stays Hash b behind = refl
stays Dollar b behind = dollar_stays (dollar_of behind) b behind
stays Quote b behind = refl
stays OpenBracket b behind = refl
stays CloseBracket b behind = refl
stays OpenBrace b behind = refl
stays Expansion b behind = refl
stays CloseBrace b behind = refl
stays CloseParen b behind = tt
stays Backslash b behind = refl
stays Continuation b behind = refl
stays Other b behind = refl

opened_same : (opener : Opener) (behind : List ℕ) (go go' : ℕ → BytePlace → Read) (x : Read) → ((skip : ℕ) → SameText (go skip (Text Parens)) (go' skip (Text Parens))) →
    SameText (past_opened opener Parens behind go x) (past_opened opener Parens behind go' x)
opened_same opener behind go go' (Ok rest) same = put_piece (opened_piece opener behind rest.close) (go (suc rest.close) (Text Parens)) (go' (suc rest.close) (Text Parens)) (same (suc rest.close))
opened_same opener behind go go' (Err fault) same = refl

past_same : (step : Result Step ParseFault) (room at at' : ℕ) (behind : List ℕ) (go go' : ℕ → BytePlace → Read) (inner : ℕ → ℕ → BytePlace → Read) → StaysIn step → ((skip : ℕ) → SameText (go skip (Text Parens)) (go' skip (Text Parens))) →
    SameText (past step room at behind go inner) (past step room at' behind go' inner)
past_same (Ok (On skip next)) room at at' behind go go' inner stay same = rw stay (same skip)
past_same (Ok (Within opener mode)) zero at at' behind go go' inner stay same = refl
past_same (Ok (Within opener mode)) (suc room) at at' behind go go' inner stay same = rw stay (opened_same opener behind go go' (inner room (first_skip opener) (opened_place opener)) same)
past_same (Ok Ends) room at at' behind go go' inner stay same = (refl, refl)
past_same (Err fault) room at at' behind go go' inner stay same = refl

end_same : (inside : Bool) (at at' : ℕ) → SameText (read_at_end inside (Text Parens) at) (read_at_end inside (Text Parens) at')
end_same true at at' = refl
end_same false at at' = (refl, refl)

-- where an index stands makes no difference to it
shift : (text : List ℕ) (level : Level) (skip at at' : ℕ) → SameText (rest_of text level skip (Text Parens) at) (rest_of text level skip (Text Parens) at')
shift [] level skip at at' = end_same level.inside at at'
shift (b ∷ text) level (suc skip) at at' = shift text level skip (at + 1) (at' + 1)
shift (b ∷ text) level zero at at' =
    let move : ByteMove = in_parens (kind_before level.inside b text) b text in
    put_same move.changes
    (past move.step level.room at text (λ skip next. rest_of text level skip next (at + 1)) (λ room skip next. rest_of text (within room) skip next 0))
    (past move.step level.room at' text (λ skip next. rest_of text level skip next (at' + 1)) (λ room skip next. rest_of text (within room) skip next 0))
    (past_same move.step level.room at at' text (λ skip next. rest_of text level skip next (at + 1)) (λ skip next. rest_of text level skip next (at' + 1)) (λ room skip next. rest_of text (within room) skip next 0)
    (stays (kind_before level.inside b text) b text) (λ skip. shift text level skip (at + 1) (at' + 1)))

same_pieces : (one other : Read) (rest : TextRest) → SameText one other → one ≡ Ok rest → pieces_in other ≡ Ok (literal_before rest.bytes rest.pieces)
same_pieces (Ok one) (Ok other) rest same e =
    let is : one ≡ rest = (let h : Ok one ≡ Ok rest = e in cc) in
    ap (λ t. Ok (literal_before t other.pieces)) (sym same.0) ∙ ap (λ t. Ok (literal_before one.bytes t)) (sym same.1) ∙ ap (λ r. Ok (literal_before r.bytes r.pieces)) is
same_pieces (Ok one) (Err fault) rest same e = absurd same
same_pieces (Err fault) (Ok other) rest same e = absurd same
same_pieces (Err fault) (Err other) rest same e = absurd (let h : Err fault ≡ Ok rest = e in cc)

-- ── what was read within ──

take_all : (xs ys : List ℕ) → take (length xs) (xs ++ ys) ≡ xs
take_all [] ys = refl
take_all (x ∷ xs) ys = ap (λ t. x ∷ t) (take_all xs ys)

slice_all : (n : ℕ) (xs ys : List ℕ) → n ≤ length xs → slice_range (xs ++ ys) n (length xs) ≡ drop n xs
slice_all zero xs ys h = let e : length xs - 0 ≡ length xs = omega arith in ap (λ k. take k (xs ++ ys)) e ∙ take_all xs ys
slice_all (suc n) [] ys h = absurd (omega (arith, h))
slice_all (suc n) (x ∷ xs) ys h = let e : suc (length xs) - suc n ≡ length xs - n = omega arith in ap (λ k. take k (drop n (xs ++ ys))) e ∙ slice_all n xs ys (omega (arith, h))

script_read : (t : List ℕ) (room : ℕ) (whole : Whole) (r : Read) → room ≤ 200 → rest_of t (within room) 0 Start 0 ≡ r → joined_parts (no_parts 0) t Start 0 r ≡ Ok whole →
    (commands_in (rest_of (take whole.close t) outermost 0 Start 0) ≡ Ok whole.commands) × (suc whole.close ≤ length t)
script_read t room whole (Err fault) small e h = absurd (let g : joined_parts (no_parts 0) t Start 0 (Err fault) ≡ Ok whole = h in cc)
script_read t room whole (Ok rest) small e h =
    let is : script_whole ([] ++ rest.commands) rest.close ≡ whole = (let g : Ok (script_whole ([] ++ rest.commands) rest.close) ≡ Ok whole = h in cc) in
    let close : rest.close ≡ whole.close = ap (λ w. w.close) is in
    let commands : rest.commands ≡ whole.commands = ap (λ w. w.commands) is in
    let c : Closed t room 0 Start 0 rest = closed t room 0 Start 0 rest e in
    let at : rest.close ≡ 0 + length c.inner = c.close_at in
    let n : whole.close ≡ length c.inner = omega (arith, close, at) in
    let inner : take whole.close t ≡ c.inner = ap (λ k. take k t) n ∙ ap (take (length c.inner)) c.text_is ∙ take_all c.inner (c.closer ∷ c.after) in (
      ap (λ x. commands_in (rest_of x outermost 0 Start 0)) inner ∙ ap commands_in (c.alone 200 small) ∙ ap (λ x. Ok x) commands,
      omega (arith, n, ap length c.text_is, length-append c.inner (c.closer ∷ c.after)),
    )

-- the text between brackets gives by itself the commands that it gave there
pub script_alone : (t : List ℕ) (room : ℕ) (whole : Whole) → room ≤ 200 → joined_parts (no_parts 0) t Start 0 (rest_of t (within room) 0 Start 0) ≡ Ok whole →
    (commands_in (rest_of (take whole.close t) outermost 0 Start 0) ≡ Ok whole.commands) × (suc whole.close ≤ length t)
script_alone t room whole small h = script_read t room whole (rest_of t (within room) 0 Start 0) small refl h

index_read : (t : List ℕ) (n room : ℕ) (whole : Whole) (r : Read) → room ≤ 200 → rest_of t (within room) (suc n) (Text Parens) 0 ≡ r → joined_parts (no_parts (suc n)) t (Text Parens) (suc n) r ≡ Ok whole →
    (index_pieces_of (slice_range t (suc n) whole.close) ≡ Ok whole.pieces) × (suc n ≤ whole.close) × (suc whole.close ≤ length t)
index_read t n room whole (Err fault) small e h = absurd (let g : joined_parts (no_parts (suc n)) t (Text Parens) (suc n) (Err fault) ≡ Ok whole = h in cc)
index_read t n room whole (Ok rest) small e h =
    let text : List ℕ = ([] ++ slice_range t (suc n) (suc n)) ++ rest.bytes in
    let is : index_whole ([] ++ literal_before text rest.pieces) rest.close ≡ whole = (let g : Ok (index_whole ([] ++ literal_before text rest.pieces) rest.close) ≡ Ok whole = h in cc) in
    let close : rest.close ≡ whole.close = ap (λ w. w.close) is in
    let pieces : literal_before rest.bytes rest.pieces ≡ whole.pieces = ap (λ u. literal_before (u ++ rest.bytes) rest.pieces) (sym (slice_none t (suc n))) ∙ ap (λ w. w.pieces) is in
    let c : Closed t room (suc n) (Text Parens) 0 rest = closed t room (suc n) (Text Parens) 0 rest e in
    let at : rest.close ≡ 0 + length c.inner = c.close_at in
    let k : whole.close ≡ length c.inner = omega (arith, close, at) in
    let skip : suc n ≤ length c.inner = c.skipped in
    let own : slice_range t (suc n) whole.close ≡ drop (suc n) c.inner = ap (slice_range t (suc n)) k ∙ ap (λ x. slice_range x (suc n) (length c.inner)) c.text_is ∙ slice_all (suc n) c.inner (c.closer ∷ c.after) skip in
    let there : rest_of (drop (suc n) c.inner) outermost 0 (Text Parens) (0 + suc n) ≡ Ok rest = sym (rest_skip c.inner outermost (suc n) (Text Parens) 0 skip) ∙ c.alone 200 small in (
      ap index_pieces_of own
          ∙ same_pieces (rest_of (drop (suc n) c.inner) outermost 0 (Text Parens) (0 + suc n)) (rest_of (drop (suc n) c.inner) outermost 0 (Text Parens) 0) rest (shift (drop (suc n) c.inner) outermost 0 (0 + suc n) 0) there
          ∙ ap (λ x. Ok x) pieces,
      omega (arith, k, skip),
      omega (arith, k, ap length c.text_is, length-append c.inner (c.closer ∷ c.after)),
    )

-- so does the text between parentheses
pub index_alone : (t : List ℕ) (n room : ℕ) (whole : Whole) → room ≤ 200 → joined_parts (no_parts (suc n)) t (Text Parens) (suc n) (rest_of t (within room) (suc n) (Text Parens) 0) ≡ Ok whole →
    (index_pieces_of (slice_range t (suc n) whole.close) ≡ Ok whole.pieces) × (suc n ≤ whole.close) × (suc whole.close ≤ length t)
index_alone t n room whole small h = index_read t n room whole (rest_of t (within room) (suc n) (Text Parens) 0) small refl h
