-- Words are read as the grammar says.
use Rattle.std.proofs.Common.{eqb-true, ◌≡◌, ◌≢◌, ℕ, ◌+◌, ◌-◌, Bool, true, false, if◌then◌else◌, not, ◌==◌, ◌&&◌, List, [], ◌∷◌, ◌++◌, length, nat_eq, refl, sym, ap, subst, ◌∙◌, append-nil, append_assoc, length-append, arith, Ok, Err}
use Rattle.std.proofs.lemmas.Bool.Decides.{nat_tests}
use Rattle.tcl_words.specs.Kinds.{kind_before, class_means}
use Rattle.tcl_words.specs.Classes.{class_of, begins_expansion}
use Rattle.tcl_words.specs.Grammar.{class_ends, ends_word}
use Rattle.tcl_text.specs.Backslash.{escape}
use Rattle.tcl_words.specs.Changes.{TextRest, Read, put, changed, word_pieces}
use Rattle.tcl_words.specs.Spans.{word_of}
use Rattle.tcl_words.specs.Changes.Change.{bytes as put_bytes, text_ends, word_ends, word_begins, command_ends}
use Rattle.tcl_words.specs.Moves.{ByteMove, move_of, on, lone, in_expanded, in_between, change_before, word_over}
use Rattle.tcl_words.specs.Moves.{at_fault as fails_with}
use Rattle.tcl_words.specs.Reading.{Level, rest_of, past, within, end_or_fault}
use Rattle.tcl_words.specs.Grammar.{TextEnding, fails, Inner, IsInnerOf, begins_bare, begins_expanded, IsBraced, IsUnclosed, IsOwnWord, IsFaultyOwn, HasExpansion, IsWord, IsFaultyWord}
use Rattle.tcl_words.specs.Grammar.IsOwnWord.{bare_word, quoted_word, braced_word}
use Rattle.tcl_words.specs.Grammar.IsFaultyOwn.{faulty_bare, faulty_quoted, followed_quoted, unclosed_braced, followed_braced}
use Rattle.tcl_words.specs.declared.kind.Mode.TheVariants.{Bare, Quotes}
use Rattle.tcl_words.specs.declared.kind.Kind.{Kind}
use Rattle.tcl_words.specs.declared.kind.Kind.TheVariants.{Blank, Newline, Semicolon, Hash, Dollar, Quote, OpenBracket, CloseBracket, OpenBrace, Expansion, CloseBrace, CloseParen, Backslash, Continuation, Other}
use Rattle.tcl_words.specs.declared.kind.BytePlace.{BytePlace}
use Rattle.tcl_words.specs.declared.kind.BytePlace.TheVariants.{Text, Start, Between, Expanded, PastQuotes, InBraces, PastBraces}
use Rattle.tcl_words.specs.declared.script.WordForm.{WordForm}
use Rattle.tcl_words.specs.declared.script.WordForm.TheVariants.{Bare as BareForm, Quoted as QuotedForm, Braced as BracedForm}
use Rattle.tcl_words.specs.declared.script.Piece.{Piece}
use Rattle.tcl_words.specs.declared.script.Piece.TheVariants.{Literal}
use Rattle.tcl_words.specs.declared.script.Word.{Word}
use Rattle.tcl_text.specs.declared.fault.ParseFault.{ParseFault}
use Rattle.tcl_text.specs.declared.fault.ParseFault.TheVariants.{MissingBracket, ExtraAfterBrace, ExtraAfterQuote}
use Rattle.tcl_words.proofs.ClassLemmas.{byte_is, expansion_or, other_class}
use Rattle.tcl_words.proofs.StepLemmas.{after_move, moved_by, read_at, put-put, put-none}
use Rattle.tcl_words.proofs.StopLemmas.{word_stops, quote_read}
use Rattle.tcl_words.proofs.StopLemmas.EndsWords.{bare_word as at_bare, quotes as at_quotes, braces as at_braces}
use Rattle.tcl_words.proofs.PiecesRead.{GivesText, GivesPieces, InnerReads, with_text, pieces_read}
use Rattle.tcl_words.proofs.BracesRead.{braces_read, unclosed_read, last_step, star_only, star_closed}

-- where a word's own text is read, and where the word began
abbrev pub word_place : Bool → BytePlace
word_place true = Expanded
word_place false = Between

abbrev pub word_start : Bool → ℕ → ℕ
word_start true at = at - 3
word_start false at = at

pub not_true : (t : Bool) → not t ≡ true → t ≡ false
not_true true h = cc
not_true false h = refl

pub both : (a b : Bool) → (a && b) ≡ true → (a ≡ true) × (b ≡ true)
both true b h = (refl, h)
both false b h = cc

pub same_byte : (b : ℕ) → (b == b) ≡ true
same_byte b = grind (arith, nat_tests)

pub other_byte : (b c : ℕ) → (b == c) ≡ false → b ≢ c
other_byte b c h e = absurd (grind (arith, nat_tests))

-- The first byte of a word.

bare_kinds : (expand inside : Bool) (kind : Kind) (b at : ℕ) (text : List ℕ) → class_ends inside kind text ≡ false → kind ≢ OpenBrace → kind ≢ Expansion → kind ≢ Quote → kind ≢ Continuation →
    move_of (word_place expand) (class_means inside kind text) b at text ≡ change_before (word_begins BareForm expand (word_start expand at)) (move_of (Text Bare) (class_means inside kind text) b at text)
bare_kinds expand inside OpenBrace b at text h h1 h2 h3 h4 = absurd (h1 refl)
bare_kinds expand inside Expansion b at text h h1 h2 h3 h4 = absurd (h2 refl)
bare_kinds expand inside Quote b at text h h1 h2 h3 h4 = absurd (h3 refl)
bare_kinds expand inside Continuation b at text h h1 h2 h3 h4 = absurd (h4 refl)
bare_kinds true inside Blank b at text h h1 h2 h3 h4 = cc
bare_kinds false inside Blank b at text h h1 h2 h3 h4 = cc
bare_kinds expand inside Newline b at text h h1 h2 h3 h4 = cc
bare_kinds expand inside Semicolon b at text h h1 h2 h3 h4 = cc
bare_kinds expand true CloseBracket b at text h h1 h2 h3 h4 = cc
bare_kinds true false CloseBracket b at text h h1 h2 h3 h4 = refl
bare_kinds false false CloseBracket b at text h h1 h2 h3 h4 = refl
bare_kinds true true CloseParen b at text h h1 h2 h3 h4 = refl
bare_kinds true false CloseParen b at text h h1 h2 h3 h4 = refl
bare_kinds false true CloseParen b at text h h1 h2 h3 h4 = refl
bare_kinds false false CloseParen b at text h h1 h2 h3 h4 = refl
bare_kinds true inside Backslash b at text h h1 h2 h3 h4 = rw h refl
bare_kinds false inside Backslash b at text h h1 h2 h3 h4 = rw h refl
bare_kinds true inside Hash b at text h h1 h2 h3 h4 = refl
bare_kinds false inside Hash b at text h h1 h2 h3 h4 = refl
bare_kinds true inside Dollar b at text h h1 h2 h3 h4 = refl
bare_kinds false inside Dollar b at text h h1 h2 h3 h4 = refl
bare_kinds true inside OpenBracket b at text h h1 h2 h3 h4 = refl
bare_kinds false inside OpenBracket b at text h h1 h2 h3 h4 = refl
bare_kinds true inside CloseBrace b at text h h1 h2 h3 h4 = refl
bare_kinds false inside CloseBrace b at text h h1 h2 h3 h4 = refl
bare_kinds true inside Other b at text h h1 h2 h3 h4 = refl
bare_kinds false inside Other b at text h h1 h2 h3 h4 = refl

begun : (level : Level) (form : WordForm) (expand : Bool) (start : ℕ) (move : ByteMove) (at : ℕ) (text : List ℕ) →
    after_move (change_before (word_begins form expand start) move) level at text ≡ put (changed (word_begins form expand start ∷ [])) (after_move move level at text)
begun level form expand start move at text =
    sym (put-put (changed (word_begins form expand start ∷ [])) (changed move.changes)
    (past move.step level.room at text (λ skip next. rest_of text level skip next (at + 1)) (λ room skip next. rest_of text (within room) skip next 0)))

pub bare_begins : (level : Level) (expand : Bool) (text : List ℕ) (at : ℕ) → begins_bare level.inside text ≡ true →
    rest_of text level 0 (word_place expand) at ≡ put (changed (word_begins BareForm expand (word_start expand at) ∷ [])) (rest_of text level 0 (Text Bare) at)
bare_begins level expand [] at h = cc
bare_begins level expand (b ∷ text) at h =
    let two = both (not (class_ends level.inside (class_of b) text)) (not (b == 123) && not (b == 34)) h in
    let more = both (not (b == 123)) (not (b == 34)) two.1 in
    let move : ByteMove = move_of (Text Bare) (kind_before level.inside b text) b at text in
    moved_by (change_before (word_begins BareForm expand (word_start expand at)) move) (word_place expand) b text level at
    (bare_kinds expand level.inside (class_of b) b at text (not_true (class_ends level.inside (class_of b) text) two.0)
    (other_class b 123 OpenBrace (not_true (b == 123) more.0) (byte_is b OpenBrace)) (λ e. byte_is b Expansion e)
    (other_class b 34 Quote (not_true (b == 34) more.1) (byte_is b Quote)) (λ e. byte_is b Continuation e))
    ∙ begun level BareForm expand (word_start expand at) move at text

quote_begins : (level : Level) (expand : Bool) (text : List ℕ) (at : ℕ) →
    rest_of (34 ∷ text) level 0 (word_place expand) at ≡ put (changed (word_begins QuotedForm expand (word_start expand at) ∷ [])) (rest_of text level 0 (Text Quotes) (at + 1))
unfolding class_of
quote_begins level true text at = refl
quote_begins level false text at = refl

-- no `{*}` is at the front of a word's own text where there was none before it
abbrev pub IsOwnFront : Bool → Bool → List ℕ → Type 0
IsOwnFront inside true text = Unit {0}
IsOwnFront inside false text = begins_expanded inside text ≡ false

-- no `{*}` is at the front, or the word was begun by one
abbrev IsBegun : Bool → List ℕ → Type 0
IsBegun true text = Unit {0}
IsBegun false text = begins_expansion text ≡ false

brace_begins : (level : Level) (expand : Bool) (text : List ℕ) (at : ℕ) → IsBegun expand text →
    rest_of (123 ∷ text) level 0 (word_place expand) at ≡ put (changed (word_begins BracedForm expand (word_start expand at) ∷ [])) (rest_of text level 0 (InBraces 0) (at + 1))
unfolding class_of
brace_begins level true text at h =
    moved_by (on (word_begins BracedForm true (at - 3) ∷ []) 0 (InBraces 0)) Expanded 123 text level at
    (expansion_or (λ k. move_of Expanded k 123 at text ≡ on (word_begins BracedForm true (at - 3) ∷ []) 0 (InBraces 0)) (begins_expansion text) refl refl)
brace_begins level false text at h =
    moved_by (on (word_begins BracedForm false at ∷ []) 0 (InBraces 0)) Between 123 text level at
    (ap (λ t. move_of Between (if t then Expansion else OpenBrace) 123 at text) h)

-- a word that was read, with its start and its end
abbrev pub word_front : Word → TextRest → TextRest
word_front word rest = record rest { bytes = []; pieces = []; end = 0; words = word ∷ rest.words }

bare_front : (expand : Bool) (start end : ℕ) (bytes : List ℕ) (after : List Piece) (r : Read) →
    put (changed (word_begins BareForm expand start ∷ [])) (put (with_text bytes after) (put (changed (word_ends end ∷ [])) r)) ≡ put (word_front (word_of BareForm expand start (word_pieces BareForm bytes after) end)) r
bare_front expand start end bytes after (Ok rest) = refl
bare_front expand start end bytes after (Err fault) = refl

quoted_front : (expand : Bool) (start end : ℕ) (bytes : List ℕ) (after : List Piece) (r : Read) →
    put (changed (word_begins QuotedForm expand start ∷ [])) (put (with_text bytes after) (put (changed (text_ends ∷ [])) (put (changed (word_ends end ∷ [])) r)))
    ≡ put (word_front (word_of QuotedForm expand start (word_pieces QuotedForm bytes after) end)) r
quoted_front expand start end bytes after (Ok rest) = refl
quoted_front expand start end bytes after (Err fault) = refl

braced_front : (expand : Bool) (start end : ℕ) (value : List ℕ) (r : Read) →
    put (changed (word_begins BracedForm expand start ∷ [])) (put (changed (put_bytes value ∷ [])) (put (changed (text_ends ∷ [])) (put (changed (word_ends end ∷ [])) r)))
    ≡ put (word_front (word_of BracedForm expand start (Literal value ∷ []) end)) r
braced_front expand start end value (Ok rest) = ap (λ t. Ok (word_front (word_of BracedForm expand start (Literal t ∷ []) end) rest)) (append-nil value)
braced_front expand start end value (Err fault) = refl

-- `{*}`
mark_read : (level : Level) (text : List ℕ) (at : ℕ) → rest_of (123 ∷ 42 ∷ 125 ∷ text) level 0 Between at ≡ rest_of text level 0 Expanded (at + 3)
unfolding class_of
mark_read level text at =
    let e : at + 1 + 1 + 1 ≡ at + 3 = omega arith in
    moved_by (on [] 2 Expanded) Between 123 (42 ∷ 125 ∷ text) level at refl
    ∙ put-none (rest_of text level 0 Expanded (at + 1 + 1 + 1))
    ∙ read_at text level Expanded (at + 1 + 1 + 1) (at + 3) e

-- the word `*` in braces
abbrev star_word : ℕ → Word
star_word end = word_of BracedForm false (end - 3) (Literal (42 ∷ []) ∷ []) end

lone_on : (at : ℕ) (r : Read) → put (changed (lone at ++ word_ends at ∷ [])) r ≡ put (word_front (star_word at)) (put (changed []) r)
lone_on at (Ok rest) = refl
lone_on at (Err fault) = refl

lone_ends : (at : ℕ) (r : Read) → put (changed (lone at ++ word_ends at ∷ command_ends ∷ [])) r ≡ put (word_front (star_word at)) (put (changed (command_ends ∷ [])) r)
lone_ends at (Ok rest) = refl
lone_ends at (Err fault) = refl

lone_kind : (inside : Bool) (kind : Kind) (b at : ℕ) (text : List ℕ) (level : Level) → class_ends inside kind text ≡ true →
    after_move (in_expanded (class_means inside kind text) b at text) level at text ≡ put (word_front (star_word at)) (after_move (in_between (class_means inside kind text) b at text) level at text)
lone_kind inside Blank b at text level e = lone_on at (rest_of text level 0 Between (at + 1))
lone_kind inside Newline b at text level e = lone_ends at (rest_of text level 0 Start (at + 1))
lone_kind inside Semicolon b at text level e = lone_ends at (rest_of text level 0 Start (at + 1))
lone_kind true CloseBracket b at text level e = refl
lone_kind false CloseBracket b at text level e = cc
lone_kind inside Backslash b at text level e = rw e (lone_on at (rest_of text level (escape text).length Between (at + 1)))
lone_kind inside Hash b at text level e = cc
lone_kind inside Dollar b at text level e = cc
lone_kind inside Quote b at text level e = cc
lone_kind inside OpenBracket b at text level e = cc
lone_kind inside OpenBrace b at text level e = cc
lone_kind inside Expansion b at text level e = cc
lone_kind inside CloseBrace b at text level e = cc
lone_kind inside CloseParen b at text level e = cc
lone_kind inside Continuation b at text level e = cc
lone_kind inside Other b at text level e = cc

lone_end : (t : Bool) (at : ℕ) → put (changed (lone at)) (end_or_fault t MissingBracket at) ≡ put (word_front (star_word at)) (end_or_fault t MissingBracket at)
lone_end true at = refl
lone_end false at = refl

lone_read : (level : Level) (rest : List ℕ) (at : ℕ) → ends_word level.inside rest ≡ true → rest_of rest level 0 Expanded at ≡ put (word_front (star_word at)) (rest_of rest level 0 Between at)
lone_read level [] at e = lone_end level.inside at
lone_read level (b ∷ text) at e = lone_kind level.inside (class_of b) b at text level e

-- `*}` is at the front
pub two_bytes : (text : List ℕ) → begins_expansion text ≡ true → (rest : List ℕ) × (text ≡ 42 ∷ 125 ∷ rest)
two_bytes [] h = cc
two_bytes (b ∷ []) h = let f : false ≡ true = (both (nat_eq 42 b) false h).1 in cc
two_bytes (b ∷ c ∷ text) h =
    let one = both (nat_eq 42 b) (nat_eq 125 c && true) h in
    let two = both (nat_eq 125 c) true one.1 in
    let e : 42 ≡ b = eqb-true 42 b one.0 in
    let f : 125 ≡ c = eqb-true 125 c two.0 in
    (text, ap (λ x. x ∷ c ∷ text) (sym e) ∙ ap (λ x. 42 ∷ x ∷ text) (sym f))

-- A word in braces.

abbrev BracedGiven : Level → Bool → ℕ → List ℕ → List ℕ → List ℕ → Type 0
BracedGiven level expand at own value rest =
    rest_of (123 ∷ (own ++ 125 ∷ rest)) level 0 (word_place expand) at
    ≡ put (word_front (word_of BracedForm expand (word_start expand at) (Literal value ∷ []) (at + 1 + length own + 1))) (rest_of rest level 0 Between (at + 1 + length own + 1))

braces_begun : (level : Level) (expand : Bool) (at : ℕ) (own value rest : List ℕ) → IsBraced own value → ends_word level.inside rest ≡ true → IsBegun expand (own ++ 125 ∷ rest) → BracedGiven level expand at own value rest
braces_begun level expand at own value rest are ends begun_by =
    let end : ℕ = at + 1 + length own + 1 in
    brace_begins level expand (own ++ 125 ∷ rest) at begun_by
    ∙ ap (put (changed (word_begins BracedForm expand (word_start expand at) ∷ [])))
    (braces_read level are 0 (125 ∷ rest) (at + 1) refl ∙ ap (put (changed (put_bytes value ∷ []))) (last_step level rest (at + 1 + length own) ∙ ap (put (changed (text_ends ∷ []))) (word_stops level PastBraces rest end at_braces ends)))
    ∙ braced_front expand (word_start expand at) end value (rest_of rest level 0 Between end)

star_given : (level : Level) (at : ℕ) (own value rest : List ℕ) → ends_word level.inside rest ≡ true → own ≡ 42 ∷ [] → value ≡ 42 ∷ [] → BracedGiven level false at own value rest
star_given level at own value rest ends is means =
    let start : (at + 3) - 3 ≡ at = omega arith in
    let end : at + 3 ≡ at + 1 + length own + 1 = omega (arith, ap length is) in
    ap (λ t. rest_of (123 ∷ (t ++ 125 ∷ rest)) level 0 Between at) is
    ∙ mark_read level rest at
    ∙ lone_read level rest (at + 3) ends
    ∙ ap (λ n. put (word_front (word_of BracedForm false n (Literal (42 ∷ []) ∷ []) (at + 3))) (rest_of rest level 0 Between (at + 3))) start
    ∙ ap (λ t. put (word_front (word_of BracedForm false at (Literal t ∷ []) (at + 3))) (rest_of rest level 0 Between (at + 3))) (sym means)
    ∙ ap (λ n. put (word_front (word_of BracedForm false at (Literal value ∷ []) n)) (rest_of rest level 0 Between n)) end

braced_given : (level : Level) (expand : Bool) (at : ℕ) (own value rest : List ℕ) → IsBraced own value → ends_word level.inside rest ≡ true → BracedGiven level expand at own value rest
braced_given level true at own value rest are ends = braces_begun level true at own value rest are ends tt
braced_given level false at own value rest are ends = go (begins_expansion (own ++ 125 ∷ rest)) refl
  where
    star : (t : List ℕ) → own ++ 125 ∷ rest ≡ 42 ∷ 125 ∷ t → BracedGiven level false at own value rest
    star t e = let is = star_only own value rest t are e in star_given level at own value rest ends is.0 is.1

    go : (t : Bool) → begins_expansion (own ++ 125 ∷ rest) ≡ t → BracedGiven level false at own value rest
    go true e = let two = two_bytes (own ++ 125 ∷ rest) e in star two.0 two.1
    go false e = braces_begun level false at own value rest are ends e

-- a word's own text
pub own_read : (inside : Bool) (room : ℕ) → InnerReads room → {rest own : List ℕ} {form : WordForm} {pieces : List Piece} → IsOwnWord (IsInnerOf room) inside rest own form pieces →
    (expand : Bool) (at : ℕ) → ends_word inside rest ≡ true →
    rest_of (own ++ rest) (record { inside = inside; room = room }) 0 (word_place expand) at
    ≡ put (word_front (word_of form expand (word_start expand at) pieces (at + length own))) (rest_of rest (record { inside = inside; room = room }) 0 Between (at + length own))
own_read inside room inner {rest} (bare_word {own} {pieces} first are) expand at ends =
    let level : Level = record { inside = inside; room = room } in
    let g : GivesText level Bare at (own ++ rest) pieces rest = pieces_read inside room Bare inner are at in
    let m : g.end ≡ at + length own = omega (arith, g.at_end, length-append own rest) in
    bare_begins level expand (own ++ rest) at first
    ∙ ap (put (changed (word_begins BareForm expand (word_start expand at) ∷ []))) (g.is ∙ ap (put (with_text g.bytes g.after)) (word_stops level (Text Bare) rest g.end at_bare ends))
    ∙ bare_front expand (word_start expand at) g.end g.bytes g.after (rest_of rest level 0 Between g.end)
    ∙ ap (λ p. put (word_front (word_of BareForm expand (word_start expand at) p g.end)) (rest_of rest level 0 Between g.end)) g.joined
    ∙ ap (λ n. put (word_front (word_of BareForm expand (word_start expand at) pieces n)) (rest_of rest level 0 Between n)) m
own_read inside room inner {rest} (quoted_word own {pieces} are) expand at ends =
    let level : Level = record { inside = inside; room = room } in
    let g : GivesText level Quotes (at + 1) (own ++ 34 ∷ rest) pieces (34 ∷ rest) = pieces_read inside room Quotes inner are (at + 1) in
    let m : g.end + 1 ≡ at + length (34 ∷ (own ++ 34 ∷ [])) = omega (arith, g.at_end, length-append own (34 ∷ rest), length-append own (34 ∷ [])) in
    ap (λ t. rest_of (34 ∷ t) level 0 (word_place expand) at) (append_assoc own (34 ∷ []) rest)
    ∙ quote_begins level expand (own ++ 34 ∷ rest) at
    ∙ ap (put (changed (word_begins QuotedForm expand (word_start expand at) ∷ [])))
    (g.is ∙ ap (put (with_text g.bytes g.after)) (quote_read level rest g.end ∙ ap (put (changed (text_ends ∷ []))) (word_stops level PastQuotes rest (g.end + 1) at_quotes ends)))
    ∙ quoted_front expand (word_start expand at) (g.end + 1) g.bytes g.after (rest_of rest level 0 Between (g.end + 1))
    ∙ ap (λ p. put (word_front (word_of QuotedForm expand (word_start expand at) p (g.end + 1))) (rest_of rest level 0 Between (g.end + 1))) g.joined
    ∙ ap (λ n. put (word_front (word_of QuotedForm expand (word_start expand at) pieces n)) (rest_of rest level 0 Between n)) m
own_read inside room inner {rest} (braced_word own {value} are) expand at ends =
    let level : Level = record { inside = inside; room = room } in
    let e : 123 ∷ ((own ++ 125 ∷ []) ++ rest) ≡ 123 ∷ (own ++ 125 ∷ rest) = ap (λ t. 123 ∷ t) (append_assoc own (125 ∷ []) rest) in
    let end : ℕ = at + 1 + length own + 1 in
    let m : end ≡ at + length (123 ∷ (own ++ 125 ∷ [])) = omega (arith, length-append own (125 ∷ [])) in
    ap (λ t. rest_of t level 0 (word_place expand) at) e
    ∙ braced_given level expand at own value rest are ends
    ∙ ap (λ n. put (word_front (word_of BracedForm expand (word_start expand at) (Literal value ∷ []) n)) (rest_of rest level 0 Between n)) m

-- What follows the quote or the brace that ends a word.

over_other : (inside : Bool) (kind : Kind) (at : ℕ) (text : List ℕ) (other : ByteMove) → class_ends inside kind text ≡ false → kind ≢ Continuation → word_over (class_means inside kind text) at text other ≡ other
over_other inside Blank at text other h n = cc
over_other inside Newline at text other h n = cc
over_other inside Semicolon at text other h n = cc
over_other inside Continuation at text other h n = absurd (n refl)
over_other true CloseBracket at text other h n = cc
over_other false CloseBracket at text other h n = refl
over_other true CloseParen at text other h n = refl
over_other false CloseParen at text other h n = refl
over_other inside Backslash at text other h n = rw h refl
over_other inside OpenBrace at text other h n = expansion_or (λ k. word_over k at text other ≡ other) (begins_expansion text) refl refl
over_other inside Hash at text other h n = refl
over_other inside Dollar at text other h n = refl
over_other inside Quote at text other h n = refl
over_other inside OpenBracket at text other h n = refl
over_other inside Expansion at text other h n = refl
over_other inside CloseBrace at text other h n = refl
over_other inside Other at text other h n = refl

quote_followed : (level : Level) (rest : List ℕ) (at : ℕ) → ends_word level.inside rest ≡ false → rest_of rest level 0 PastQuotes at ≡ Err ExtraAfterQuote
quote_followed level [] at h = cc
quote_followed level (b ∷ text) at h = moved_by (fails_with ExtraAfterQuote) PastQuotes b text level at (over_other level.inside (class_of b) at text (fails_with ExtraAfterQuote) h (λ e. byte_is b Continuation e))

brace_followed : (level : Level) (rest : List ℕ) (at : ℕ) → ends_word level.inside rest ≡ false → rest_of rest level 0 PastBraces at ≡ Err ExtraAfterBrace
brace_followed level [] at h = cc
brace_followed level (b ∷ text) at h = moved_by (fails_with ExtraAfterBrace) PastBraces b text level at (over_other level.inside (class_of b) at text (fails_with ExtraAfterBrace) h (λ e. byte_is b Continuation e))

unclosed_begun : (inside expand : Bool) (text : List ℕ) → IsUnclosed text → IsOwnFront inside expand (123 ∷ text) → IsBegun expand text
unclosed_begun inside true text h front = tt
unclosed_begun inside false text h front = go (begins_expansion text) refl
  where
    go : (t : Bool) → begins_expansion text ≡ t → t ≡ false
    go true e = let two = two_bytes text e in absurd (star_closed text two.0 h two.1)
    go false e = refl

pub true_false : true ≡ false → ⊥
true_false e = cc

star_mark : (inside : Bool) (rest : List ℕ) → begins_expanded inside (123 ∷ 42 ∷ 125 ∷ rest) ≡ not (ends_word inside rest)
star_mark inside rest = refl

star_followed : (inside : Bool) (own rest : List ℕ) → own ≡ 42 ∷ [] → ends_word inside rest ≡ false → begins_expanded inside (123 ∷ (own ++ 125 ∷ rest)) ≡ false → ⊥
star_followed inside own rest is other front =
    true_false (ap not (sym other) ∙ sym (star_mark inside rest) ∙ ap (λ t. begins_expanded inside (123 ∷ (t ++ 125 ∷ rest))) (sym is) ∙ front)

followed_begun : (inside expand : Bool) (own value rest : List ℕ) → IsBraced own value → ends_word inside rest ≡ false → IsOwnFront inside expand (123 ∷ (own ++ 125 ∷ rest)) → IsBegun expand (own ++ 125 ∷ rest)
followed_begun inside true own value rest are other front = tt
followed_begun inside false own value rest are other front = go (begins_expansion (own ++ 125 ∷ rest)) refl
  where
    go : (t : Bool) → begins_expansion (own ++ 125 ∷ rest) ≡ t → t ≡ false
    go true e = let two = two_bytes (own ++ 125 ∷ rest) e in absurd (star_followed inside own rest (star_only own value rest two.0 are two.1).0 other front)
    go false e = refl

own_fault : (inside : Bool) (room : ℕ) → InnerReads room → {text : List ℕ} {fault : ParseFault} → IsFaultyOwn (IsInnerOf room) inside text fault →
    (expand : Bool) (at : ℕ) → IsOwnFront inside expand text → rest_of text (record { inside = inside; room = room }) 0 (word_place expand) at ≡ Err fault
own_fault inside room inner (faulty_bare {text} {pieces} {fault} first are) expand at front =
    let level : Level = record { inside = inside; room = room } in
    let g : GivesPieces level Bare at text pieces (fails fault) = pieces_read inside room Bare inner are at in
    bare_begins level expand text at first ∙ ap (put (changed (word_begins BareForm expand (word_start expand at) ∷ []))) g
own_fault inside room inner (faulty_quoted {text} {pieces} {fault} are) expand at front =
    let level : Level = record { inside = inside; room = room } in
    let g : GivesPieces level Quotes (at + 1) text pieces (fails fault) = pieces_read inside room Quotes inner are (at + 1) in
    quote_begins level expand text at ∙ ap (put (changed (word_begins QuotedForm expand (word_start expand at) ∷ []))) g
own_fault inside room inner (followed_quoted own rest {pieces} are other) expand at front =
    let level : Level = record { inside = inside; room = room } in
    let g : GivesText level Quotes (at + 1) (own ++ 34 ∷ rest) pieces (34 ∷ rest) = pieces_read inside room Quotes inner are (at + 1) in
    quote_begins level expand (own ++ 34 ∷ rest) at
    ∙ ap (put (changed (word_begins QuotedForm expand (word_start expand at) ∷ [])))
    (g.is ∙ ap (put (with_text g.bytes g.after)) (quote_read level rest g.end ∙ ap (put (changed (text_ends ∷ []))) (quote_followed level rest (g.end + 1) other)))
own_fault inside room inner (unclosed_braced {text} h) expand at front =
    let level : Level = record { inside = inside; room = room } in
    brace_begins level expand text at (unclosed_begun inside expand text h front) ∙ ap (put (changed (word_begins BracedForm expand (word_start expand at) ∷ []))) (unclosed_read level h 0 (at + 1))
own_fault inside room inner (followed_braced own rest {value} are other) expand at front =
    let level : Level = record { inside = inside; room = room } in
    brace_begins level expand (own ++ 125 ∷ rest) at (followed_begun inside expand own value rest are other front)
    ∙ ap (put (changed (word_begins BracedForm expand (word_start expand at) ∷ [])))
    (braces_read level are 0 (125 ∷ rest) (at + 1) refl
    ∙ ap (put (changed (put_bytes value ∷ []))) (last_step level rest (at + 1 + length own) ∙ ap (put (changed (text_ends ∷ []))) (brace_followed level rest (at + 1 + length own + 1) other)))

-- a word
pub word_read : (inside : Bool) (room : ℕ) → InnerReads room → (rest : List ℕ) (at : ℕ) (text : List ℕ) (word : Word) → IsWord (IsInnerOf room) inside rest at text word →
    rest_of (text ++ rest) (record { inside = inside; room = room }) 0 Between at ≡ put (word_front word) (rest_of rest (record { inside = inside; room = room }) 0 Between (at + length text))
word_read inside room inner rest at text word is = marked is.expand is.marked is.same
  where
    level : Level
    level = record { inside = inside; room = room }

    given : Bool → ℕ → ℕ → Read
    given expand start end = put (word_front (word_of is.form expand start is.pieces end)) (rest_of rest level 0 Between end)

    marked : (expand : Bool) → HasExpansion inside expand is.mark (is.own ++ rest) → word ≡ word_of is.form expand at is.pieces (at + length text) →
        rest_of (text ++ rest) level 0 Between at ≡ put (word_front word) (rest_of rest level 0 Between (at + length text))
    marked false (e, none) same =
        let text_is : text ≡ is.own = is.cut ∙ ap (λ t. t ++ is.own) e in
        ap (λ t. rest_of (t ++ rest) level 0 Between at) text_is
        ∙ own_read inside room inner is.is false at is.ends
        ∙ ap (λ t. given false at (at + length t)) (sym text_is)
        ∙ ap (λ w. put (word_front w) (rest_of rest level 0 Between (at + length text))) (sym same)
    marked true (e, other) same =
        let text_is : text ≡ 123 ∷ 42 ∷ 125 ∷ is.own = is.cut ∙ ap (λ t. t ++ is.own) e in
        let m : (at + 3) - 3 ≡ at = omega arith in
        let n : (at + 3) + length is.own ≡ at + length (123 ∷ 42 ∷ 125 ∷ is.own) = omega arith in
        ap (λ t. rest_of (t ++ rest) level 0 Between at) text_is
        ∙ mark_read level (is.own ++ rest) at
        ∙ own_read inside room inner is.is true (at + 3) is.ends
        ∙ ap (λ k. given true k ((at + 3) + length is.own)) m
        ∙ ap (given true at) n
        ∙ ap (λ t. given true at (at + length t)) (sym text_is)
        ∙ ap (λ w. put (word_front w) (rest_of rest level 0 Between (at + length text))) (sym same)

pub faulty_word_read : (inside : Bool) (room : ℕ) → InnerReads room → (at : ℕ) (text : List ℕ) (fault : ParseFault) → IsFaultyWord (IsInnerOf room) inside text fault →
    rest_of text (record { inside = inside; room = room }) 0 Between at ≡ Err fault
faulty_word_read inside room inner at text fault is = marked is.expand is.marked
  where
    level : Level
    level = record { inside = inside; room = room }

    marked : (expand : Bool) → HasExpansion inside expand is.mark is.own → rest_of text level 0 Between at ≡ Err fault
    marked false (e, none) = ap (λ t. rest_of t level 0 Between at) (is.cut ∙ ap (λ t. t ++ is.own) e) ∙ own_fault inside room inner is.is false at none
    marked true (e, other) =
        ap (λ t. rest_of t level 0 Between at) (is.cut ∙ ap (λ t. t ++ is.own) e) ∙ mark_read level is.own at ∙ own_fault inside room inner is.is true (at + 3) tt

-- A word's first byte ends no word.

pub own_open : (IsInner : Inner → List ℕ → TextEnding → Type 0) (inside : Bool) {rest own : List ℕ} {form : WordForm} {pieces : List Piece} → IsOwnWord IsInner inside rest own form pieces → ends_word inside (own ++ rest) ≡ false
unfolding class_of
own_open IsInner inside {rest} (bare_word {own} {pieces} first are) = not_true (ends_word inside (own ++ rest)) (both (not (ends_word inside (own ++ rest))) _ first).0
own_open IsInner inside {rest} (quoted_word own are) = refl
own_open IsInner inside {rest} (braced_word own are) = refl

faulty_open : (IsInner : Inner → List ℕ → TextEnding → Type 0) (inside : Bool) {text : List ℕ} {fault : ParseFault} → IsFaultyOwn IsInner inside text fault → ends_word inside text ≡ false
unfolding class_of
faulty_open IsInner inside (faulty_bare {text} first are) = not_true (ends_word inside text) (both (not (ends_word inside text)) _ first).0
faulty_open IsInner inside (faulty_quoted are) = refl
faulty_open IsInner inside (followed_quoted own rest are other) = refl
faulty_open IsInner inside (unclosed_braced h) = refl
faulty_open IsInner inside (followed_braced own rest are other) = refl

brace_open : (inside : Bool) (text : List ℕ) → ends_word inside (123 ∷ text) ≡ false
unfolding class_of
brace_open inside text = refl

marked_open : (inside expand : Bool) (mark own rest text : List ℕ) → text ≡ mark ++ own → HasExpansion inside expand mark (own ++ rest) → ends_word inside (own ++ rest) ≡ false → ends_word inside (text ++ rest) ≡ false
marked_open inside false mark own rest text cut (e, none) h = ap (λ t. ends_word inside (t ++ rest)) (cut ∙ ap (λ t. t ++ own) e) ∙ h
marked_open inside true mark own rest text cut (e, other) h = ap (λ t. ends_word inside (t ++ rest)) (cut ∙ ap (λ t. t ++ own) e) ∙ brace_open inside (42 ∷ 125 ∷ (own ++ rest))

pub word_open : (IsInner : Inner → List ℕ → TextEnding → Type 0) (inside : Bool) (rest : List ℕ) (at : ℕ) (text : List ℕ) (word : Word) → IsWord IsInner inside rest at text word → ends_word inside (text ++ rest) ≡ false
word_open IsInner inside rest at text word is = marked_open inside is.expand is.mark is.own rest text is.cut is.marked (own_open IsInner inside is.is)

pub faulty_word_open : (IsInner : Inner → List ℕ → TextEnding → Type 0) (inside : Bool) (text : List ℕ) (fault : ParseFault) → IsFaultyWord IsInner inside text fault → ends_word inside text ≡ false
faulty_word_open IsInner inside text fault is =
    ap (ends_word inside) (sym (append-nil text))
    ∙ marked_open inside is.expand is.mark is.own [] text is.cut (subst (HasExpansion inside is.expand is.mark) (sym (append-nil is.own)) is.marked) (ap (ends_word inside) (append-nil is.own) ∙ faulty_open IsInner inside is.is)
