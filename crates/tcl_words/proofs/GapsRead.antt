-- Blanks, gaps and comments are read as the grammar says, and so is the end of a script.
use Rattle.std.proofs.Common.{◌≡◌, ◌≢◌, ℕ, suc, ◌+◌, inl, inr, Bool, true, false, ◌==◌, ◌||◌, if◌then◌else◌, List, [], ◌∷◌, ◌++◌, length, take, refl, sym, ap, ◌∙◌, eqb-true, append_assoc, append-nil, length-append, arith, Ok}
use Rattle.tcl_text.specs.Backslash.{escape, blanks}
use Rattle.tcl_words.specs.Kinds.{kind_before, class_means}
use Rattle.tcl_words.specs.Classes.{class_of, begins_newline, begins_expansion}
use Rattle.tcl_words.specs.Grammar.{class_ends, ends_word}
use Rattle.tcl_words.specs.Changes.{put, changed, last_rest}
use Rattle.tcl_words.specs.Changes.Change.{command_begins}
use Rattle.tcl_words.specs.Moves.{ByteMove, move_of, on, in_comment, change_before}
use Rattle.tcl_words.specs.Reading.{Level, rest_of, past, within, end_or_fault}
use Rattle.tcl_words.specs.Grammar.{begins, IsSeparator, AreBlanks, IsNote, IsLastNote, IsGap}
use Rattle.tcl_words.specs.Grammar.AreBlanks.{none as no_blanks, blank as one_blank, continuation as continued_blanks}
use Rattle.tcl_words.specs.Grammar.IsNote.{none as no_note, byte as note_byte, pair as note_pair}
use Rattle.tcl_words.specs.Grammar.IsGap.{none as no_gap, blank, continuation, separator, comment}
use Rattle.tcl_words.specs.declared.kind.Kind.{Kind}
use Rattle.tcl_words.specs.declared.kind.Kind.TheVariants.{Blank, Newline, Semicolon, Hash, CloseBracket, OpenBrace, CloseParen, Backslash, Continuation}
use Rattle.tcl_words.specs.declared.kind.BytePlace.{BytePlace}
use Rattle.tcl_words.specs.declared.kind.BytePlace.TheVariants.{Start, Comment, Between}
use Rattle.tcl_text.specs.declared.fault.ParseFault.TheVariants.{MissingBracket}
use Rattle.tcl_words.proofs.ClassLemmas.{byte_is, expansion_or, continuation_or, other_class}
use Rattle.tcl_words.proofs.StepLemmas.{moved_by, read_at, put-put, put-none}

-- where blanks are passed over
pub data IsOpen : BytePlace → Type 0 where
  at_start : IsOpen Start
  at_between : IsOpen Between

open_blank : (place : BytePlace) → IsOpen place → (level : Level) (b : ℕ) (text : List ℕ) (at : ℕ) → class_of b ≡ Blank → rest_of (b ∷ text) level 0 place at ≡ rest_of text level 0 place (at + 1)
open_blank place at_start level b text at e =
    moved_by (on [] 0 Start) Start b text level at (ap (λ k. move_of Start (class_means level.inside k text) b at text) e) ∙ put-none (rest_of text level 0 Start (at + 1))
open_blank place at_between level b text at e =
    moved_by (on [] 0 Between) Between b text level at (ap (λ k. move_of Between (class_means level.inside k text) b at text) e) ∙ put-none (rest_of text level 0 Between (at + 1))

class_32 : class_of 32 ≡ Blank
unfolding class_of
class_32 = refl

class_9 : class_of 9 ≡ Blank
unfolding class_of
class_9 = refl

pub space_class : (b : ℕ) → (b == 32 || b == 9) ≡ true → class_of b ≡ Blank
space_class b h = go (b == 32) refl h
  where
    go : (t : Bool) → (b == 32) ≡ t → (t || b == 9) ≡ true → class_of b ≡ Blank
    go true e k = ap class_of (eqb-true b 32 e) ∙ class_32
    go false e k = ap class_of (eqb-true b 9 k) ∙ class_9

-- the blanks behind a newline are passed over in any case
skip_blanks : (place : BytePlace) → IsOpen place → (level : Level) (text : List ℕ) (at : ℕ) → rest_of text level (blanks text) place at ≡ rest_of text level 0 place at
skip_blanks place h level [] at = refl
skip_blanks place h level (b ∷ text) at = go (skip_blanks place h level text (at + 1)) (b == 32 || b == 9) refl
  where
    go : rest_of text level (blanks text) place (at + 1) ≡ rest_of text level 0 place (at + 1) → (t : Bool) → (b == 32 || b == 9) ≡ t → rest_of (b ∷ text) level (if t then suc (blanks text) else 0) place at ≡ rest_of (b ∷ text) level 0 place at
    go further true e = further ∙ sym (open_blank place h level b text at (space_class b e))
    go further false e = refl

escape-newline : (text : List ℕ) → (escape (10 ∷ text)).length ≡ suc (blanks text)
unfolding escape
escape-newline text = refl

open_continued : (place : BytePlace) → IsOpen place → (level : Level) (text : List ℕ) (at : ℕ) → rest_of (92 ∷ 10 ∷ text) level 0 place at ≡ rest_of text level 0 place (at + 1 + 1)
unfolding class_of
open_continued place at_start level text at =
    moved_by (on [] (escape (10 ∷ text)).length Start) Start 92 (10 ∷ text) level at refl
    ∙ put-none (rest_of (10 ∷ text) level (escape (10 ∷ text)).length Start (at + 1))
    ∙ ap (λ n. rest_of (10 ∷ text) level n Start (at + 1)) (escape-newline text)
    ∙ skip_blanks Start at_start level text (at + 1 + 1)
open_continued place at_between level text at =
    moved_by (on [] (escape (10 ∷ text)).length Between) Between 92 (10 ∷ text) level at refl
    ∙ put-none (rest_of (10 ∷ text) level (escape (10 ∷ text)).length Between (at + 1))
    ∙ ap (λ n. rest_of (10 ∷ text) level n Between (at + 1)) (escape-newline text)
    ∙ skip_blanks Between at_between level text (at + 1 + 1)

pub blanks_read : (level : Level) {own : List ℕ} → AreBlanks own → (follow : List ℕ) (at : ℕ) → rest_of (own ++ follow) level 0 Between at ≡ rest_of follow level 0 Between (at + length own)
blanks_read level no_blanks follow at = let e : at ≡ at + 0 = omega arith in read_at follow level Between at (at + 0) e
blanks_read level (one_blank {b} {text} k h) follow at =
    let e : at + 1 + length text ≡ at + suc (length text) = omega arith in
    open_blank Between at_between level b (text ++ follow) at k ∙ blanks_read level h follow (at + 1) ∙ read_at follow level Between (at + 1 + length text) (at + suc (length text)) e
blanks_read level (continued_blanks {text} h) follow at =
    let e : at + 1 + 1 + length text ≡ at + suc (suc (length text)) = omega arith in
    open_continued Between at_between level (text ++ follow) at ∙ blanks_read level h follow (at + 1 + 1) ∙ read_at follow level Between (at + 1 + 1 + length text) (at + suc (suc (length text))) e

note_kinds : (inside : Bool) (kind : Kind) (text : List ℕ) → kind ≢ Newline → kind ≢ Backslash → kind ≢ Continuation → in_comment (class_means inside kind text) text ≡ on [] 0 Comment
note_kinds inside Newline text h1 h2 h3 = absurd (h1 refl)
note_kinds inside Backslash text h1 h2 h3 = absurd (h2 refl)
note_kinds inside Continuation text h1 h2 h3 = absurd (h3 refl)
note_kinds true CloseBracket text h1 h2 h3 = refl
note_kinds false CloseBracket text h1 h2 h3 = refl
note_kinds true CloseParen text h1 h2 h3 = refl
note_kinds false CloseParen text h1 h2 h3 = refl
note_kinds inside OpenBrace text h1 h2 h3 = expansion_or (λ k. in_comment k text ≡ on [] 0 Comment) (begins_expansion text) refl refl
note_kinds inside kind text h1 h2 h3 = refl

note_step : (level : Level) (b : ℕ) (text : List ℕ) (at : ℕ) → b ≢ 10 → b ≢ 92 → rest_of (b ∷ text) level 0 Comment at ≡ rest_of text level 0 Comment (at + 1)
note_step level b text at h k =
    moved_by (on [] 0 Comment) Comment b text level at (note_kinds level.inside (class_of b) text (λ e. h (byte_is b Newline e)) (λ e. k (byte_is b Backslash e)) (λ e. byte_is b Continuation e))
    ∙ put-none (rest_of text level 0 Comment (at + 1))

pair_step : (level : Level) (text : List ℕ) (at : ℕ) → rest_of (92 ∷ text) level 0 Comment at ≡ rest_of text level (length (take 1 text)) Comment (at + 1)
unfolding class_of
pair_step level text at =
    moved_by (on [] (length (take 1 text)) Comment) Comment 92 text level at (continuation_or (λ k. in_comment k text ≡ on [] (length (take 1 text)) Comment) (begins_newline text) refl refl)
    ∙ put-none (rest_of text level (length (take 1 text)) Comment (at + 1))

pub note_read : (level : Level) {note : List ℕ} → IsNote note → (follow : List ℕ) (at : ℕ) → rest_of (note ++ follow) level 0 Comment at ≡ rest_of follow level 0 Comment (at + length note)
note_read level no_note follow at = let e : at ≡ at + 0 = omega arith in read_at follow level Comment at (at + 0) e
note_read level (note_byte {b} {text} h k more) follow at =
    let e : at + 1 + length text ≡ at + suc (length text) = omega arith in
    note_step level b (text ++ follow) at h k ∙ note_read level more follow (at + 1) ∙ read_at follow level Comment (at + 1 + length text) (at + suc (length text)) e
note_read level (note_pair {b} {text} more) follow at =
    let e : at + 1 + 1 + length text ≡ at + suc (suc (length text)) = omega arith in
    pair_step level (b ∷ (text ++ follow)) at ∙ note_read level more follow (at + 1 + 1) ∙ read_at follow level Comment (at + 1 + 1 + length text) (at + suc (suc (length text))) e

pub hash_read : (level : Level) (text : List ℕ) (at : ℕ) → rest_of (35 ∷ text) level 0 Start at ≡ rest_of text level 0 Comment (at + 1)
unfolding class_of
hash_read level text at = moved_by (on [] 0 Comment) Start 35 text level at refl ∙ put-none (rest_of text level 0 Comment (at + 1))

note_ends : (level : Level) (text : List ℕ) (at : ℕ) → rest_of (10 ∷ text) level 0 Comment at ≡ rest_of text level 0 Start (at + 1)
unfolding class_of
note_ends level text at = moved_by (on [] 0 Start) Comment 10 text level at refl ∙ put-none (rest_of text level 0 Start (at + 1))

start_newline : (level : Level) (text : List ℕ) (at : ℕ) → rest_of (10 ∷ text) level 0 Start at ≡ rest_of text level 0 Start (at + 1)
unfolding class_of
start_newline level text at = moved_by (on [] 0 Start) Start 10 text level at refl ∙ put-none (rest_of text level 0 Start (at + 1))

start_semicolon : (level : Level) (text : List ℕ) (at : ℕ) → rest_of (59 ∷ text) level 0 Start at ≡ rest_of text level 0 Start (at + 1)
unfolding class_of
start_semicolon level text at = moved_by (on [] 0 Start) Start 59 text level at refl ∙ put-none (rest_of text level 0 Start (at + 1))

separator_read : (level : Level) (b : ℕ) (text : List ℕ) (at : ℕ) → IsSeparator b → rest_of (b ∷ text) level 0 Start at ≡ rest_of text level 0 Start (at + 1)
separator_read level b text at (inl e) = ap (λ c. rest_of (c ∷ text) level 0 Start at) e ∙ start_newline level text at
separator_read level b text at (inr e) = ap (λ c. rest_of (c ∷ text) level 0 Start at) e ∙ start_semicolon level text at

pub gap_read : (level : Level) {gap : List ℕ} → IsGap gap → (follow : List ℕ) (at : ℕ) → rest_of (gap ++ follow) level 0 Start at ≡ rest_of follow level 0 Start (at + length gap)
gap_read level no_gap follow at = let e : at ≡ at + 0 = omega arith in read_at follow level Start at (at + 0) e
gap_read level (blank {b} {text} k h) follow at =
    let e : at + 1 + length text ≡ at + suc (length text) = omega arith in
    open_blank Start at_start level b (text ++ follow) at k ∙ gap_read level h follow (at + 1) ∙ read_at follow level Start (at + 1 + length text) (at + suc (length text)) e
gap_read level (continuation {text} h) follow at =
    let e : at + 1 + 1 + length text ≡ at + suc (suc (length text)) = omega arith in
    open_continued Start at_start level (text ++ follow) at ∙ gap_read level h follow (at + 1 + 1) ∙ read_at follow level Start (at + 1 + 1 + length text) (at + suc (suc (length text))) e
gap_read level (separator {b} {text} k h) follow at =
    let e : at + 1 + length text ≡ at + suc (length text) = omega arith in
    separator_read level b (text ++ follow) at k ∙ gap_read level h follow (at + 1) ∙ read_at follow level Start (at + 1 + length text) (at + suc (length text)) e
gap_read level (comment note text n h) follow at =
    let e : at + 1 + length note + 1 + length text ≡ at + suc (length (note ++ 10 ∷ text)) = omega (arith, length-append note (10 ∷ text)) in
    ap (λ t. rest_of (35 ∷ t) level 0 Start at) (append_assoc note (10 ∷ text) follow)
    ∙ hash_read level (note ++ 10 ∷ (text ++ follow)) at
    ∙ note_read level n (10 ∷ (text ++ follow)) (at + 1)
    ∙ note_ends level (text ++ follow) (at + 1 + length note)
    ∙ gap_read level h follow (at + 1 + length note + 1)
    ∙ read_at follow level Start (at + 1 + length note + 1 + length text) (at + suc (length (note ++ 10 ∷ text))) e

-- a comment at the end of the text
pub last_note_read : (level : Level) (note : List ℕ) (at : ℕ) → IsLastNote note → rest_of note level 0 Comment at ≡ end_or_fault level.inside MissingBracket (at + length note)
last_note_read level note at (inl h) = ap (λ t. rest_of t level 0 Comment at) (sym (append-nil note)) ∙ note_read level h [] at
last_note_read level note at (inr (front, e, h)) =
    let m : at + length front + 1 ≡ at + length (front ++ 92 ∷ []) = omega (arith, length-append front (92 ∷ [])) in
    ap (λ t. rest_of t level 0 Comment at) e
    ∙ note_read level h (92 ∷ []) at
    ∙ pair_step level [] (at + length front)
    ∙ ap (end_or_fault level.inside MissingBracket) m
    ∙ ap (λ t. end_or_fault level.inside MissingBracket (at + length t)) (sym e)

-- a byte that ends no word begins a command, but `#`
start_kinds : (inside : Bool) (kind : Kind) (b at : ℕ) (text : List ℕ) → class_ends inside kind text ≡ false → kind ≢ Hash → kind ≢ Continuation →
    move_of Start (class_means inside kind text) b at text ≡ change_before (command_begins at) (move_of Between (class_means inside kind text) b at text)
start_kinds inside Blank b at text h k n = cc
start_kinds inside Newline b at text h k n = cc
start_kinds inside Semicolon b at text h k n = cc
start_kinds inside Hash b at text h k n = absurd (k refl)
start_kinds inside Continuation b at text h k n = absurd (n refl)
start_kinds true CloseBracket b at text h k n = cc
start_kinds false CloseBracket b at text h k n = refl
start_kinds true CloseParen b at text h k n = refl
start_kinds false CloseParen b at text h k n = refl
start_kinds inside Backslash b at text h k n = rw h refl
start_kinds inside OpenBrace b at text h k n = expansion_or (λ c. move_of Start c b at text ≡ change_before (command_begins at) (move_of Between c b at text)) (begins_expansion text) refl refl
start_kinds inside kind b at text h k n = refl

pub start_read : (level : Level) (text : List ℕ) (at : ℕ) → ends_word level.inside text ≡ false → begins 35 text ≡ false → rest_of text level 0 Start at ≡ put (changed (command_begins at ∷ [])) (rest_of text level 0 Between at)
start_read level [] at h k = cc
start_read level (b ∷ text) at h k =
    let move : ByteMove = move_of Between (kind_before level.inside b text) b at text in
    moved_by (change_before (command_begins at) move) Start b text level at (start_kinds level.inside (class_of b) b at text h (other_class b 35 Hash k (byte_is b Hash)) (λ e. byte_is b Continuation e))
    ∙ sym (put-put (changed (command_begins at ∷ [])) (changed move.changes)
    (past move.step level.room at text (λ skip next. rest_of text level skip next (at + 1)) (λ room skip next. rest_of text (within room) skip next 0)))

pub bracket_read : (room : ℕ) (text : List ℕ) (at : ℕ) (place : BytePlace) → IsOpen place → rest_of (93 ∷ text) (record { inside = true; room = room }) 0 place at ≡ Ok (last_rest at)
unfolding class_of
bracket_read room text at place at_start = refl
bracket_read room text at place at_between = refl
