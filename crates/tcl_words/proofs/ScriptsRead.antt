-- Scripts are read as the grammar says.
use Rattle.std.proofs.Common.{◌≡◌, ℕ, zero, suc, ◌+◌, inl, inr, Bool, true, false, List, [], ◌∷◌, ◌++◌, length, take, refl, sym, ap, subst, ◌∙◌, length-append, arith, Ok, Err}
use Rattle.std.specs.List.{slice_range}
use Rattle.tcl_words.specs.Classes.{class_of}
use Rattle.tcl_words.specs.Changes.{TextRest, Read, put, piece_before, changed, last_rest}
use Rattle.tcl_words.specs.Spans.{command_from}
use Rattle.tcl_words.specs.Changes.Change.{command_begins, command_ends}
use Rattle.tcl_words.specs.Reading.{Level, rest_of, past_opened, within, end_or_fault}
use Rattle.tcl_words.specs.Grammar.{TextEnding, leaves, fails, script, index, IsInnerOf, IsSeparator, IsEnd, IsEnding, IsLast, AreFurtherWords, IsRest, IsScript, end_of_text}
use Rattle.tcl_words.specs.Grammar.IsEnd.{closes, stands}
use Rattle.tcl_words.specs.Grammar.IsEnding.{ends as ends_command, faulty as faulty_word}
use Rattle.tcl_words.specs.Grammar.IsLast.{ends, comment, faulty}
use Rattle.tcl_words.specs.declared.kind.Mode.{Mode}
use Rattle.tcl_words.specs.declared.kind.Mode.TheVariants.{Parens}
use Rattle.tcl_words.specs.declared.kind.BytePlace.{BytePlace}
use Rattle.tcl_words.specs.declared.kind.BytePlace.TheVariants.{Text, Start, Between}
use Rattle.tcl_words.specs.declared.kind.Opener.TheVariants.{Bracket as BracketOpener, Index as IndexOpener}
use Rattle.tcl_words.specs.declared.script.Piece.TheVariants.{Element, Bracket}
use Rattle.tcl_words.specs.declared.script.Word.{Word}
use Rattle.tcl_words.specs.declared.script.Command.{Command}
use Rattle.tcl_text.specs.declared.fault.ParseFault.{ParseFault}
use Rattle.tcl_text.specs.declared.fault.ParseFault.TheVariants.{TooLong, MissingBracket}
use Rattle.tcl_words.proofs.StepLemmas.{read_at, skip_past}
use Rattle.tcl_words.proofs.StopLemmas.{paren_read}
use Rattle.tcl_words.proofs.NameLemmas.{take_front, slice_index_text}
use Rattle.tcl_words.proofs.PiecesRead.{GivesText, InnerReads, opened, pieces_read}
use Rattle.tcl_words.proofs.WordsRead.{word_front, word_read, faulty_word_read, word_open, faulty_word_open}
use Rattle.tcl_words.proofs.GapsRead.{IsOpen, at_start, at_between, blanks_read, gap_read, hash_read, last_note_read, start_read, bracket_read}

-- these words and commands are read, up to this position less what is left
pub record GivesLeft (r : Read) (stop : ℕ) (words : List Word) (commands : List Command) (left : List ℕ) : Type 0 where
  pub rest : TextRest
  pub is : r ≡ Ok rest
  pub words_are : rest.words ≡ words
  pub commands_are : rest.commands ≡ commands
  pub at_close : rest.close + length left ≡ stop

abbrev pub GivesCommands : Read → ℕ → List Word → List Command → TextEnding → Type 0
GivesCommands r stop words commands (leaves left) = GivesLeft r stop words commands left
GivesCommands r stop words commands (fails fault) = r ≡ Err fault

given_as : (r s : Read) (m n : ℕ) (words : List Word) (commands : List Command) (ending : TextEnding) → r ≡ s → m ≡ n → GivesCommands s m words commands ending → GivesCommands r n words commands ending
given_as r s m n words commands (leaves left) e k g = record { rest = g.rest; is = e ∙ g.is; words_are = g.words_are; commands_are = g.commands_are; at_close = g.at_close ∙ k }
given_as r s m n words commands (fails fault) e k g = e ∙ g

end_given : (inside : Bool) (at : ℕ) → GivesCommands (end_or_fault inside MissingBracket at) at [] [] (end_of_text inside)
end_given true at = refl
end_given false at = record { rest = last_rest at; is = refl; words_are = refl; commands_are = refl; at_close = omega arith }

end_read : (inside : Bool) (room : ℕ) (text : List ℕ) (ending : TextEnding) (at : ℕ) (place : BytePlace) → IsOpen place → IsEnd inside text ending →
    GivesCommands (rest_of text (record { inside = inside; room = room }) 0 place at) (at + length text) [] [] ending
end_read inside room text ending at place here (closes {text = after} e) =
    record {
      rest = last_rest at;
      is = ap (λ t. rest_of (93 ∷ after) (record { inside = t; room = room }) 0 place at) e ∙ bracket_read room after at place here;
      words_are = refl;
      commands_are = refl;
      at_close = refl;
    }
end_read inside room text ending at place at_start stands = given_as (end_or_fault inside MissingBracket at) (end_or_fault inside MissingBracket at) at (at + 0) [] [] (end_of_text inside) refl (omega arith) (end_given inside at)
end_read inside room text ending at place at_between stands = given_as (end_or_fault inside MissingBracket at) (end_or_fault inside MissingBracket at) at (at + 0) [] [] (end_of_text inside) refl (omega arith) (end_given inside at)

-- a word was read, and then its command, and the one that began before
with_word : (r s : Read) (stop : ℕ) (word : Word) (words : List Word) (commands : List Command) (ending : TextEnding) → r ≡ put (word_front word) s → GivesCommands s stop words commands ending → GivesCommands r stop (word ∷ words) commands ending
with_word r s stop word words commands (leaves left) e g = record {
  rest = word_front word g.rest;
  is = e ∙ ap (put (word_front word)) g.is;
  words_are = ap (λ t. word ∷ t) g.words_are;
  commands_are = g.commands_are;
  at_close = g.at_close;
}
with_word r s stop word words commands (fails fault) e g = e ∙ ap (put (word_front word)) g

command_ended : (r s : Read) (stop : ℕ) (words : List Word) (commands : List Command) (ending : TextEnding) → r ≡ put (changed (command_ends ∷ [])) s → GivesCommands s stop words commands ending → GivesCommands r stop [] commands ending
command_ended r s stop words commands (leaves left) e g = record {
  rest = changed (command_ends ∷ []) g.rest;
  is = e ∙ ap (put (changed (command_ends ∷ []))) g.is;
  words_are = refl;
  commands_are = g.commands_are;
  at_close = g.at_close;
}
command_ended r s stop words commands (fails fault) e g = e ∙ ap (put (changed (command_ends ∷ []))) g

command_begun : (r s : Read) (stop start : ℕ) (command : Command) (words : List Word) (commands : List Command) (ending : TextEnding) → r ≡ put (changed (command_begins start ∷ [])) s →
    command ≡ command_from start words → GivesCommands s stop words commands ending → GivesCommands r stop [] (command ∷ commands) ending
command_begun r s stop start command words commands (leaves left) e same g = record {
  rest = changed (command_begins start ∷ []) g.rest;
  is = e ∙ ap (put (changed (command_begins start ∷ []))) g.is;
  words_are = refl;
  commands_are = ap (λ t. command_from start t ∷ g.rest.commands) g.words_are ∙ ap (λ c. c ∷ g.rest.commands) (sym same) ∙ ap (λ t. command ∷ t) g.commands_are;
  at_close = g.at_close;
}
command_begun r s stop start command words commands (fails fault) e same g = e ∙ ap (put (changed (command_begins start ∷ []))) g

newline_ends : (level : Level) (text : List ℕ) (at : ℕ) → rest_of (10 ∷ text) level 0 Between at ≡ put (changed (command_ends ∷ [])) (rest_of text level 0 Start (at + 1))
unfolding class_of
newline_ends level text at = refl

semicolon_ends : (level : Level) (text : List ℕ) (at : ℕ) → rest_of (59 ∷ text) level 0 Between at ≡ put (changed (command_ends ∷ [])) (rest_of text level 0 Start (at + 1))
unfolding class_of
semicolon_ends level text at = refl

separated : (level : Level) (b : ℕ) (text : List ℕ) (at : ℕ) → IsSeparator b → rest_of (b ∷ text) level 0 Between at ≡ put (changed (command_ends ∷ [])) (rest_of text level 0 Start (at + 1))
separated level b text at (inl e) = ap (λ c. rest_of (c ∷ text) level 0 Between at) e ∙ newline_ends level text at
separated level b text at (inr e) = ap (λ c. rest_of (c ∷ text) level 0 Between at) e ∙ semicolon_ends level text at

ending_read : (inside : Bool) (room : ℕ) → InnerReads room → (text : List ℕ) (ending : TextEnding) (at : ℕ) → IsEnding (IsInnerOf room) inside text ending →
    GivesCommands (rest_of text (record { inside = inside; room = room }) 0 Between at) (at + length text) [] [] ending
ending_read inside room inner text ending at (ends_command h) = end_read inside room text ending at Between at_between h
ending_read inside room inner text ending at (faulty_word {text = same} {fault} h) = faulty_word_read inside room inner at text fault h

last_read : (inside : Bool) (room : ℕ) → InnerReads room → (text : List ℕ) (ending : TextEnding) (at : ℕ) → IsLast (IsInnerOf room) inside text ending →
    GivesCommands (rest_of text (record { inside = inside; room = room }) 0 Start at) (at + length text) [] [] ending
last_read inside room inner text ending at (ends h) = end_read inside room text ending at Start at_start h
last_read inside room inner text ending at (comment {note} h) =
    let level : Level = record { inside = inside; room = room } in
    given_as (rest_of (35 ∷ note) level 0 Start at) (end_or_fault inside MissingBracket (at + 1 + length note)) (at + 1 + length note) (at + length (35 ∷ note)) [] [] (end_of_text inside)
    (hash_read level note at ∙ last_note_read level note (at + 1) h) (omega arith) (end_given inside (at + 1 + length note))
last_read inside room inner text ending at (faulty {text = same} {fault} hash h) =
    let level : Level = record { inside = inside; room = room } in
    start_read level text at (faulty_word_open (IsInnerOf room) inside text fault h) hash ∙ ap (put (changed (command_begins at ∷ []))) (faulty_word_read inside room inner at text fault h)

further_read : (inside : Bool) (room : ℕ) → InnerReads room → (IsAfter : ℕ → List ℕ → Type 0) (commands : List Command) (ending : TextEnding) →
    ((at : ℕ) (text : List ℕ) → IsAfter at text → GivesCommands (rest_of text (record { inside = inside; room = room }) 0 Between at) (at + length text) [] commands ending) →
    (at : ℕ) (text : List ℕ) (words : List Word) → AreFurtherWords (IsInnerOf room) inside IsAfter at text words →
    GivesCommands (rest_of text (record { inside = inside; room = room }) 0 Between at) (at + length text) words commands ending
further_read inside room inner IsAfter commands ending given at text [] h = given at text h
further_read inside room inner IsAfter commands ending given at text (word ∷ words) (blanks, own, rest, e, b, is, h) =
    let level : Level = record { inside = inside; room = room } in
    let next : ℕ = at + length blanks in
    let m : next + length own + length rest ≡ at + length text = omega (arith, ap length e, length-append blanks (own ++ rest), length-append own rest) in
    with_word (rest_of text level 0 Between at) (rest_of rest level 0 Between (next + length own)) (at + length text) word words commands ending
    (ap (λ t. rest_of t level 0 Between at) e ∙ blanks_read level b (own ++ rest) at ∙ word_read inside room inner rest next own word is)
    (given_as (rest_of rest level 0 Between (next + length own)) (rest_of rest level 0 Between (next + length own)) (next + length own + length rest) (at + length text) words commands ending refl m
    (further_read inside room inner IsAfter commands ending given (next + length own) rest words h))

rest_read : (inside : Bool) (room : ℕ) → InnerReads room → (commands : List Command) (ending : TextEnding) →
    ((at : ℕ) (text : List ℕ) → IsScript (IsInnerOf room) inside at text commands ending → GivesCommands (rest_of text (record { inside = inside; room = room }) 0 Start at) (at + length text) [] commands ending) →
    (at : ℕ) (text : List ℕ) → IsRest (λ next after. IsScript (IsInnerOf room) inside next after commands ending) (λ last. (commands ≡ []) × IsEnding (IsInnerOf room) inside last ending) at text →
    GivesCommands (rest_of text (record { inside = inside; room = room }) 0 Between at) (at + length text) [] commands ending
rest_read inside room inner commands ending given at text (blanks, rest, e, b, inl (c, after, f, s, h)) =
    let level : Level = record { inside = inside; room = room } in
    let next : ℕ = at + length blanks in
    let m : next + 1 + length after ≡ at + length text = omega (arith, ap length e, length-append blanks rest, ap length f) in
    command_ended (rest_of text level 0 Between at) (rest_of after level 0 Start (next + 1)) (at + length text) [] commands ending
    (ap (λ t. rest_of t level 0 Between at) e ∙ blanks_read level b rest at ∙ ap (λ t. rest_of t level 0 Between next) f ∙ separated level c after next s)
    (given_as (rest_of after level 0 Start (next + 1)) (rest_of after level 0 Start (next + 1)) (next + 1 + length after) (at + length text) [] commands ending refl m (given (next + 1) after h))
rest_read inside room inner commands ending given at text (blanks, rest, e, b, inr (none, h)) =
    let level : Level = record { inside = inside; room = room } in
    let next : ℕ = at + length blanks in
    let m : next + length rest ≡ at + length text = omega (arith, ap length e, length-append blanks rest) in
    given_as (rest_of text level 0 Between at) (rest_of rest level 0 Between next) (next + length rest) (at + length text) [] commands ending
    (ap (λ t. rest_of t level 0 Between at) e ∙ blanks_read level b rest at) m
    (subst (λ c. GivesCommands (rest_of rest level 0 Between next) (next + length rest) [] c ending) (sym none) (ending_read inside room inner rest ending next h))

-- a script is read
pub script_read : (inside : Bool) (room : ℕ) → InnerReads room → (commands : List Command) (ending : TextEnding) (at : ℕ) (text : List ℕ) → IsScript (IsInnerOf room) inside at text commands ending →
    GivesCommands (rest_of text (record { inside = inside; room = room }) 0 Start at) (at + length text) [] commands ending
script_read inside room inner [] ending at text (gap, rest, e, g, h) =
    let level : Level = record { inside = inside; room = room } in
    let next : ℕ = at + length gap in
    let m : next + length rest ≡ at + length text = omega (arith, ap length e, length-append gap rest) in
    given_as (rest_of text level 0 Start at) (rest_of rest level 0 Start next) (next + length rest) (at + length text) [] [] ending
    (ap (λ t. rest_of t level 0 Start at) e ∙ gap_read level g rest at) m (last_read inside room inner rest ending next h)
script_read inside room inner (command ∷ commands) ending at text (gap, own, rest, word, words, e, g, hash, is, h, same) =
    let level : Level = record { inside = inside; room = room } in
    let start : ℕ = at + length gap in
    let next : ℕ = start + length own in
    let m : next + length rest ≡ at + length text = omega (arith, ap length e, length-append gap (own ++ rest), length-append own rest) in
    command_begun (rest_of text level 0 Start at) (rest_of (own ++ rest) level 0 Between start) (at + length text) start command (word ∷ words) commands ending
    (ap (λ t. rest_of t level 0 Start at) e ∙ gap_read level g (own ++ rest) at ∙ start_read level (own ++ rest) start (word_open (IsInnerOf room) inside rest start own word is) hash)
    same
    (with_word (rest_of (own ++ rest) level 0 Between start) (rest_of rest level 0 Between next) (at + length text) word words commands ending
    (word_read inside room inner rest start own word is)
    (given_as (rest_of rest level 0 Between next) (rest_of rest level 0 Between next) (next + length rest) (at + length text) words commands ending refl m
    (further_read inside room inner (IsRest (λ after text. IsScript (IsInnerOf room) inside after text commands ending) (λ last. (commands ≡ []) × IsEnding (IsInnerOf room) inside last ending)) commands ending
    (rest_read inside room inner commands ending (script_read inside room inner commands ending)) next rest words h)))

-- Brackets and indices.

script_closed : (room : ℕ) → InnerReads room → (own text : List ℕ) → IsInnerOf (suc room) script (own ++ 93 ∷ text) (leaves (93 ∷ text)) → (mode : Mode) (at : ℕ) (go : ℕ → BytePlace → Read) →
    opened BracketOpener mode (suc room) at (own ++ 93 ∷ text) go ≡ put (piece_before (Bracket own)) (go (suc (length own)) (Text mode))
script_closed room inner own text (commands, h) mode at go =
    let behind : List ℕ = own ++ 93 ∷ text in
    let g : GivesLeft (rest_of behind (within room) 0 Start 0) (0 + length behind) [] commands (93 ∷ text) = script_read true room inner commands (leaves (93 ∷ text)) 0 behind h in
    let m : g.rest.close ≡ length own = omega (arith, g.at_close, length-append own (93 ∷ text)) in
    ap (past_opened BracketOpener mode behind go) g.is
    ∙ ap (λ n. put (piece_before (Bracket (take n behind))) (go (suc n) (Text mode))) m
    ∙ ap (λ t. put (piece_before (Bracket t)) (go (suc (length own)) (Text mode))) (take_front own (93 ∷ text))

script_told : (room : ℕ) → InnerReads room → (text : List ℕ) (fault : ParseFault) → IsInnerOf (suc room) script text (fails fault) → (mode : Mode) (at : ℕ) (go : ℕ → BytePlace → Read) →
    opened BracketOpener mode (suc room) at text go ≡ Err fault
script_told room inner text fault (commands, h) mode at go = ap (past_opened BracketOpener mode text go) (script_read true room inner commands (fails fault) 0 text h)

pub skip_name : (name text : List ℕ) (level : Level) → rest_of (name ++ 40 ∷ text) level (suc (length name)) (Text Parens) 0 ≡ rest_of text level 0 (Text Parens) (suc (length name))
skip_name name text level = let e : 0 + suc (length name) ≡ suc (length name) = omega arith in skip_past name 40 text level (Text Parens) 0 ∙ read_at text level (Text Parens) (0 + suc (length name)) (suc (length name)) e

index_closed : (room : ℕ) → InnerReads room → (name own text : List ℕ) → IsInnerOf (suc room) index (own ++ 41 ∷ text) (leaves (41 ∷ text)) → (mode : Mode) (at : ℕ) (go : ℕ → BytePlace → Read) →
    opened (IndexOpener (length name)) mode (suc room) at (name ++ 40 ∷ (own ++ 41 ∷ text)) go ≡ put (piece_before (Element name own)) (go (suc (suc (length name) + length own)) (Text mode))
index_closed room inner name own text (pieces, h) mode at go =
    let behind : List ℕ = name ++ 40 ∷ (own ++ 41 ∷ text) in
    let start : ℕ = suc (length name) in
    let level : Level = within room in
    let g : GivesText level Parens start (own ++ 41 ∷ text) pieces (41 ∷ text) = pieces_read true room Parens inner h start in
    let m : g.end ≡ start + length own = omega (arith, g.at_end, length-append own (41 ∷ text)) in
    ap (past_opened (IndexOpener (length name)) mode behind go)
    (skip_name name (own ++ 41 ∷ text) level ∙ g.is ∙ ap (put (λ rest. record rest { bytes = g.bytes; pieces = g.after })) (paren_read room text g.end))
    ∙ ap (λ n. put (piece_before (Element (take (length name) behind) (slice_range behind start n))) (go (suc n) (Text mode))) m
    ∙ ap (λ t. put (piece_before (Element t (slice_range behind start (start + length own)))) (go (suc (start + length own)) (Text mode))) (take_front name (40 ∷ (own ++ 41 ∷ text)))
    ∙ ap (λ t. put (piece_before (Element name t)) (go (suc (start + length own)) (Text mode))) (slice_index_text name own text)

index_told : (room : ℕ) → InnerReads room → (name text : List ℕ) (fault : ParseFault) → IsInnerOf (suc room) index text (fails fault) → (mode : Mode) (at : ℕ) (go : ℕ → BytePlace → Read) →
    opened (IndexOpener (length name)) mode (suc room) at (name ++ 40 ∷ text) go ≡ Err fault
index_told room inner name text fault (pieces, h) mode at go =
    ap (past_opened (IndexOpener (length name)) mode (name ++ 40 ∷ text) go) (skip_name name text (within room) ∙ pieces_read true room Parens inner h (suc (length name)))

pub left_not_fails : (left : List ℕ) (fault : ParseFault) → leaves left ≡ fails fault → ⊥
left_not_fails left fault e = cc

pub inner_reads : (room : ℕ) → InnerReads room
inner_reads zero = record {
  closed_script = λ own text h mode at go. absurd (left_not_fails (93 ∷ text) TooLong h);
  script_fault = λ text fault h mode at go. (let same : fails fault ≡ fails TooLong = h in let is : fault ≡ TooLong = cc in ap (λ f. Err f) (sym is));
  closed_index = λ name own text h mode at go. absurd (left_not_fails (41 ∷ text) TooLong h);
  index_fault = λ name text fault h mode at go. (let same : fails fault ≡ fails TooLong = h in let is : fault ≡ TooLong = cc in ap (λ f. Err f) (sym is));
}
inner_reads (suc room) = record {
  closed_script = script_closed room (inner_reads room);
  script_fault = script_told room (inner_reads room);
  closed_index = index_closed room (inner_reads room);
  index_fault = index_told room (inner_reads room);
}
