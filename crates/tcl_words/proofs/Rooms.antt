-- How deep the parts of what was read go into one another, by the length of the text.
use Rattle.std.proofs.Common.{◌≡◌, ℕ, zero, suc, ◌+◌, ◌-◌, ◌*◌, ◌<◌, ◌≤◌, Bool, true, false, List, [], ◌∷◌, length, drop, refl, subst, arith, Ok, Err, Result}
use Rattle.std.proofs.lemmas.List.{length-take, length-drop}
use Rattle.tcl_words.specs.Kinds.{kind_before}
use Rattle.tcl_words.specs.Changes.{TextRest, Read, put, piece_before, last_rest, literal_before, word_pieces, Change, bytes, name, text_ends, word_ends, command_ends, word_begins, command_begins, changed, changed_by}
use Rattle.tcl_words.specs.Moves.{move_of, lone}
use Rattle.tcl_words.specs.Reading.{Level, within, rest_of, read_at_end, past, past_opened, opened_place, first_skip, opened_piece, commands_in, pieces_in, index_pieces_of, outermost}
use Rattle.tcl_words.specs.Room.{text_room, piece_room, pieces_room, words_room, commands_room}
use Rattle.tcl_words.specs.declared.kind.BytePlace.{BytePlace}
use Rattle.tcl_words.specs.declared.kind.BytePlace.TheVariants.{Start, Comment, Between, Expanded, Text, PastQuotes, InBraces, PastBraces}
use Rattle.tcl_words.specs.declared.kind.Mode.TheVariants.{Bare, Quotes, Parens}
use Rattle.tcl_words.specs.declared.kind.Opener.{Opener}
use Rattle.tcl_words.specs.declared.kind.Opener.TheVariants.{Bracket, Index}
use Rattle.tcl_words.specs.declared.kind.Step.{Step}
use Rattle.tcl_words.specs.declared.kind.Step.TheVariants.{On, Within, Ends}
use Rattle.tcl_words.specs.declared.script.WordForm.{WordForm}
use Rattle.tcl_words.specs.declared.script.WordForm.TheVariants.{Bare as BareForm, Quoted as QuotedForm, Braced as BracedForm}
use Rattle.tcl_words.specs.declared.script.Piece.{Piece}
use Rattle.tcl_words.specs.declared.script.Command.{Command}
use Rattle.tcl_text.specs.declared.fault.ParseFault.{ParseFault}
use Rattle.tcl_words.proofs.Alone.{put_ok, past_ok, room_left}

record Roomy (n : ℕ) (rest : TextRest) : Type 0 where
  pub pieces : pieces_room rest.pieces ≤ 3 * n + 1
  pub words : words_room rest.words ≤ 3 * n + 2
  pub commands : commands_room rest.commands ≤ 3 * n + 3

literal_room : (own : List ℕ) (pieces : List Piece) → pieces_room (literal_before own pieces) ≡ pieces_room pieces
literal_room [] pieces = refl
literal_room (b ∷ own) pieces = omega arith

form_room : (form : WordForm) (own : List ℕ) (pieces : List Piece) → pieces_room (word_pieces form own pieces) ≤ pieces_room pieces
form_room BareForm own pieces = omega (arith, literal_room own pieces)
form_room QuotedForm own pieces = omega (arith, literal_room own pieces)
form_room BracedForm own pieces = omega arith

change_roomy : (n : ℕ) (change : Change) (rest : TextRest) → Roomy n rest → Roomy n (changed_by change rest)
change_roomy n (bytes own) rest r = record { pieces = r.pieces; words = r.words; commands = r.commands }
change_roomy n (name own) rest r = record { pieces = omega (arith, r.pieces, literal_room rest.bytes rest.pieces); words = r.words; commands = r.commands }
change_roomy n text_ends rest r = record { pieces = omega arith; words = r.words; commands = r.commands }
change_roomy n (word_ends at) rest r = record { pieces = omega arith; words = r.words; commands = r.commands }
change_roomy n command_ends rest r = record { pieces = omega arith; words = omega arith; commands = r.commands }
change_roomy n (word_begins form expand start) rest r = record { pieces = omega arith; words = omega (arith, r.pieces, r.words, form_room form rest.bytes rest.pieces); commands = r.commands }
change_roomy n (command_begins start) rest r = record { pieces = omega arith; words = omega arith; commands = omega (arith, r.words, r.commands) }

changed_roomy : (n : ℕ) (cs : List Change) (rest : TextRest) → Roomy n rest → Roomy n (changed cs rest)
changed_roomy n [] rest r = r
changed_roomy n (c ∷ cs) rest r = change_roomy n c (changed cs rest) (changed_roomy n cs rest r)

more_roomy : (n : ℕ) (rest : TextRest) → Roomy n rest → Roomy (suc n) rest
more_roomy n rest r = record { pieces = omega (arith, r.pieces); words = omega (arith, r.words); commands = omega (arith, r.commands) }

last_roomy : (n at : ℕ) → Roomy n (last_rest at)
last_roomy n at = record { pieces = omega arith; words = omega arith; commands = omega arith }

opened_room : (opener : Opener) (behind : List ℕ) (close : ℕ) → piece_room (opened_piece opener behind close) ≤ 3 * length behind + 4
opened_room Bracket behind close = omega (arith, length-take close behind)
opened_room (Index n) behind close = omega (arith, length-take (close - suc n) (drop (suc n) behind), length-drop (suc n) behind)

piece_roomy : (opener : Opener) (behind : List ℕ) (close : ℕ) (rest : TextRest) → Roomy (length behind) rest → Roomy (suc (length behind)) (piece_before (opened_piece opener behind close) rest)
piece_roomy opener behind close rest r = record {
  pieces = omega (arith, opened_room opener behind close, r.pieces, literal_room rest.bytes rest.pieces);
  words = omega (arith, r.words);
  commands = omega (arith, r.commands);
}

end_roomy : (inside : Bool) (place : BytePlace) (at : ℕ) (rest : TextRest) → read_at_end inside place at ≡ Ok rest → Roomy 0 rest
end_roomy inside (Text Quotes) at rest e = absurd (let h : read_at_end inside (Text Quotes) at ≡ Ok rest = e in cc)
end_roomy inside (InBraces depth) at rest e = absurd (let h : read_at_end inside (InBraces depth) at ≡ Ok rest = e in cc)
end_roomy true Start at rest e = absurd (let h : read_at_end true Start at ≡ Ok rest = e in cc)
end_roomy true Comment at rest e = absurd (let h : read_at_end true Comment at ≡ Ok rest = e in cc)
end_roomy true Between at rest e = absurd (let h : read_at_end true Between at ≡ Ok rest = e in cc)
end_roomy true Expanded at rest e = absurd (let h : read_at_end true Expanded at ≡ Ok rest = e in cc)
end_roomy true (Text Bare) at rest e = absurd (let h : read_at_end true (Text Bare) at ≡ Ok rest = e in cc)
end_roomy true (Text Parens) at rest e = absurd (let h : read_at_end true (Text Parens) at ≡ Ok rest = e in cc)
end_roomy true PastQuotes at rest e = absurd (let h : read_at_end true PastQuotes at ≡ Ok rest = e in cc)
end_roomy true PastBraces at rest e = absurd (let h : read_at_end true PastBraces at ≡ Ok rest = e in cc)
end_roomy false Expanded at rest e = let is : changed (lone at) (last_rest at) ≡ rest = (let h : Ok (changed (lone at) (last_rest at)) ≡ Ok rest = e in cc) in subst (Roomy 0) is (changed_roomy 0 (lone at) (last_rest at) (last_roomy 0 at))
end_roomy false Start at rest e = let is : last_rest at ≡ rest = (let h : Ok (last_rest at) ≡ Ok rest = e in cc) in subst (Roomy 0) is (last_roomy 0 at)
end_roomy false Comment at rest e = let is : last_rest at ≡ rest = (let h : Ok (last_rest at) ≡ Ok rest = e in cc) in subst (Roomy 0) is (last_roomy 0 at)
end_roomy false Between at rest e = let is : last_rest at ≡ rest = (let h : Ok (last_rest at) ≡ Ok rest = e in cc) in subst (Roomy 0) is (last_roomy 0 at)
end_roomy false (Text Bare) at rest e = let is : last_rest at ≡ rest = (let h : Ok (last_rest at) ≡ Ok rest = e in cc) in subst (Roomy 0) is (last_roomy 0 at)
end_roomy false (Text Parens) at rest e = let is : last_rest at ≡ rest = (let h : Ok (last_rest at) ≡ Ok rest = e in cc) in subst (Roomy 0) is (last_roomy 0 at)
end_roomy false PastQuotes at rest e = let is : last_rest at ≡ rest = (let h : Ok (last_rest at) ≡ Ok rest = e in cc) in subst (Roomy 0) is (last_roomy 0 at)
end_roomy false PastBraces at rest e = let is : last_rest at ≡ rest = (let h : Ok (last_rest at) ≡ Ok rest = e in cc) in subst (Roomy 0) is (last_roomy 0 at)

stepped : (text : List ℕ) (level : Level) (at : ℕ) (cs : List Change) (rest : TextRest) →
    ((level : Level) (skip : ℕ) (place : BytePlace) (at : ℕ) (rest : TextRest) → rest_of text level skip place at ≡ Ok rest → Roomy (length text) rest) →
    (step : Result Step ParseFault) →
    put (changed cs) (past step level.room at text (λ skip next. rest_of text level skip next (at + 1)) (λ room skip next. rest_of text (within room) skip next 0)) ≡ Ok rest → Roomy (suc (length text)) rest
stepped text level at cs rest known (Err fault) e = absurd (let h : put (changed cs) (Err fault) ≡ Ok rest = e in cc)
stepped text level at cs rest known (Ok Ends) e =
    let is : changed cs (last_rest at) ≡ rest = (let h : Ok (changed cs (last_rest at)) ≡ Ok rest = e in cc) in subst (Roomy (suc (length text))) is (changed_roomy (suc (length text)) cs (last_rest at) (last_roomy (suc (length text)) at))
stepped text level at cs rest known (Ok (On skip next)) e =
    let p : (found : TextRest) × ((rest_of text level skip next (at + 1) ≡ Ok found) × (changed cs found ≡ rest)) = put_ok (changed cs) (rest_of text level skip next (at + 1)) rest e in
    subst (Roomy (suc (length text))) p.1.1 (changed_roomy (suc (length text)) cs p.0 (more_roomy (length text) p.0 (known level skip next (at + 1) p.0 p.1.0)))
stepped text level at cs rest known (Ok (Within opener mode)) e =
    let go : ℕ → BytePlace → Read = λ skip next. rest_of text level skip next (at + 1) in
    let inner : ℕ → ℕ → BytePlace → Read = λ room skip next. rest_of text (within room) skip next 0 in
    let p : (third : TextRest) × ((past (Ok (Within opener mode)) level.room at text go inner ≡ Ok third) × (changed cs third ≡ rest)) = put_ok (changed cs) (past (Ok (Within opener mode)) level.room at text go inner) rest e in
    let q : (0 < level.room) × (past_opened opener mode text go (inner (level.room - 1) (first_skip opener) (opened_place opener)) ≡ Ok p.0) = room_left level.room at opener mode text go inner p.0 p.1.0 in
    let r : (first : TextRest) × ((inner (level.room - 1) (first_skip opener) (opened_place opener) ≡ Ok first) × (put (piece_before (opened_piece opener text first.close)) (go (suc first.close) (Text mode)) ≡ Ok p.0)) =
    past_ok opener mode text go (inner (level.room - 1) (first_skip opener) (opened_place opener)) p.0 q.1 in
    let s : (second : TextRest) × ((go (suc r.0.close) (Text mode) ≡ Ok second) × (piece_before (opened_piece opener text r.0.close) second ≡ p.0)) = put_ok (piece_before (opened_piece opener text r.0.close)) (go (suc r.0.close) (Text mode)) p.0 r.1.1 in
    subst (Roomy (suc (length text))) p.1.1
    (changed_roomy (suc (length text)) cs p.0 (subst (Roomy (suc (length text))) s.1.1 (piece_roomy opener text r.0.close s.0 (known level (suc r.0.close) (Text mode) (at + 1) s.0 s.1.0))))

roomy : (text : List ℕ) (level : Level) (skip : ℕ) (place : BytePlace) (at : ℕ) (rest : TextRest) → rest_of text level skip place at ≡ Ok rest → Roomy (length text) rest
roomy [] level skip place at rest e = end_roomy level.inside place at rest e
roomy (b ∷ text) level (suc skip) place at rest e = more_roomy (length text) rest (roomy text level skip place (at + 1) rest e)
roomy (b ∷ text) level zero place at rest e =
    stepped text level at (move_of place (kind_before level.inside b text) b at text).changes rest (λ level skip place at rest. roomy text level skip place at rest) (move_of place (kind_before level.inside b text) b at text).step e

read_room : (n : ℕ) (r : Read) (commands : List Command) → commands_in r ≡ Ok commands → ((rest : TextRest) → r ≡ Ok rest → Roomy n rest) → commands_room commands ≤ 3 * n + 3
read_room n (Ok rest) commands e known = let is : rest.commands ≡ commands = (let h : Ok rest.commands ≡ Ok commands = e in cc) in subst (λ c. commands_room c ≤ 3 * n + 3) is (known rest refl).commands
read_room n (Err fault) commands e known = absurd (let h : commands_in (Err fault) ≡ Ok commands = e in cc)

pieces_room_in : (n : ℕ) (r : Read) (pieces : List Piece) → pieces_in r ≡ Ok pieces → ((rest : TextRest) → r ≡ Ok rest → Roomy n rest) → pieces_room pieces ≤ 3 * n + 1
pieces_room_in n (Ok rest) pieces e known =
    let is : literal_before rest.bytes rest.pieces ≡ pieces = (let h : Ok (literal_before rest.bytes rest.pieces) ≡ Ok pieces = e in cc) in
    subst (λ p. pieces_room p ≤ 3 * n + 1) is (let k : pieces_room rest.pieces ≤ 3 * n + 1 = (known rest refl).pieces in omega (arith, k, literal_room rest.bytes rest.pieces))
pieces_room_in n (Err fault) pieces e known = absurd (let h : pieces_in (Err fault) ≡ Ok pieces = e in cc)

pub commands_fit : (text : List ℕ) (commands : List Command) → commands_in (rest_of text outermost 0 Start 0) ≡ Ok commands → commands_room commands ≤ text_room text
commands_fit text commands e = read_room (length text) (rest_of text outermost 0 Start 0) commands e (λ rest h. roomy text outermost 0 Start 0 rest h)

pub pieces_fit : (text : List ℕ) (pieces : List Piece) → index_pieces_of text ≡ Ok pieces → pieces_room pieces < text_room text
pieces_fit text pieces e = let k : pieces_room pieces ≤ 3 * length text + 1 = pieces_room_in (length text) (rest_of text outermost 0 (Text Parens) 0) pieces e (λ rest h. roomy text outermost 0 (Text Parens) 0 rest h) in omega (arith, k)
