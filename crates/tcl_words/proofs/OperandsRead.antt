-- Operands are read as the grammar of scripts relates them.
use Rattle.std.proofs.Common.{◌≡◌, ℕ, zero, suc, ◌+◌, ◌⊎◌, inl, inr, Bool, true, false, List, [], ◌∷◌, ◌++◌, length, take, Option, Some, None, Result, Ok, Err, refl, sym, ap, subst, ◌∙◌, eqb-true, length-append, arith}
use Rattle.std.specs.List.{slice_range}
use Rattle.tcl_words.specs.Changes.{put}
use Rattle.tcl_words.specs.Reading.{Level, rest_of, within}
use Rattle.tcl_words.specs.Operands.{piece_found, opened_of, bracket_of, some_found, substitution, substitution_of}
use Rattle.tcl_words.specs.Grammar.{TextEnding, leaves, fails, script, index, begins, begins_name_byte, begins_name, IsName, HasNoBrace, ArePieces, IsInnerOf}
use Rattle.tcl_words.specs.Grammar.ArePieces.{variable as body_variable, braced_name as body_braced_name, element as body_element, unclosed_name as body_unclosed_name, faulty_index as body_faulty_index}
use Rattle.tcl_words.specs.OperandGrammar.{IsBehindBracket, IsSubstitution, variable, braced_name, element, IsFaultySubstitution, unclosed_name, faulty_index, IsBehindDollar}
use Rattle.tcl_words.specs.declared.kind.Mode.{Mode}
use Rattle.tcl_words.specs.declared.kind.Mode.TheVariants.{Parens}
use Rattle.tcl_words.specs.declared.kind.BytePlace.TheVariants.{Start}
use Rattle.tcl_words.specs.declared.kind.Opener.TheVariants.{Bracket as BracketOpener, Index as IndexOpener}
use Rattle.tcl_words.specs.declared.script.Piece.{Piece}
use Rattle.tcl_words.specs.declared.script.Piece.TheVariants.{Variable, Element, Bracket}
use Rattle.tcl_text.specs.declared.fault.ParseFault.{ParseFault}
use Rattle.tcl_text.specs.declared.fault.ParseFault.TheVariants.{TooLong, MissingBrace}
use Rattle.tcl_words.proofs.NameLemmas.{dollar-named, dollar-indexed, dollar-alone, dollar-braced, dollar-unclosed, take_front, slice_braced, slice_index_text}
use Rattle.tcl_words.proofs.NamesCut.{name_cut, name_end}
use Rattle.tcl_words.proofs.PiecesRead.{GivesText, pieces_read}
use Rattle.tcl_words.proofs.PiecesCut.{IsInnerCut}
use Rattle.tcl_words.proofs.ScriptsRead.{GivesLeft, script_read, inner_reads, left_not_fails, skip_name}
use Rattle.tcl_words.proofs.ScriptsCut.{inner_cuts}
use Rattle.tcl_words.proofs.StopLemmas.{paren_read}

same_fault : (fault other : ParseFault) → fails fault ≡ fails other → fault ≡ other
same_fault fault other e = cc

abbrev Opened : Type 0
Opened = Result (Piece × ℕ) ParseFault

abbrev Substituted : Type 0
Substituted = Result (Option (Piece × ℕ)) ParseFault

-- ── brackets ──

bracket_given : (room : ℕ) (own rest : List ℕ) → IsInnerOf room script (own ++ 93 ∷ rest) (leaves (93 ∷ rest)) → bracket_of room (own ++ 93 ∷ rest) ≡ Ok (Bracket own, suc (length own))
bracket_given zero own rest h = absurd (left_not_fails (93 ∷ rest) TooLong h)
bracket_given (suc room) own rest (commands, h) =
    let behind : List ℕ = own ++ 93 ∷ rest in
    let g : GivesLeft (rest_of behind (within room) 0 Start 0) (0 + length behind) [] commands (93 ∷ rest) = script_read true room (inner_reads room) commands (leaves (93 ∷ rest)) 0 behind h in
    let close : g.rest.close ≡ length own = omega (arith, g.at_close, length-append own (93 ∷ rest)) in
    ap (piece_found BracketOpener behind) g.is
    ∙ ap (λ n. let read : Opened = Ok (Bracket (take n behind), suc n) in read) close
    ∙ ap (λ t. let read : Opened = Ok (Bracket t, suc (length own)) in read) (take_front own (93 ∷ rest))

bracket_told : (room : ℕ) (text : List ℕ) (fault : ParseFault) → IsInnerOf room script text (fails fault) → bracket_of room text ≡ Err fault
bracket_told zero text fault h = ap (λ f. let read : Opened = Err f in read) (sym (same_fault fault TooLong h))
bracket_told (suc room) text fault (commands, h) = ap (piece_found BracketOpener text) (script_read true room (inner_reads room) commands (fails fault) 0 text h)

pub bracket_read : (room : ℕ) (text : List ℕ) (result : Opened) → IsBehindBracket room text result → bracket_of room text ≡ result
bracket_read room text (Ok found) (own, rest, cut, h, same) = ap (bracket_of room) cut ∙ bracket_given room own rest h ∙ ap (λ f. let read : Opened = Ok f in read) (sym same)
bracket_read room text (Err fault) h = bracket_told room text fault h

bracket_cut : (room : ℕ) (text : List ℕ) → (result : Opened) × IsBehindBracket room text result
bracket_cut room text = let found = inner_cuts room script text in at found.0 found.1 found.2
  where
    at : (ending : TextEnding) → IsInnerOf room script text ending → IsInnerCut script text ending → (result : Opened) × IsBehindBracket room text result
    at (leaves left) h (own, rest, e, f) =
        (Ok (Bracket own, suc (length own)), (own, rest, e, subst (λ t. IsInnerOf room script t (leaves (93 ∷ rest))) e (subst (λ l. IsInnerOf room script text (leaves l)) f h), refl))
    at (fails fault) h cut = (Err fault, h)

pub bracket_is : (room : ℕ) (text : List ℕ) (result : Opened) → bracket_of room text ≡ result → IsBehindBracket room text result
bracket_is room text result e = let found = bracket_cut room text in subst (IsBehindBracket room text) (sym (bracket_read room text found.0 found.1) ∙ e) found.1

-- ── variables ──

index_given : (room : ℕ) (name own rest : List ℕ) → IsInnerOf room index (own ++ 41 ∷ rest) (leaves (41 ∷ rest)) →
    opened_of room (IndexOpener (length name)) (name ++ 40 ∷ (own ++ 41 ∷ rest)) ≡ Ok (Element name own, suc (suc (length name) + length own))
index_given zero name own rest h = absurd (left_not_fails (41 ∷ rest) TooLong h)
index_given (suc room) name own rest (pieces, h) =
    let behind : List ℕ = name ++ 40 ∷ (own ++ 41 ∷ rest) in
    let start : ℕ = suc (length name) in
    let level : Level = within room in
    let g : GivesText level Parens start (own ++ 41 ∷ rest) pieces (41 ∷ rest) = pieces_read true room Parens (inner_reads room) h start in
    let end : g.end ≡ start + length own = omega (arith, g.at_end, length-append own (41 ∷ rest)) in
    ap (piece_found (IndexOpener (length name)) behind)
    (skip_name name (own ++ 41 ∷ rest) level ∙ g.is ∙ ap (put (λ rest. record rest { bytes = g.bytes; pieces = g.after })) (paren_read room rest g.end))
    ∙ ap (λ n. let read : Opened = Ok (Element (take (length name) behind) (slice_range behind start n), suc n) in read) end
    ∙ ap (λ t. let read : Opened = Ok (Element t (slice_range behind start (start + length own)), suc (start + length own)) in read) (take_front name (40 ∷ (own ++ 41 ∷ rest)))
    ∙ ap (λ t. let read : Opened = Ok (Element name t, suc (start + length own)) in read) (slice_index_text name own rest)

index_told : (room : ℕ) (name text : List ℕ) (fault : ParseFault) → IsInnerOf room index text (fails fault) → opened_of room (IndexOpener (length name)) (name ++ 40 ∷ text) ≡ Err fault
index_told zero name text fault h = ap (λ f. let read : Opened = Err f in read) (sym (same_fault fault TooLong h))
index_told (suc room) name text fault (pieces, h) =
    ap (piece_found (IndexOpener (length name)) (name ++ 40 ∷ text)) (skip_name name text (within room) ∙ pieces_read true room Parens (inner_reads room) h (suc (length name)))

found_with : (piece : Piece) (m n : ℕ) → m ≡ n → ◌≡◌ {A = Substituted} (Ok (Some (piece, m))) (Ok (Some (piece, n)))
found_with piece m n e = ap (λ k. let read : Substituted = Ok (Some (piece, k)) in read) e

substitution_given : (room : ℕ) {text : List ℕ} {piece : Piece} {rest : List ℕ} → IsSubstitution room text piece rest → (n : ℕ) → n + length rest ≡ length text → substitution_of room text ≡ Ok (Some (piece, n))
substitution_given room (variable name {text} is h k) n count =
    ap (λ form. substitution room form (name ++ text)) (dollar-named name text is h k)
    ∙ ap (λ t. let read : Substituted = Ok (Some (Variable t, length name)) in read) (take_front name text)
    ∙ found_with (Variable name) (length name) n (omega (arith, count, length-append name text))
substitution_given room (braced_name name {text} h) n count =
    ap (λ form. substitution room form (123 ∷ (name ++ 125 ∷ text))) (dollar-braced name text h)
    ∙ ap (λ t. let read : Substituted = Ok (Some (Variable t, length name + 2)) in read) (slice_braced name text)
    ∙ found_with (Variable name) (length name + 2) n (omega (arith, count, length-append name (125 ∷ text)))
substitution_given room (element name own {text} is h) n count =
    ap (λ form. substitution room form (name ++ 40 ∷ (own ++ 41 ∷ text))) (dollar-indexed name (own ++ 41 ∷ text) is)
    ∙ ap some_found (index_given room name own text h)
    ∙ found_with (Element name own) (suc (suc (length name) + length own)) n (omega (arith, count, length-append name (40 ∷ (own ++ 41 ∷ text)), length-append own (41 ∷ text)))

substitution_told : (room : ℕ) {text : List ℕ} {fault : ParseFault} → IsFaultySubstitution room text fault → substitution_of room text ≡ Err fault
substitution_told room (unclosed_name text h) = ap (λ form. substitution room form (123 ∷ text)) (dollar-unclosed text h)
substitution_told room (faulty_index name text {fault} is h) =
    ap (λ form. substitution room form (name ++ 40 ∷ text)) (dollar-indexed name text is) ∙ ap some_found (index_told room name text fault h)

pub substitution_read : (room : ℕ) (text : List ℕ) (result : Substituted) → IsBehindDollar room text result → substitution_of room text ≡ result
substitution_read room text (Ok None) (no_name, no_brace) = ap (λ form. substitution room form text) (dollar-alone text no_name no_brace)
substitution_read room text (Ok (Some found)) (rest, is, count) = substitution_given room is found.1 count
substitution_read room text (Err fault) is = substitution_told room is

abbrev Cut : ℕ → List ℕ → Type 0
Cut room text = (result : Substituted) × IsBehindDollar room text result

index_cut : (room : ℕ) (name text : List ℕ) → IsName name → Cut room (name ++ 40 ∷ text)
index_cut room name text is = let found = inner_cuts room index text in at found.0 found.1 found.2
  where
    at : (ending : TextEnding) → IsInnerOf room index text ending → IsInnerCut index text ending → Cut room (name ++ 40 ∷ text)
    at (leaves left) h (own, rest, e, f) =
        let inner : IsInnerOf room index (own ++ 41 ∷ rest) (leaves (41 ∷ rest)) = subst (λ t. IsInnerOf room index t (leaves (41 ∷ rest))) e (subst (λ l. IsInnerOf room index text (leaves l)) f h) in
        let count : suc (suc (length name) + length own) + length rest ≡ length (name ++ 40 ∷ (own ++ 41 ∷ rest)) = omega (arith, length-append name (40 ∷ (own ++ 41 ∷ rest)), length-append own (41 ∷ rest)) in
        subst (λ t. Cut room (name ++ 40 ∷ t)) (sym e) (Ok (Some (Element name own, suc (suc (length name) + length own))), (rest, element name own is inner, count))
    at (fails fault) h cut = (Err fault, faulty_index name text is h)

name_found : (room : ℕ) (name rest : List ℕ) → IsName name → begins_name_byte rest ≡ false → (t : Bool) → begins 40 rest ≡ t → Cut room (name ++ rest)
name_found room name [] is apart true here = cc
name_found room name (b ∷ rest) is apart true here = subst (λ c. Cut room (name ++ c ∷ rest)) (sym (eqb-true b 40 here)) (index_cut room name rest is)
name_found room name rest is apart false here = (Ok (Some (Variable name, length name)), (rest, variable name is apart here, sym (length-append name rest)))

brace_found : (room : ℕ) (text : List ℕ) → Cut room (123 ∷ text)
brace_found room text = at (name_end text)
  where
    at : ((name : List ℕ) × (rest : List ℕ) × (text ≡ name ++ 125 ∷ rest) × HasNoBrace name) ⊎ HasNoBrace text → Cut room (123 ∷ text)
    at (inl (name, rest, e, h)) =
        let count : length name + 2 + length rest ≡ length (123 ∷ (name ++ 125 ∷ rest)) = omega (arith, length-append name (125 ∷ rest)) in
        subst (λ t. Cut room (123 ∷ t)) (sym e) (Ok (Some (Variable name, length name + 2)), (rest, braced_name name h, count))
    at (inr h) = (Err MissingBrace, unclosed_name text h)

substitution_cut : (room : ℕ) (text : List ℕ) → (brace name : Bool) → begins 123 text ≡ brace → begins_name text ≡ name → Cut room text
substitution_cut room [] true name here there = cc
substitution_cut room (b ∷ text) true name here there = subst (λ c. Cut room (c ∷ text)) (sym (eqb-true b 123 here)) (brace_found room text)
substitution_cut room text false true here there =
    let cut = name_cut text there in subst (Cut room) (sym cut.2) (name_found room cut.0 cut.1 cut.3 cut.4 (begins 40 cut.1) refl)
substitution_cut room text false false here there = (Ok None, (there, here))

pub substitution_is : (room : ℕ) (text : List ℕ) (result : Substituted) → substitution_of room text ≡ result → IsBehindDollar room text result
substitution_is room text result e =
    let found = substitution_cut room text (begins 123 text) (begins_name text) refl refl in
    subst (IsBehindDollar room text) (sym (substitution_read room text found.0 found.1) ∙ e) found.1

-- ── in the pieces of a body ──

pub substitution_begun : (room : ℕ) (inside : Bool) (mode : Mode) {text : List ℕ} {piece : Piece} {rest : List ℕ} (pieces : List Piece) (ending : TextEnding) → IsSubstitution room text piece rest →
    ArePieces (IsInnerOf room) inside mode rest pieces ending → ArePieces (IsInnerOf room) inside mode (36 ∷ text) (piece ∷ pieces) ending
substitution_begun room inside mode pieces ending (variable name is h k) more = body_variable name is h k more
substitution_begun room inside mode pieces ending (braced_name name h) more = body_braced_name name h more
substitution_begun room inside mode pieces ending (element name own is h) more = body_element name own is h more

pub substitution_faulty : (room : ℕ) (inside : Bool) (mode : Mode) {text : List ℕ} {fault : ParseFault} → IsFaultySubstitution room text fault → ArePieces (IsInnerOf room) inside mode (36 ∷ text) [] (fails fault)
substitution_faulty room inside mode (unclosed_name text h) = body_unclosed_name h
substitution_faulty room inside mode (faulty_index name text is h) = body_faulty_index name is h
