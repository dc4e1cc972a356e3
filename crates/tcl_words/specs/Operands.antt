-- Steps. What a `$`, a bracket or a quote begins in a text that is no script, as an expression: it is read as in a script, where so many
-- brackets and indices may be opened in one another. What it gives, and how many of the bytes behind its opener are its own.
use Rattle.std.specs.Prelude.{ℕ, zero, suc, ◌+◌, ◌≡◌, ◌≤◌, ◌<◌, ◌⊎◌, true, false, List, [], ◌∷◌, length, take, drop, slice_index, Option, Some, None, Result, Ok, Err}
use Rattle.std.specs.List.{slice_range}
use Rattle.tcl_text.specs.Limits.{most_bytes, most_nested}
use Rattle.tcl_words.specs.Kinds.{kind_before, dollar_of}
use Rattle.tcl_words.specs.Changes.{Read, put, last_rest, literal_before, changed}
use Rattle.tcl_words.specs.Moves.{ByteMove, in_text}
use Rattle.tcl_words.specs.Parts.{Parts, Whole, joined_parts, IsCut}
use Rattle.tcl_words.specs.Reading.{within, rest_of, past, opened_place, first_skip, opened_piece}
use Rattle.tcl_words.specs.Chain.{IsClosing}
use Rattle.tcl_words.specs.declared.kind.Kind.{Kind}
use Rattle.tcl_words.specs.declared.kind.Kind.TheVariants.{Quote}
use Rattle.tcl_words.specs.declared.kind.BytePlace.{BytePlace}
use Rattle.tcl_words.specs.declared.kind.BytePlace.TheVariants.{Start, Text}
use Rattle.tcl_words.specs.declared.kind.Mode.TheVariants.{Parens}
use Rattle.tcl_words.specs.declared.kind.Dollar.{Dollar as DollarForm}
use Rattle.tcl_words.specs.declared.kind.Dollar.TheVariants.{Alone, Named, Indexed, Braced, Unclosed}
use Rattle.tcl_words.specs.declared.kind.Opener.{Opener}
use Rattle.tcl_words.specs.declared.kind.Opener.TheVariants.{Bracket, Index}
use Rattle.tcl_words.specs.declared.nesting.Origin.{Origin}
use Rattle.tcl_words.specs.declared.script.Piece.{Piece}
use Rattle.tcl_words.specs.declared.script.Piece.TheVariants.{Variable}
use Rattle.tcl_text.specs.declared.fault.ParseFault.{ParseFault}
use Rattle.tcl_text.specs.declared.fault.ParseFault.TheVariants.{TooLong, MissingBrace, MissingQuote, NoMemory}

-- an opener may stand at this position of a text, behind which so many brackets and indices may be opened in one another
pub record MayOpen (room : ℕ) (source : List ℕ) (at : ℕ) : Type 0 where
  pub short : length source ≤ most_bytes
  pub within : at < length source
  pub ascii : slice_index source at < 128
  pub nested : room ≤ most_nested

-- ── brackets and variables ──

abbrev pub piece_found : Opener → List ℕ → Read → Result (Piece × ℕ) ParseFault
piece_found opener behind (Ok rest) = Ok (opened_piece opener behind rest.close, suc rest.close)
piece_found opener behind (Err fault) = Err fault

-- what a bracket opens, or the parenthesis of `$name(index)`
abbrev pub opened_of : ℕ → Opener → List ℕ → Result (Piece × ℕ) ParseFault
opened_of zero opener behind = Err TooLong
opened_of (suc room) opener behind = piece_found opener behind (rest_of behind (within room) (first_skip opener) (opened_place opener) 0)

-- what a bracket before this text opens
abbrev pub bracket_of : ℕ → List ℕ → Result (Piece × ℕ) ParseFault
bracket_of room behind = opened_of room Bracket behind

abbrev pub some_found : Result (Piece × ℕ) ParseFault → Result (Option (Piece × ℕ)) ParseFault
some_found (Ok found) = Ok (Some found)
some_found (Err fault) = Err fault

abbrev pub substitution : ℕ → DollarForm → List ℕ → Result (Option (Piece × ℕ)) ParseFault
substitution room Alone behind = Ok None
substitution room (Named n) behind = Ok (Some (Variable (take n behind), n))
substitution room (Indexed n) behind = some_found (opened_of room (Index n) behind)
substitution room (Braced n) behind = Ok (Some (Variable (slice_range behind 1 (suc n)), n + 2))
substitution room Unclosed behind = Err MissingBrace

-- what a `$` before this text begins, unless it is a text
abbrev pub substitution_of : ℕ → List ℕ → Result (Option (Piece × ℕ)) ParseFault
substitution_of room behind = substitution room (dollar_of behind) behind

-- ── quotes ──

-- what the text behind an opening quote gives past so many bytes of it: substitution goes on up to the next quote
abbrev pub at_quote : Kind → ℕ → Read → Read
at_quote Quote at other = Ok (last_rest at)
at_quote kind at other = other

abbrev pub quoted_rest : ℕ → List ℕ → ℕ → ℕ → Read
quoted_rest room [] skip at = Err MissingQuote
quoted_rest room (b ∷ text) (suc skip) at = quoted_rest room text skip (at + 1)
quoted_rest room (b ∷ text) zero at =
    let move : ByteMove = in_text Parens (kind_before false b text) b text in
    at_quote (kind_before false b text) at
    (put (changed move.changes)
    (past move.step room at text (λ skip next. quoted_rest room text skip (at + 1)) (λ room skip next. rest_of text (within room) skip next 0)))

abbrev pub pieces_found : Read → Result (List Piece × ℕ) ParseFault
pieces_found (Ok rest) = Ok (literal_before rest.bytes rest.pieces, suc rest.close)
pieces_found (Err fault) = Err fault

-- the pieces between a quote before this text and the next one
abbrev pub quoted_of : ℕ → List ℕ → Result (List Piece × ℕ) ParseFault
quoted_of room behind = pieces_found (quoted_rest room behind 0 0)

-- ── the code ──

-- the answer is what it should be, unless memory was refused
abbrev pub IsReadAs : {T : Type 0} → Result T ParseFault → Result T ParseFault → Type 0
IsReadAs (Ok found) expected = expected ≡ Ok found
IsReadAs (Err fault) expected = (expected ≡ Err fault) ⊎ (fault ≡ NoMemory)

-- an origin of which only the room counts
abbrev pub outer : ℕ → Origin
outer room = record { base = 0; inside = true; room = room; skip = 0; place = Start }

-- what began so ends here, with these parts
abbrev pub EndsAt : Origin → List ℕ → Parts → ℕ → Type 0
EndsAt first source parts close = (place : BytePlace) × IsClosing first source [] first parts place close

-- what was read of a text in quotes, with the rest of it
abbrev pub quoted_whole : ℕ → List ℕ → Parts → ℕ → Result Whole ParseFault
quoted_whole room source parts next = joined_parts parts source (Text Parens) next (quoted_rest room (drop next source) 0 next)

-- reading goes on at a position past this one, and gives the same in all
pub record ReadsOn (room : ℕ) (source : List ℕ) (old : Parts) (at : ℕ) (new : Parts) (next : ℕ) : Type 0 where
  pub same : quoted_whole room source new next ≡ quoted_whole room source old at
  pub fine : IsCut new source next
  pub further : at < next
  pub within : next ≤ length source
