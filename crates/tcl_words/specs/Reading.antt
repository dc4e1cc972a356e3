-- Steps. The commands of a script, by recursion on its bytes: what a byte means where it stands, and what it puts
-- in front of what the rest of the text gives. The first fault from the left is thereby the one that counts.
use Rattle.std.specs.Prelude.{ℕ, suc, zero, ◌+◌, Bool, true, false, not, nat_lt, if◌then◌else◌, List, [], ◌∷◌, length, take, Result, Ok, Err}
use Rattle.std.specs.List.{slice_range}
use Rattle.std.specs.Str.{is_utf8}
use Rattle.tcl_words.specs.Kinds.{kind_before}
use Rattle.tcl_words.specs.Changes.{Read, put, last_rest, literal_before, piece_before, changed}
use Rattle.tcl_words.specs.Moves.{ByteMove, lone, move_of}
use Rattle.tcl_words.specs.declared.kind.BytePlace.{BytePlace}
use Rattle.tcl_words.specs.declared.kind.BytePlace.TheVariants.{Start, Expanded, Text, InBraces}
use Rattle.tcl_words.specs.declared.kind.Mode.{Mode}
use Rattle.tcl_words.specs.declared.kind.Mode.TheVariants.{Quotes, Parens}
use Rattle.tcl_words.specs.declared.kind.Opener.{Opener}
use Rattle.tcl_words.specs.declared.kind.Opener.TheVariants.{Bracket as BracketOpener, Index as IndexOpener}
use Rattle.tcl_words.specs.declared.kind.Step.{Step}
use Rattle.tcl_words.specs.declared.kind.Step.TheVariants.{On, Within, Ends}
use Rattle.tcl_words.specs.declared.script.Piece.{Piece}
use Rattle.tcl_words.specs.declared.script.Piece.TheVariants.{Element, Bracket}
use Rattle.tcl_words.specs.declared.script.Command.{Command}
use Rattle.tcl_text.specs.declared.fault.ParseFault.{ParseFault}
use Rattle.tcl_text.specs.declared.fault.ParseFault.TheVariants.{TooLong, MissingBrace, MissingBracket, MissingQuote, MissingParen}
use Rattle.tcl_text.specs.Limits.{most_bytes, most_nested}

-- How what is read stands in other scripts: whether it ends at a closing bracket or parenthesis, and how many
-- brackets and indices may still be opened in it, one within the other.
pub record Level : Type 0 where
  pub inside : Bool
  pub room : ℕ

-- a whole text, which ends where its bytes do
abbrev pub outermost : Level
outermost = record { inside = false; room = most_nested }

-- what a bracket or a parenthesis opens
abbrev pub within : ℕ → Level
within room = record { inside = true; room = room }

-- what a bracket opens is a script; an index begins past the name before it
abbrev pub opened_place : Opener → BytePlace
opened_place BracketOpener = Start
opened_place (IndexOpener n) = Text Parens

abbrev pub first_skip : Opener → ℕ
first_skip BracketOpener = 0
first_skip (IndexOpener n) = suc n

-- the piece that was opened before this text, and that ends at this position of it
abbrev pub opened_piece : Opener → List ℕ → ℕ → Piece
opened_piece BracketOpener behind close = Bracket (take close behind)
opened_piece (IndexOpener n) behind close = Element (take n behind) (slice_range behind (suc n) close)

-- what the text behind an opener gives, by how it is read within; `go` reads on past what it took
abbrev pub past_opened : Opener → Mode → List ℕ → (ℕ → BytePlace → Read) → Read → Read
past_opened opener mode behind go (Ok rest) = put (piece_before (opened_piece opener behind rest.close)) (go (suc rest.close) (Text mode))
past_opened opener mode behind go (Err fault) = Err fault

-- Past a byte at this position, where `go` reads the text behind it further and `inner` reads it by itself.
abbrev pub past : Result Step ParseFault → ℕ → ℕ → List ℕ → (ℕ → BytePlace → Read) → (ℕ → ℕ → BytePlace → Read) → Read
past (Ok (On skip place)) room at behind go inner = go skip place
past (Ok (Within opener mode)) zero at behind go inner = Err TooLong
past (Ok (Within opener mode)) (suc room) at behind go inner = past_opened opener mode behind go (inner room (first_skip opener) (opened_place opener))
past (Ok Ends) room at behind go inner = Ok (last_rest at)
past (Err fault) room at behind go inner = Err fault

-- the end of the text, where what was read should have ended before it or not
abbrev pub end_or_fault : Bool → ParseFault → ℕ → Read
end_or_fault true fault at = Err fault
end_or_fault false fault at = Ok (last_rest at)

abbrev pub read_at_end : Bool → BytePlace → ℕ → Read
read_at_end inside (Text Quotes) at = Err MissingQuote
read_at_end inside (InBraces depth) at = Err MissingBrace
read_at_end inside (Text Parens) at = end_or_fault inside MissingParen at
read_at_end inside Expanded at = put (changed (lone at)) (end_or_fault inside MissingBracket at)
read_at_end inside place at = end_or_fault inside MissingBracket at

-- what a text gives past so many bytes of it to a place, where it begins at this position
abbrev pub rest_of : List ℕ → Level → ℕ → BytePlace → ℕ → Read
rest_of [] level skip place at = read_at_end level.inside place at
rest_of (b ∷ text) level (suc skip) place at = rest_of text level skip place (at + 1)
rest_of (b ∷ text) level zero place at =
    let move : ByteMove = move_of place (kind_before level.inside b text) b at text in
    put (changed move.changes)
    (past move.step level.room at text (λ skip next. rest_of text level skip next (at + 1)) (λ room skip next. rest_of text (within room) skip next 0))

abbrev pub commands_in : Read → Result (List Command) ParseFault
commands_in (Ok rest) = Ok rest.commands
commands_in (Err fault) = Err fault

abbrev pub pieces_in : Read → Result (List Piece) ParseFault
pieces_in (Ok rest) = Ok (literal_before rest.bytes rest.pieces)
pieces_in (Err fault) = Err fault

-- The commands of a text, or its fault.
abbrev pub commands_of : List ℕ → Result (List Command) ParseFault
commands_of text =
    if nat_lt most_bytes (length text) then Err TooLong
    else if not (is_utf8 text) then Err TooLong
    else commands_in (rest_of text outermost 0 Start 0)

-- The pieces of the text between the parentheses of `$name(index)`, or its fault.
abbrev pub index_pieces_of : List ℕ → Result (List Piece) ParseFault
index_pieces_of text = pieces_in (rest_of text outermost 0 (Text Parens) 0)
