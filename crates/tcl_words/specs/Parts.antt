-- Steps. What was read of a script or an index so far, and what it gives with the rest of the text.
use Rattle.std.specs.Prelude.{ℕ, ◌+◌, ◌-◌, ◌≡◌, ◌≢◌, ◌<◌, ◌≤◌, ◌⊎◌, Bool, true, false, List, [], ◌∷◌, ◌++◌, length, drop, slice_index, Result, Ok, Err}
use Rattle.std.specs.List.{slice_range}
use Rattle.std.specs.Str.{IsCharBoundary}
use Rattle.tcl_text.specs.Backslash.{escape}
use Rattle.tcl_text.specs.Bytes.{star as star_byte}
use Rattle.tcl_words.specs.Changes.{TextRest, Read, put, last_rest, literal_before, changed, piece_before}
use Rattle.tcl_words.specs.Spans.{command_from, word_of}
use Rattle.tcl_words.specs.Moves.{ByteMove}
use Rattle.tcl_words.specs.Reading.{first_skip, read_at_end}
use Rattle.tcl_words.specs.declared.kind.Kind.{Kind}
use Rattle.tcl_words.specs.declared.kind.Kind.TheVariants.{Blank, Newline, Semicolon, Continuation, CloseBracket, Expansion, Other}
use Rattle.tcl_words.specs.declared.kind.Dollar.{Dollar}
use Rattle.tcl_words.specs.declared.kind.Dollar.TheVariants.{Alone, Named, Indexed, Braced, Unclosed}
use Rattle.tcl_words.specs.declared.kind.BytePlace.{BytePlace}
use Rattle.tcl_words.specs.declared.kind.BytePlace.TheVariants.{Start, Comment, Between, Expanded, Text, PastQuotes, InBraces, PastBraces}
use Rattle.tcl_words.specs.declared.kind.Mode.{Mode}
use Rattle.tcl_words.specs.declared.kind.Mode.TheVariants.{Bare, Quotes, Parens}
use Rattle.tcl_words.specs.declared.kind.Opener.{Opener}
use Rattle.tcl_words.specs.declared.kind.Opener.TheVariants.{Bracket, Index}
use Rattle.tcl_words.specs.declared.kind.Step.{Step}
use Rattle.tcl_words.specs.declared.kind.Step.TheVariants.{On, Within, Ends}
use Rattle.tcl_words.specs.declared.script.WordForm.{WordForm}
use Rattle.tcl_words.specs.declared.script.WordForm.TheVariants.{Bare as BareForm}
use Rattle.tcl_words.specs.declared.script.Piece.{Piece}
use Rattle.tcl_words.specs.declared.script.Piece.TheVariants.{Literal}
use Rattle.tcl_words.specs.declared.script.Word.{Word}
use Rattle.tcl_words.specs.declared.script.Command.{Command}
use Rattle.tcl_text.specs.declared.fault.ParseFault.{ParseFault}
use Rattle.tcl_text.specs.declared.fault.ParseFault.TheVariants.{NoMemory}
use Rattle.tcl_text.specs.Limits.{most_bytes}

pub record Parts : Type 0 where
  -- the commands that have ended
  pub commands : List Command
  -- where the open command begins, and its words that have ended
  pub command_start : ℕ
  pub words : List Word
  -- where the open word begins and how it is written
  pub word_start : ℕ
  pub form : WordForm
  pub expand : Bool
  -- the pieces of the open word or index that have ended
  pub pieces : List Piece
  -- the open literal up to a mark, and from there on as it stands in the source
  pub literal : List ℕ
  pub mark : ℕ

-- nothing yet, with a mark
abbrev pub no_parts : ℕ → Parts
no_parts mark = record { commands = []; command_start = 0; words = []; word_start = 0; form = BareForm; expand = false; pieces = []; literal = []; mark = mark }

-- a script's commands or an index's pieces, and where it ends
pub record Whole : Type 0 where
  pub commands : List Command
  pub pieces : List Piece
  pub close : ℕ

abbrev pub script_whole : List Command → ℕ → Whole
script_whole commands close = record { commands = commands; pieces = []; close = close }

abbrev pub index_whole : List Piece → ℕ → Whole
index_whole pieces close = record { commands = []; pieces = pieces; close = close }

-- the parts once the open word has ended
abbrev pub with_word : Parts → ℕ → Parts
with_word parts end = record parts { words = parts.words ++ word_of parts.form parts.expand parts.word_start parts.pieces end ∷ []; pieces = [] }

-- the parts once the open command has ended
abbrev pub with_command : Parts → Parts
with_command parts = record parts { commands = parts.commands ++ command_from parts.command_start parts.words ∷ []; words = [] }

-- the parts with one more piece, past which the mark is
abbrev pub with_piece : Parts → Piece → ℕ → Parts
with_piece parts own mark = record parts { pieces = parts.pieces ++ own ∷ []; mark = mark }

-- the open literal up to a position
abbrev pub so_far : Parts → List ℕ → ℕ → List ℕ
so_far parts source at = parts.literal ++ slice_range source parts.mark at

-- the parts once the open literal has ended; it is a piece where it has bytes
abbrev pub with_literal : Parts → List ℕ → ℕ → Parts
with_literal parts source at = record parts { pieces = parts.pieces ++ literal_before (so_far parts source at) []; literal = []; mark = at }

-- the parts once the open literal of a word in braces has ended
abbrev pub with_braced : Parts → List ℕ → ℕ → Parts
with_braced parts source at = record parts { pieces = parts.pieces ++ Literal (so_far parts source at) ∷ []; literal = []; mark = at }

-- the script, where the open command has these further words
abbrev pub with_words : Parts → List Word → TextRest → Whole
with_words parts words rest = script_whole (parts.commands ++ command_from parts.command_start (parts.words ++ words) ∷ rest.commands) rest.close

-- the script, where the open word has these further pieces
abbrev pub with_pieces : Parts → List Piece → TextRest → Whole
with_pieces parts pieces rest = with_words parts (word_of parts.form parts.expand parts.word_start (parts.pieces ++ pieces) rest.end ∷ rest.words) rest

-- what is read, where the text that is open has these further pieces
abbrev pub with_text : Mode → Parts → List Piece → TextRest → Whole
with_text Bare parts pieces rest = with_pieces parts pieces rest
with_text Quotes parts pieces rest = with_pieces parts pieces rest
with_text Parens parts pieces rest = index_whole (parts.pieces ++ pieces) rest.close

-- the whole, with what the rest of the text gives to a place at this position
abbrev pub parts_with_rest : Parts → List ℕ → BytePlace → ℕ → TextRest → Whole
parts_with_rest parts source Start at rest = script_whole (parts.commands ++ rest.commands) rest.close
parts_with_rest parts source Comment at rest = script_whole (parts.commands ++ rest.commands) rest.close
parts_with_rest parts source Between at rest = with_words parts rest.words rest
parts_with_rest parts source Expanded at rest = with_words parts rest.words rest
parts_with_rest parts source (Text mode) at rest = with_text mode parts (literal_before (so_far parts source at ++ rest.bytes) rest.pieces) rest
parts_with_rest parts source (InBraces depth) at rest = with_pieces parts (Literal (so_far parts source at ++ rest.bytes) ∷ []) rest
parts_with_rest parts source PastQuotes at rest = with_pieces parts [] rest
parts_with_rest parts source PastBraces at rest = with_pieces parts [] rest

abbrev pub joined_parts : Parts → List ℕ → BytePlace → ℕ → Read → Result Whole ParseFault
joined_parts parts source place at (Ok rest) = Ok (parts_with_rest parts source place at rest)
joined_parts parts source place at (Err fault) = Err fault

-- the literal that is open can be cut at its mark, and isn't longer than the source that it was read from
pub record IsCut (parts : Parts) (source : List ℕ) (at : ℕ) : Type 0 where
  pub before : parts.mark ≤ at
  pub boundary : IsCharBoundary source parts.mark
  pub short : length parts.literal ≤ parts.mark

-- the literal that is open may end at this position
pub record MayEnd (parts : Parts) (source : List ℕ) (at : ℕ) : Type 0 where
  pub ordered : parts.mark ≤ at
  pub within : at ≤ length source
  pub short : length source ≤ most_bytes
  pub kept : length parts.literal ≤ parts.mark
  pub begins : IsCharBoundary source parts.mark
  pub ends : IsCharBoundary source at

-- `{*}` stands before this position
pub record IsExpansion (source : List ℕ) (at : ℕ) : Type 0 where
  pub three : 3 ≤ at
  pub star : slice_range source (at - 2) (at - 1) ≡ star_byte ∷ []
  pub cut_before : IsCharBoundary source (at - 2)
  pub cut_between : IsCharBoundary source (at - 1)
  pub cut_after : IsCharBoundary source at

-- what holds of the open parts at each place
abbrev pub IsFine : Parts → List ℕ → BytePlace → ℕ → Type 0
IsFine parts source Start at = IsCharBoundary source at
IsFine parts source Comment at = Unit {0}
IsFine parts source Between at = IsCharBoundary source at
IsFine parts source Expanded at = IsExpansion source at
IsFine parts source (Text mode) at = IsCut parts source at
IsFine parts source (InBraces depth) at = IsCut parts source at × (depth ≤ at)
IsFine parts source PastQuotes at = Unit {0}
IsFine parts source PastBraces at = Unit {0}

-- a byte of this kind stands at this position of a source that is short enough for a script
pub record StandsAt (source : List ℕ) (at byte : ℕ) (kind : Kind) : Type 0 where
  pub within : at < length source
  pub short : length source ≤ most_bytes
  pub byte_is : slice_index source at ≡ byte
  -- the source can be cut before and after an ASCII byte
  pub cut : kind ≢ Other → IsCharBoundary source at
  pub cut_after : kind ≢ Other → IsCharBoundary source (at + 1)
  -- `*}` stands behind the brace
  pub expansion : kind ≡ Expansion → IsExpansion source (at + 3)
  pub continuation : kind ≡ Continuation → IsCharBoundary source (at + 1 + (escape (drop (at + 1) source)).length)

-- a backslash has been read, and what it stands for is part of the open literal
pub record Escaped (old new : Parts) (source : List ℕ) (at taken : ℕ) : Type 0 where
  pub takes : taken ≡ (escape (drop (at + 1) source)).length
  pub within : at + 1 + taken ≤ length source
  pub same : new ≡ record old { literal = new.literal; mark = new.mark }
  pub meant : so_far new source (at + 1 + taken) ≡ so_far old source at ++ (escape (drop (at + 1) source)).meaning
  pub cut : IsCut new source (at + 1 + taken)

-- a byte of this kind ends the word before it
abbrev pub EndsWord : Kind → Type 0
EndsWord kind = (kind ≡ Blank) ⊎ ((kind ≡ Newline) ⊎ ((kind ≡ Semicolon) ⊎ ((kind ≡ Continuation) ⊎ (kind ≡ CloseBracket))))

-- what the code found behind a `$` fits there, and the source can be cut where it ends
abbrev pub DollarFits : List ℕ → Dollar → Type 0
DollarFits behind Alone = Unit {0}
DollarFits behind (Named n) = (0 < n) × (n ≤ length behind) × (slice_index behind (n - 1) < 128)
DollarFits behind (Indexed n) = (n < length behind) × (slice_index behind n < 128)
DollarFits behind (Braced n) = (n + 2 ≤ length behind) × (slice_index behind 0 < 128) × (slice_index behind (n + 1) < 128)
DollarFits behind Unclosed = Unit {0}

-- how long the name is behind an opener
abbrev pub name_before : Opener → ℕ
name_before Bracket = 0
name_before (Index n) = n

-- the source can be cut around what is opened at this position
pub record IsOpenerCut (source : List ℕ) (at : ℕ) (opener : Opener) : Type 0 where
  pub behind : IsCharBoundary source (at + 1)
  pub name : IsCharBoundary source (at + 1 + name_before opener)
  pub first : IsCharBoundary source (at + 1 + first_skip opener)

-- an index is read here, and no script
abbrev pub is_index : BytePlace → Bool
is_index (Text Parens) = true
is_index place = false

-- what was read, where it ends in this place
abbrev pub ended : BytePlace → Parts → ℕ → Whole
ended (Text Parens) parts at = index_whole parts.pieces at
ended place parts at = script_whole parts.commands at

-- The code has done a move: what is open, joined with any rest, is what it was before the byte.
abbrev pub DoesMove : Parts → Parts → List ℕ → ℕ → BytePlace → ByteMove → Result Step ParseFault → Type 0
DoesMove old new source at place move (Ok (On skip next)) =
    (move.step ≡ Ok (On skip next))
    × ((rest : Read) → joined_parts old source place at (put (changed move.changes) rest) ≡ joined_parts new source next (at + 1 + skip) rest)
    × IsFine new source next (at + 1 + skip)
    × (at + 1 + skip ≤ length source)
    × (is_index next ≡ is_index place)
DoesMove old new source at place move (Ok (Within opener mode)) =
    (move.step ≡ Ok (Within opener mode))
    × ((own : Piece) (mark : ℕ) (rest : Read) → joined_parts old source place at (put (changed move.changes) (put (piece_before own) rest))
    ≡ joined_parts (with_piece new own mark) source (Text mode) mark rest)
    × (new.literal ≡ [])
    × IsOpenerCut source at opener
    × (is_index (Text mode) ≡ is_index place)
DoesMove old new source at place move (Ok Ends) =
    (move.step ≡ Ok Ends)
    × (joined_parts old source place at (put (changed move.changes) (Ok (last_rest at))) ≡ Ok (ended place new at))
    × IsCharBoundary source at
    × IsCharBoundary source (at + 1)
DoesMove old new source at place move (Err fault) = (move.step ≡ Err fault) ⊎ (fault ≡ NoMemory)

-- the text ends, and these are the commands of its script
abbrev pub FinishesScript : Parts → Parts → List ℕ → BytePlace → ℕ → Result (Unit {0}) ParseFault → Type 0
FinishesScript old new source place at (Ok done) = joined_parts old source place at (read_at_end false place at) ≡ Ok (script_whole new.commands at)
FinishesScript old new source place at (Err fault) = (read_at_end false place at ≡ Err fault) ⊎ (fault ≡ NoMemory)
