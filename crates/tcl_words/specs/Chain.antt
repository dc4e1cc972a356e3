-- Steps. Scripts and indices within one another: what each gives by itself, and what waits for it.
use Rattle.std.specs.Prelude.{ℕ, suc, ◌+◌, ◌-◌, ◌≡◌, ◌<◌, ◌≤◌, Bool, true, false, List, [], ◌∷◌, length, drop, take, Result, Ok, Err}
use Rattle.std.specs.List.{slice_range}
use Rattle.std.specs.Str.{IsCharBoundary}
use Rattle.tcl_words.specs.Reading.{Level, rest_of, opened_place, first_skip, opened_piece, commands_of, index_pieces_of}
use Rattle.tcl_words.specs.Parts.{Parts, Whole, joined_parts, no_parts, with_piece, is_index, ended, IsFine, IsOpenerCut}
use Rattle.tcl_words.specs.declared.kind.BytePlace.{BytePlace}
use Rattle.tcl_words.specs.declared.kind.BytePlace.TheVariants.{Start, Text}
use Rattle.tcl_words.specs.declared.kind.Opener.{Opener}
use Rattle.tcl_words.specs.declared.kind.Mode.{Mode}
use Rattle.tcl_words.specs.declared.nesting.Origin.{Origin}
use Rattle.tcl_words.specs.declared.nesting.Waiting.{Waiting}
use Rattle.tcl_words.specs.declared.kind.Opener.TheVariants.{Bracket, Index}
use Rattle.tcl_text.specs.declared.fault.ParseFault.{ParseFault}
use Rattle.tcl_text.specs.declared.fault.ParseFault.TheVariants.{TooLong}
use Rattle.tcl_text.specs.Limits.{most_nested}

-- the whole text is a script
abbrev pub outset : Origin
outset = record { base = 0; inside = false; room = most_nested; skip = 0; place = Start }

abbrev pub origin_level : Origin → Level
origin_level origin = record { inside = origin.inside; room = origin.room }

-- what a script or an index gives by itself
abbrev pub own : List ℕ → Origin → Result Whole ParseFault
own source origin =
    joined_parts (no_parts origin.skip) (drop origin.base source) origin.place origin.skip
    (rest_of (drop origin.base source) (origin_level origin) origin.skip origin.place 0)

-- how that begins which is opened at this position
abbrev pub opened : Origin → ℕ → Opener → Origin
opened origin at opener = record { base = origin.base + (at + 1); inside = true; room = origin.room - 1; skip = first_skip opener; place = opened_place opener }

-- what waits, once it has what it waited for
abbrev pub waiting_resumed : List ℕ → Waiting → Result Whole ParseFault → Result Whole ParseFault
waiting_resumed source waiting (Ok whole) =
    let behind : List ℕ = drop (waiting.at + 1) (drop waiting.origin.base source) in
    let end : ℕ = waiting.at + 1 + suc whole.close in
    joined_parts (with_piece waiting.parts (opened_piece waiting.opener behind whole.close) end) (drop waiting.origin.base source) (Text waiting.mode) end
    (rest_of behind (origin_level waiting.origin) (suc whole.close) (Text waiting.mode) (waiting.at + 1))
waiting_resumed source waiting (Err fault) = Err fault

pub record IsWaiting (source : List ℕ) (waiting : Waiting) : Type 0 where
  pub resumes : waiting_resumed source waiting (own source (opened waiting.origin waiting.at waiting.opener)) ≡ own source waiting.origin
  pub literal : waiting.parts.literal ≡ []
  pub index : is_index (Text waiting.mode) ≡ is_index waiting.origin.place
  pub base : IsCharBoundary source waiting.origin.base
  pub cut : IsOpenerCut source (waiting.origin.base + waiting.at) waiting.opener
  pub room : waiting.origin.room ≤ most_nested

-- each waits for the next, the last for what begins so
abbrev pub IsChain : List ℕ → Origin → List Waiting → Origin → Type 0
IsChain source first [] origin = first ≡ origin
IsChain source first (waiting ∷ others) origin =
    (waiting.origin ≡ first) × IsWaiting source waiting × IsChain source (opened waiting.origin waiting.at waiting.opener) others origin

-- What is open gives, with the rest of the text, what it gives by itself. It began so, and reading goes on at this place of
-- it, at this position from its base; these wait for it, the outermost of which began first.
pub record IsReading (first : Origin) (source : List ℕ) (others : List Waiting) (origin : Origin) (parts : Parts) (place : BytePlace) (next : ℕ) : Type 0 where
  pub chain : IsChain source first others origin
  pub reads : joined_parts parts (drop origin.base source) place next (rest_of (drop next (drop origin.base source)) (origin_level origin) 0 place next)
      ≡ own source origin
  pub fine : IsFine parts (drop origin.base source) place next
  pub base : IsCharBoundary source origin.base
  pub within : origin.base + next ≤ length source
  pub index : is_index place ≡ is_index origin.place
  pub room : origin.room ≤ most_nested

-- what is open waits for what an opener at this position opens
abbrev pub waits_for : Origin → Parts → ℕ → Opener → Mode → Waiting
waits_for origin parts at opener mode = record { origin = origin; parts = parts; at = at; opener = opener; mode = mode }

-- a bracket or a parenthesis opens at this position
pub record IsOpening (first : Origin) (source : List ℕ) (others : List Waiting) (origin : Origin) (parts : Parts)
    (at : ℕ) (opener : Opener) (mode : Mode) : Type 0 where
  pub chain : IsChain source first others origin
  pub waits : 0 < origin.room → IsWaiting source (waits_for origin parts at opener mode)
  pub full : origin.room ≡ 0 → own source origin ≡ Err TooLong
  pub room : origin.room ≤ most_nested
  pub cut : IsOpenerCut source (origin.base + at) opener

-- what is open ends at this position
pub record IsClosing (first : Origin) (source : List ℕ) (others : List Waiting) (origin : Origin) (parts : Parts) (place : BytePlace) (at : ℕ) : Type 0 where
  pub chain : IsChain source first others origin
  pub inside : origin.inside ≡ true
  pub ends : own source origin ≡ Ok (ended place parts at)
  pub index : is_index place ≡ is_index origin.place
  pub here : IsCharBoundary source (origin.base + at)
  pub past : IsCharBoundary source (origin.base + at + 1)

-- Past a byte: reading goes on, further than before, or what began first has ended there.
abbrev pub Goes : Bool → Origin → List ℕ → List Waiting → Origin → Parts → BytePlace → ℕ → ℕ → Type 0
Goes false first source others origin parts place next before = IsReading first source others origin parts place next × (before < origin.base + next)
Goes true first source others origin parts place next before = (others ≡ []) × IsClosing first source others origin parts place next

-- the parts of what was opened are those of its text, which ends so many bytes behind its base
abbrev pub IsParse : Opener → List ℕ → ℕ → Parts → Type 0
IsParse Bracket behind close parts = commands_of (take close behind) ≡ Ok parts.commands
IsParse (Index n) behind close parts = (index_pieces_of (slice_range behind (suc n) close) ≡ Ok parts.pieces) × (suc n ≤ close)
