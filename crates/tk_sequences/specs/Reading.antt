-- Steps. What a text says as an event sequence, and why one is refused, as a function that goes from byte to byte. What it is says `Grammar`, as a
-- relation on the whole text; that they are one, the laws `sequences_are_read` and `faults_are_told`.
use Rattle.std.specs.Prelude.{◌≡◌, ℕ, ◌+◌, ◌-◌, Bool, false, ◌&&◌, ◌||◌, ◌==◌, nat_le, bit_or, if◌then◌else◌, List, [], ◌∷◌, ◌++◌, drop, filter, length, Option, Some, None, option_map, Result, Ok, Err}
use Rattle.std.specs.List.{prefix_len, slice_split}
use Rattle.std.specs.Option.{option_or}
use Rattle.tk_base.specs.Steps.{◌>>=◌}
use Rattle.tcl_text.specs.Backslash.{is_white}
use Rattle.tk_base.specs.Names.{key_named, key_of_character}
use Rattle.tk_sequences.specs.Modifiers.{modifier_named, modifier_bit}
use Rattle.tk_sequences.specs.Patterns.{most_events, repetition_named, times_of}
use Rattle.tk_sequences.specs.Types.{type_named, is_key_type, is_button_type}
use Rattle.tk_sequences.specs.Words.{button_named, is_separator, is_single, is_some_text, name_in}
use Rattle.tk_sequences.specs.declared.detail.Detail.{Detail}
use Rattle.tk_sequences.specs.declared.detail.Detail.TheVariants as details
use Rattle.tk_sequences.specs.declared.event_type.EventType.{EventType}
use Rattle.tk_sequences.specs.declared.event_type.EventType.TheVariants as types
use Rattle.tk_sequences.specs.declared.fault.SequenceFault.{SequenceFault}
use Rattle.tk_sequences.specs.declared.fault.SequenceFault.TheVariants.{BadSequence, BadKeysym}
use Rattle.tk_sequences.specs.declared.modifier.Modifier.{Modifier}
use Rattle.tk_sequences.specs.declared.pattern.Pattern.{Pattern}
use Rattle.tk_sequences.specs.declared.pattern.Repetition.{Repetition}
use Rattle.tk_sequences.specs.declared.pattern.Repetition.TheVariants.{Single}
use Rattle.tk_sequences.specs.declared.sequence.Sequence.{Sequence}
use Rattle.tk_sequences.specs.declared.sequence.Sequence.TheVariants.{Virtual, Physical}
use Rattle.tk_sequences.specs.declared.reading.Prefix.{Prefix}
use Rattle.tk_sequences.specs.declared.reading.Prefix.TheVariants as prefixes

-- what was read, or why it was refused
abbrev pub OrFault : Type 0 → Type 0
OrFault T = Result T SequenceFault

-- ---- the fields of a pattern in brackets

-- what stands between separators, of which any number may come together, also in front and at the end
unfoldable pub fields : List ℕ → List (List ℕ)
fields inner = filter is_some_text (slice_split is_separator inner)

-- ---- words

-- a modifier, or how often the event comes
abbrev pub prefix_named : List ℕ → Option Prefix
prefix_named word = option_or (option_map prefixes.Modifier (modifier_named word)) (option_map prefixes.Repetition (repetition_named word))

-- each of their words begins with one of these bytes, and has at most nine
abbrev pub is_initial : ℕ → Bool
is_initial byte =
    (nat_le 65 byte && nat_le byte 68) || (byte == 76 || (byte == 77 || (byte == 81 || (byte == 83 || byte == 84))))

abbrev pub may_stand_before : List ℕ → Bool
may_stand_before [] = false
may_stand_before (first ∷ rest) = is_initial first && nat_le (length (first ∷ rest)) 9

-- a character that stands for its key, within brackets: not `-`, `<` or `>`
abbrev pub key_of_one : List ℕ → Option ℕ
key_of_one [] = None
key_of_one (byte ∷ []) = if byte == 45 || (byte == 60 || byte == 62) then None else key_of_character byte
key_of_one (byte ∷ other ∷ bytes) = None

-- a key by its name or by its character
unfoldable pub key_meant : List ℕ → Option ℕ
key_meant word = option_or (key_named word) (key_of_one word)

-- ---- one pattern

-- the detail of a type, or none of the right kind: an unknown key is told by itself, anything else by the whole sequence
abbrev pub key_or_fault : List ℕ → Option ℕ → OrFault Detail
key_or_fault word (Some key) = Ok (details.Key key)
key_or_fault word None = Err (BadKeysym word)

abbrev pub button_or_fault : List ℕ → Option ℕ → OrFault Detail
button_or_fault whole (Some button) = Ok (details.Button button)
button_or_fault whole None = Err (BadSequence whole)

unfoldable pub detail_of : List ℕ → EventType → List ℕ → OrFault Detail
detail_of whole kind word =
    if is_key_type kind then key_or_fault word (key_meant word)
    else (if is_button_type kind then button_or_fault whole (button_named word)
    else Err (BadSequence whole))

-- a type with what stands behind it, of which only one may be left
abbrev pub detail_behind : List ℕ → EventType → List (List ℕ) → OrFault (Option Detail)
detail_behind whole kind [] = Ok None
detail_behind whole kind (word ∷ []) = do
  detail ← detail_of whole kind word
  Ok (Some detail)
detail_behind whole kind (word ∷ other ∷ words) = do
  _ ← detail_of whole kind word
  Err (BadSequence whole)

-- whether the events of a type can be counted by how they repeat
abbrev pub may_repeat : EventType → Bool
may_repeat kind = is_key_type kind || is_button_type kind

abbrev pub typed : List ℕ → ℕ → Repetition → EventType → List (List ℕ) → OrFault Pattern
typed whole held times kind words =
    if is_single times || may_repeat kind then (do
      detail ← detail_behind whole kind words
      Ok (record { modifiers = held; times = times; kind = kind; detail = detail }))
    else Err (BadSequence whole)

-- a detail without a type: a button, or else a key
abbrev pub button_or_key : List ℕ → Option ℕ → OrFault Detail
button_or_key word (Some button) = Ok (details.Button button)
button_or_key word None = key_or_fault word (key_meant word)

abbrev pub type_of_detail : Detail → EventType
type_of_detail (details.Key key) = types.Key
type_of_detail (details.Button button) = types.Button

abbrev pub alone : List ℕ → ℕ → Repetition → Detail → List (List ℕ) → OrFault Pattern
alone whole held times detail [] = Ok (record { modifiers = held; times = times; kind = type_of_detail detail; detail = Some detail })
alone whole held times detail (word ∷ words) = Err (BadSequence whole)

abbrev pub untyped : List ℕ → ℕ → Repetition → List ℕ → List (List ℕ) → OrFault Pattern
untyped whole held times word words = do
  detail ← button_or_key word (button_named word)
  alone whole held times detail words

abbrev pub typed_or_not : List ℕ → ℕ → Repetition → List ℕ → List (List ℕ) → Option EventType → OrFault Pattern
typed_or_not whole held times word words (Some kind) = typed whole held times kind words
typed_or_not whole held times word words None = untyped whole held times word words

-- what stands behind modifiers and repetition: a type, a detail, or both
unfoldable pub headed : List ℕ → ℕ → Repetition → List ℕ → List (List ℕ) → OrFault Pattern
headed whole held times word words = typed_or_not whole held times word words (type_named word)

-- one more modifier, a repetition where there is none so far, or else something other than these two
abbrev pub with_prefix : {T : Type 0} → Option Prefix → (Modifier → T) → (Repetition → T) → T → T
with_prefix (Some (prefixes.Modifier modifier)) held times other = held modifier
with_prefix (Some (prefixes.Repetition repetition)) held times other = times repetition
with_prefix None held times other = other

-- the pattern that fields are, behind what is held and how often it comes
abbrev pub pattern_behind : List ℕ → ℕ → Repetition → List (List ℕ) → OrFault Pattern
pattern_behind whole held times [] = Err (BadSequence whole)
pattern_behind whole held times (word ∷ words) =
    with_prefix (prefix_named word)
    (λ modifier. pattern_behind whole (bit_or held (modifier_bit modifier)) times words)
    (λ repetition. if is_single times then pattern_behind whole held repetition words else Err (BadSequence whole))
    (headed whole held times word words)

-- the pattern in brackets
unfoldable pub pattern_of : List ℕ → List ℕ → OrFault Pattern
pattern_of whole inner = pattern_behind whole 0 Single (fields inner)

-- a key by its character, outside brackets
abbrev pub plain_key : List ℕ → Option ℕ → OrFault Pattern
plain_key whole (Some key) = Ok (record { modifiers = 0; times = Single; kind = types.Key; detail = Some (details.Key key) })
plain_key whole None = Err (BadSequence whole)

unfoldable pub plain_pattern : List ℕ → ℕ → OrFault Pattern
plain_pattern whole byte = plain_key whole (key_of_character byte)

-- ---- patterns

-- between patterns, or behind `<` with the bytes that stand behind it so far
pub data ReadingPlace : Type 0 where
  Between : ReadingPlace
  Within : List ℕ → ReadingPlace

abbrev pub onto : Pattern → OrFault (List Pattern) → OrFault (List Pattern)
onto pattern (Ok patterns) = Ok (pattern ∷ patterns)
onto pattern (Err fault) = Err fault

-- a pattern and those behind it, where so many events still may come
abbrev pub counted : List ℕ → ℕ → OrFault Pattern → (ℕ → OrFault (List Pattern)) → OrFault (List Pattern)
counted whole room (Err fault) rest = Err fault
counted whole room (Ok pattern) rest =
    if nat_le (times_of pattern.times) room then onto pattern (rest (room - times_of pattern.times)) else Err (BadSequence whole)

-- the patterns that a text is, from a place on
abbrev pub patterns_from : List ℕ → ReadingPlace → ℕ → List ℕ → OrFault (List Pattern)
patterns_from whole Between room [] = Ok []
patterns_from whole (Within inner) room [] = Err (BadSequence whole)
patterns_from whole Between room (byte ∷ rest) =
    if is_white byte then patterns_from whole Between room rest
    else (if byte == 60 then patterns_from whole (Within []) room rest
    else counted whole room (plain_pattern whole byte) (λ left. patterns_from whole Between left rest))
patterns_from whole (Within inner) room (byte ∷ rest) =
    if byte == 62 then counted whole room (pattern_of whole inner) (λ left. patterns_from whole Between left rest)
    else patterns_from whole (Within (inner ++ byte ∷ [])) room rest

-- a text behind its white space in front
abbrev pub behind_white : List ℕ → List ℕ
behind_white text = drop (prefix_len is_white text) text

-- the patterns of a text are one with those of what stands behind it
abbrev pub CutsOff : List ℕ → Pattern → List ℕ → List ℕ → Type 0
CutsOff whole pattern text behind = (room : ℕ)
    → patterns_from whole Between room text ≡ counted whole room (Ok pattern) (λ left. patterns_from whole Between left behind)

abbrev pub IsRefused : List ℕ → List ℕ → SequenceFault → Type 0
IsRefused whole text fault = (room : ℕ) → patterns_from whole Between room text ≡ Err fault

abbrev pub some_patterns : List ℕ → List Pattern → OrFault Sequence
some_patterns whole [] = Err (BadSequence whole)
some_patterns whole (pattern ∷ patterns) = Ok (Physical (pattern ∷ patterns))

-- one or more patterns for few enough events
unfoldable pub physical : List ℕ → OrFault Sequence
physical whole = do
  patterns ← patterns_from whole Between most_events whole
  some_patterns whole patterns

-- ---- the whole

abbrev pub begins_with_bracket : List ℕ → Bool
begins_with_bracket [] = false
begins_with_bracket (byte ∷ bytes) = byte == 60

-- whether `<<` stands somewhere
abbrev pub has_brackets : List ℕ → Bool
has_brackets [] = false
has_brackets (byte ∷ bytes) = (byte == 60 && begins_with_bracket bytes) || has_brackets bytes

abbrev pub named_or_physical : List ℕ → Option (List ℕ) → OrFault Sequence
named_or_physical text (Some name) = Ok (Virtual name)
named_or_physical text None = if has_brackets text then Err (BadSequence text) else physical text

-- a virtual event alone; or, where no `<<` stands in the text, patterns
unfoldable pub read_sequence : List ℕ → OrFault Sequence
read_sequence text = named_or_physical text (name_in text)
