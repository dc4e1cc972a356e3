-- Meaning. The grammar of event sequences (bind(n), EVENT PATTERNS), as a relation between a whole text and the sequence that it is, or its fault. It
-- cuts texts into white space, patterns and fields, and says nothing of how a text is read. The words are those of the tables of `tk_sequences` and
-- `tk_base`.
use Rattle.std.specs.Prelude.{◌≡◌, ◌≢◌, ◌⊎◌, ℕ, ◌<◌, ◌≤◌, true, false, bit_or, List, [], ◌∷◌, ◌++◌, Option, Some, None, Result, Ok, Err, codes}
use Rattle.tcl_text.specs.Backslash.{is_white}
use Rattle.tcl_text.specs.Bytes.{greater_sign, less_sign, minus_sign, space}
use Rattle.tk_base.specs.Names.{key_named, key_of_character}
use Rattle.tk_sequences.specs.Modifiers.{modifier_named, modifier_bit}
use Rattle.tk_sequences.specs.Patterns.{count_of, most_events, repetition_named}
use Rattle.tk_sequences.specs.Words.{is_separator, button_named}
use Rattle.tk_sequences.specs.Types.{type_named, is_key_type, is_button_type}
use Rattle.tk_sequences.specs.declared.detail.Detail.{Detail}
use Rattle.tk_sequences.specs.declared.detail.Detail.TheVariants as details
use Rattle.tk_sequences.specs.declared.event_type.EventType.{EventType}
use Rattle.tk_sequences.specs.declared.event_type.EventType.TheVariants as types
use Rattle.tk_sequences.specs.declared.fault.SequenceFault.{SequenceFault}
use Rattle.tk_sequences.specs.declared.fault.SequenceFault.TheVariants.{BadSequence, BadKeysym}
use Rattle.tk_sequences.specs.declared.modifier.Modifier.{Modifier}
use Rattle.tk_sequences.specs.declared.pattern.Pattern.{Pattern}
use Rattle.tk_sequences.specs.declared.pattern.Repetition.{Repetition}
use Rattle.tk_sequences.specs.declared.pattern.Repetition.TheVariants.{Single}
use Rattle.tk_sequences.specs.declared.sequence.Sequence.{Sequence}
use Rattle.tk_sequences.specs.declared.sequence.Sequence.TheVariants.{Virtual, Physical}

-- ---- texts of one kind of bytes

-- each byte has it
abbrev pub Each : (ℕ → Type 0) → List ℕ → Type 0
Each Has [] = Unit {0}
Each Has (byte ∷ bytes) = Has byte × Each Has bytes

-- white space, or nothing
abbrev pub IsGap : List ℕ → Type 0
IsGap text = Each (λ byte. is_white byte ≡ true) text

-- no `>`
abbrev pub HasNoClosing : List ℕ → Type 0
HasNoClosing text = Each (λ byte. byte ≢ greater_sign) text

-- ---- the fields of a pattern in brackets

-- `-` and white space, or nothing
abbrev pub AreSeparators : List ℕ → Type 0
AreSeparators text = Each (λ byte. is_separator byte ≡ true) text

-- not empty, without separators
abbrev pub IsField : List ℕ → Type 0
IsField text = (text ≢ []) × Each (λ byte. is_separator byte ≡ false) text

-- a field ends before this text
abbrev pub EndsField : List ℕ → Type 0
EndsField [] = Unit {0}
EndsField (byte ∷ bytes) = is_separator byte ≡ true

-- The text is these fields, with separators between and around them.
abbrev pub AreFields : List ℕ → List (List ℕ) → Type 0
AreFields text [] = AreSeparators text
AreFields text (field ∷ fields) =
    (gap : List ℕ) × (rest : List ℕ) × (text ≡ gap ++ (field ++ rest)) × AreSeparators gap × IsField field × EndsField rest × AreFields rest fields

-- ---- what the fields say

-- Modifiers, and at most one of Double, Triple and Quadruple, in any order; with what is held, and how often the event comes.
pub data ArePrefixes : List (List ℕ) → ℕ → Repetition → Type 0 where
  none : ArePrefixes [] 0 Single
  modifier : {front : List (List ℕ)} (word : List ℕ) {held : ℕ} {times : Repetition} (modifier : Modifier) →
      ArePrefixes front held times → modifier_named word ≡ Some modifier →
      ArePrefixes (front ++ word ∷ []) (bit_or held (modifier_bit modifier)) times
  repetition : {front : List (List ℕ)} (word : List ℕ) {held : ℕ} {times : Repetition} → ArePrefixes front held Single → repetition_named word ≡ Some times →
      ArePrefixes (front ++ word ∷ []) held times

-- A key by its name, or by its character, which is a printing ASCII character other than `-`, `<` and `>`.
pub data IsKey : List ℕ → ℕ → Type 0 where
  by_name : {word : List ℕ} {key : ℕ} → key_named word ≡ Some key → IsKey word key
  by_character : (byte : ℕ) {key : ℕ} → byte ≢ minus_sign → byte ≢ less_sign → byte ≢ greater_sign → key_of_character byte ≡ Some key → IsKey (byte ∷ []) key

-- The detail of a type: a key, or a button from 1 to 5.
pub data IsDetail : EventType → List ℕ → Detail → Type 0 where
  a_key : {kind : EventType} {word : List ℕ} {key : ℕ} → is_key_type kind ≡ true → IsKey word key → IsDetail kind word (details.Key key)
  a_button : {kind : EventType} {word : List ℕ} {button : ℕ} → is_button_type kind ≡ true → button_named word ≡ Some button →
      IsDetail kind word (details.Button button)

-- A detail without a type: a button where it is 1 to 5, and else a key.
pub data IsAlone : List ℕ → EventType → Detail → Type 0 where
  a_button : {word : List ℕ} {button : ℕ} → button_named word ≡ Some button → IsAlone word types.Button (details.Button button)
  a_key : {word : List ℕ} {key : ℕ} → button_named word ≡ None → IsKey word key → IsAlone word types.Key (details.Key key)

-- What stands behind modifiers and repetition: a type, a type and its detail, or a detail.
pub data IsEvent : List (List ℕ) → EventType → Option Detail → Type 0 where
  type_alone : {word : List ℕ} {kind : EventType} → type_named word ≡ Some kind → IsEvent (word ∷ []) kind None
  type_and_detail : {word detail_word : List ℕ} {kind : EventType} {detail : Detail} → type_named word ≡ Some kind → IsDetail kind detail_word detail →
      IsEvent (word ∷ detail_word ∷ []) kind (Some detail)
  detail_alone : {word : List ℕ} {kind : EventType} {detail : Detail} → IsAlone word kind detail → IsEvent (word ∷ []) kind (Some detail)

-- events that may be counted: those of keys and buttons
abbrev pub IsCounted : EventType → Type 0
IsCounted kind = (is_key_type kind ≡ true) ⊎ (is_button_type kind ≡ true)

-- The fields are those of this pattern.
pub record AreOf (fields : List (List ℕ)) (pattern : Pattern) : Type 0 where
  pub prefixes : List (List ℕ)
  pub event : List (List ℕ)
  pub cut : fields ≡ prefixes ++ event
  pub are_prefixes : ArePrefixes prefixes pattern.modifiers pattern.times
  pub is_event : IsEvent event pattern.kind pattern.detail
  pub may_come : (pattern.times ≡ Single) ⊎ IsCounted pattern.kind

-- ---- patterns

-- the pattern of a key alone
abbrev pub key_pattern : ℕ → Pattern
key_pattern key = record { modifiers = 0; times = Single; kind = types.Key; detail = Some (details.Key key) }

-- The text is this pattern.
pub data IsPattern : List ℕ → Pattern → Type 0 where
  -- a printing ASCII character other than blank and `<`, for its key
  character : (byte key : ℕ) → byte ≢ space → byte ≢ less_sign → key_of_character byte ≡ Some key → IsPattern (byte ∷ []) (key_pattern key)
  -- fields in `<` and `>`, neither of which is in a word of the tables: so the first `>` closes them
  brackets : (inner : List ℕ) {fields : List (List ℕ)} {pattern : Pattern} → AreFields inner fields → AreOf fields pattern →
      IsPattern (less_sign ∷ (inner ++ greater_sign ∷ [])) pattern

-- The text begins with these patterns, with white space in front of each, and goes on with the rest.
abbrev pub BeginsWith : List ℕ → List Pattern → List ℕ → Type 0
BeginsWith text [] rest = text ≡ rest
BeginsWith text (pattern ∷ patterns) rest =
    (gap : List ℕ) × (own : List ℕ) × (behind : List ℕ) × (text ≡ gap ++ (own ++ behind)) × IsGap gap × IsPattern own pattern × BeginsWith behind patterns rest

-- ---- the whole

-- the text is this name of a virtual event, alone and in its brackets
abbrev pub IsVirtual : List ℕ → List ℕ → Type 0
IsVirtual text name = (name ≢ []) × HasNoClosing name × (text ≡ codes "<<" ++ (name ++ codes ">>"))

-- The text is this sequence: a virtual event, or one or more patterns for at most 32 events. How long a text may be is no matter of its grammar.
pub data IsSequence (text : List ℕ) : Sequence → Type 0 where
  virtual : (name : List ℕ) → IsVirtual text name → IsSequence text (Virtual name)
  physical : (patterns : List Pattern) (gap : List ℕ) → patterns ≢ [] → count_of patterns ≤ most_events → BeginsWith text patterns gap → IsGap gap →
      IsSequence text (Physical patterns)

-- ---- faults, where `whole` is the text that is told as the sequence

-- The fault of what stands behind these modifiers and this repetition.
pub data IsFaultyEvent (whole : List ℕ) (times : Repetition) : List (List ℕ) → SequenceFault → Type 0 where
  -- nothing stands there
  missing : IsFaultyEvent whole times [] (BadSequence whole)
  -- a second repetition
  repeated : {word : List ℕ} {again : Repetition} {words : List (List ℕ)} → times ≢ Single → repetition_named word ≡ Some again →
      IsFaultyEvent whole times (word ∷ words) (BadSequence whole)
  -- a word of no kind
  unknown : {word : List ℕ} {words : List (List ℕ)} → modifier_named word ≡ None → repetition_named word ≡ None → type_named word ≡ None →
      button_named word ≡ None → ((key : ℕ) → ¬ IsKey word key) →
      IsFaultyEvent whole times (word ∷ words) (BadKeysym word)
  -- something behind a detail without a type
  behind_alone : {word other : List ℕ} {kind : EventType} {detail : Detail} {words : List (List ℕ)} → IsAlone word kind detail →
      IsFaultyEvent whole times (word ∷ other ∷ words) (BadSequence whole)
  -- events that aren't counted
  uncounted : {word : List ℕ} {kind : EventType} {words : List (List ℕ)} → type_named word ≡ Some kind → times ≢ Single → ¬ IsCounted kind →
      IsFaultyEvent whole times (word ∷ words) (BadSequence whole)
  -- a detail of a type that has none
  no_detail : {word other : List ℕ} {kind : EventType} {words : List (List ℕ)} → type_named word ≡ Some kind → ¬ IsCounted kind →
      IsFaultyEvent whole times (word ∷ other ∷ words) (BadSequence whole)
  -- no key where one is wanted
  no_key : {word other : List ℕ} {kind : EventType} {words : List (List ℕ)} → type_named word ≡ Some kind → is_key_type kind ≡ true →
      ((key : ℕ) → ¬ IsKey other key) →
      IsFaultyEvent whole times (word ∷ other ∷ words) (BadKeysym other)
  -- no button where one is wanted
  no_button : {word other : List ℕ} {kind : EventType} {words : List (List ℕ)} → type_named word ≡ Some kind → is_button_type kind ≡ true →
      button_named other ≡ None →
      IsFaultyEvent whole times (word ∷ other ∷ words) (BadSequence whole)
  -- something behind a type and its detail
  behind_both : {word detail_word other : List ℕ} {kind : EventType} {detail : Detail} {words : List (List ℕ)} → type_named word ≡ Some kind →
      IsDetail kind detail_word detail →
      IsFaultyEvent whole times (word ∷ detail_word ∷ other ∷ words) (BadSequence whole)

-- The fault of the fields of a pattern.
pub record AreFaulty (whole : List ℕ) (fields : List (List ℕ)) (fault : SequenceFault) : Type 0 where
  pub prefixes : List (List ℕ)
  pub event : List (List ℕ)
  pub held : ℕ
  pub times : Repetition
  pub cut : fields ≡ prefixes ++ event
  pub are_prefixes : ArePrefixes prefixes held times
  pub is_faulty : IsFaultyEvent whole times event fault

-- The fault of a text at whose front a pattern would stand.
pub data IsFaulty (whole : List ℕ) : List ℕ → SequenceFault → Type 0 where
  -- a character that has no key
  character : {byte : ℕ} {rest : List ℕ} → is_white byte ≡ false → key_of_character byte ≡ None → IsFaulty whole (byte ∷ rest) (BadSequence whole)
  -- a bracket that never closes
  unclosed : {rest : List ℕ} → HasNoClosing rest → IsFaulty whole (less_sign ∷ rest) (BadSequence whole)
  -- fields at fault, up to the first bracket that closes
  brackets : (inner rest : List ℕ) {fields : List (List ℕ)} {fault : SequenceFault} → HasNoClosing inner → AreFields inner fields →
      AreFaulty whole fields fault →
      IsFaulty whole (less_sign ∷ (inner ++ greater_sign ∷ rest)) fault

-- `<<` stands somewhere in the text
abbrev pub HasOpening : List ℕ → Type 0
HasOpening text = (before : List ℕ) × (after : List ℕ) × (text ≡ before ++ (codes "<<" ++ after))

-- The text is no sequence, and this is its fault: `<<` in a text that is no virtual event, which counts before all else; no pattern at all; or
-- from the left the first of a pattern at fault and a pattern for too many events.
pub data HasFault (text : List ℕ) : SequenceFault → Type 0 where
  opening : HasOpening text → ((name : List ℕ) → ¬ IsVirtual text name) → HasFault text (BadSequence text)
  empty : IsGap text → HasFault text (BadSequence text)
  faulty : (patterns : List Pattern) (gap rest : List ℕ) {fault : SequenceFault} → ¬ HasOpening text → count_of patterns ≤ most_events →
      BeginsWith text patterns (gap ++ rest) → IsGap gap →
      IsFaulty text rest fault → HasFault text fault
  many : (patterns : List Pattern) (rest : List ℕ) → ¬ HasOpening text → most_events < count_of patterns → BeginsWith text patterns rest →
      HasFault text (BadSequence text)

-- What the text is: a sequence, or none, with this fault. Each text is one of both, and in one way alone.
abbrev pub IsSequenceParse : List ℕ → Result Sequence SequenceFault → Type 0
IsSequenceParse text (Ok sequence) = IsSequence text sequence
IsSequenceParse text (Err fault) = HasFault text fault
