-- The fields of each text are a pattern's or at fault.
use Rattle.std.proofs.Common.{◌≡◌, ◌⊎◌, inl, inr, ℕ, ◌||◌, Bool, true, false, List, [], ◌∷◌, ◌++◌, append_assoc, Option, Some, None, refl, ap, ◌∙◌, subst}
use Rattle.std.specs.Prelude.{bit_or}
use Rattle.tk_sequences.proofs.EventsRead.{alone_counted}
use Rattle.tk_sequences.proofs.KnownWords.{is_key, none_is_key, single_is, isnt_single, is_counted, isnt_counted}
use Rattle.tk_sequences.specs.Grammar.{ArePrefixes, IsCounted, IsDetail, IsAlone, IsEvent, AreOf, IsFaultyEvent, AreFaulty}
use Rattle.tk_sequences.specs.Grammar.ArePrefixes.{none as no_prefixes, modifier as with_modifier, repetition as with_repetition}
use Rattle.tk_sequences.specs.Grammar.IsDetail.{a_key as key_of_type, a_button as button_of_type}
use Rattle.tk_sequences.specs.Grammar.IsAlone.{a_key as key_alone, a_button as button_alone}
use Rattle.tk_sequences.specs.Grammar.IsEvent.{type_alone, type_and_detail, detail_alone}
use Rattle.tk_sequences.specs.Grammar.IsFaultyEvent.{missing, repeated, unknown, behind_alone, uncounted, no_detail as bad_detail, no_key as bad_key, no_button as bad_button, behind_both}
use Rattle.tk_sequences.specs.Modifiers.{modifier_bit, modifier_named}
use Rattle.tk_sequences.specs.Patterns.{repetition_named}
use Rattle.tk_sequences.specs.Reading.{key_meant, may_repeat}
use Rattle.tk_sequences.specs.Words.{button_named, is_single}
use Rattle.tk_sequences.specs.Types.{type_named, is_key_type, is_button_type}
use Rattle.tk_sequences.specs.declared.detail.Detail.{Detail}
use Rattle.tk_sequences.specs.declared.detail.Detail.TheVariants as details
use Rattle.tk_sequences.specs.declared.event_type.EventType.{EventType}
use Rattle.tk_sequences.specs.declared.event_type.EventType.TheVariants as types
use Rattle.tk_sequences.specs.declared.fault.SequenceFault.{SequenceFault}
use Rattle.tk_sequences.specs.declared.fault.SequenceFault.TheVariants.{BadSequence, BadKeysym}
use Rattle.tk_sequences.specs.declared.pattern.Pattern.{Pattern}
use Rattle.tk_sequences.specs.declared.pattern.Repetition.{Repetition}
use Rattle.tk_sequences.specs.declared.pattern.Repetition.TheVariants.{Single, Double, Triple, Quadruple}

-- ── what stands behind prefixes ──
abbrev MayCome : Repetition → EventType → Type 0
MayCome times kind = (times ≡ Single) ⊎ IsCounted kind

-- an event that may come so often, or a fault
abbrev IsCut : List ℕ → Repetition → List (List ℕ) → Type 0
IsCut whole times words =
    ((kind : EventType) × (detail : Option Detail) × IsEvent words kind detail × MayCome times kind) ⊎ ((fault : SequenceFault) × IsFaultyEvent whole times words fault)

module _ (whole : List ℕ) (times : Repetition) where
  alone_cut : (word : List ℕ) (words : List (List ℕ)) (kind : EventType) (detail : Detail) → IsAlone word kind detail → IsCut whole times (word ∷ words)
  alone_cut word [] kind detail is = inl (kind, Some detail, detail_alone is, inr (alone_counted is))
  alone_cut word (other ∷ words) kind detail is = inr (BadSequence whole, behind_alone is)

  key_cut : (word : List ℕ) (words : List (List ℕ)) (found : Option ℕ) → key_meant word ≡ found → modifier_named word ≡ None → repetition_named word ≡ None → type_named word ≡ None → button_named word ≡ None → IsCut whole times (word ∷ words)
  key_cut word words None meant no_modifier no_repetition no_type none = inr (BadKeysym word, unknown no_modifier no_repetition no_type none (none_is_key word meant))
  key_cut word words (Some key) meant no_modifier no_repetition no_type none = alone_cut word words types.Key (details.Key key) (key_alone none (is_key word key meant))

  button_cut : (word : List ℕ) (words : List (List ℕ)) (found : Option ℕ) → button_named word ≡ found → modifier_named word ≡ None → repetition_named word ≡ None → type_named word ≡ None → IsCut whole times (word ∷ words)
  button_cut word words None named no_modifier no_repetition no_type = key_cut word words (key_meant word) refl no_modifier no_repetition no_type named
  button_cut word words (Some button) named no_modifier no_repetition no_type = alone_cut word words types.Button (details.Button button) (button_alone named)

  both_cut : (word detail_word : List ℕ) (words : List (List ℕ)) (kind : EventType) (detail : Detail) → type_named word ≡ Some kind → IsDetail kind detail_word detail → MayCome times kind
      → IsCut whole times (word ∷ detail_word ∷ words)
  both_cut word detail_word [] kind detail named is may = inl (kind, Some detail, type_and_detail named is, may)
  both_cut word detail_word (other ∷ words) kind detail named is may = inr (BadSequence whole, behind_both named is)

  key_detail_cut : (word other : List ℕ) (words : List (List ℕ)) (kind : EventType) (found : Option ℕ) → key_meant other ≡ found → type_named word ≡ Some kind → is_key_type kind ≡ true
      → MayCome times kind → IsCut whole times (word ∷ other ∷ words)
  key_detail_cut word other words kind None meant named is may = inr (BadKeysym other, bad_key named is (none_is_key other meant))
  key_detail_cut word other words kind (Some key) meant named is may = both_cut word other words kind (details.Key key) named (key_of_type is (is_key other key meant)) may

  button_detail_cut : (word other : List ℕ) (words : List (List ℕ)) (kind : EventType) (found : Option ℕ) → button_named other ≡ found → type_named word ≡ Some kind → is_button_type kind ≡ true
      → MayCome times kind → IsCut whole times (word ∷ other ∷ words)
  button_detail_cut word other words kind None meant named is may = inr (BadSequence whole, bad_button named is meant)
  button_detail_cut word other words kind (Some button) meant named is may = both_cut word other words kind (details.Button button) named (button_of_type is meant) may

  detail_cut : (word other : List ℕ) (words : List (List ℕ)) (kind : EventType) (k b : Bool) → is_key_type kind ≡ k → is_button_type kind ≡ b → type_named word ≡ Some kind
      → MayCome times kind → IsCut whole times (word ∷ other ∷ words)
  detail_cut word other words kind true b of_key of_button named may = key_detail_cut word other words kind (key_meant other) refl named of_key may
  detail_cut word other words kind false true of_key of_button named may = button_detail_cut word other words kind (button_named other) refl named of_button may
  detail_cut word other words kind false false no_key no_button named may =
      inr (BadSequence whole, bad_detail named (isnt_counted kind (ap (λ (t : Bool). t || is_button_type kind) no_key ∙ no_button)))

  behind_cut : (word : List ℕ) (words : List (List ℕ)) (kind : EventType) → type_named word ≡ Some kind → MayCome times kind → IsCut whole times (word ∷ words)
  behind_cut word [] kind named may = inl (kind, None, type_alone named, may)
  behind_cut word (other ∷ words) kind named may = detail_cut word other words kind (is_key_type kind) (is_button_type kind) refl refl named may

  counted_cut : (word : List ℕ) (words : List (List ℕ)) (kind : EventType) (s c : Bool) → is_single times ≡ s → may_repeat kind ≡ c → type_named word ≡ Some kind → IsCut whole times (word ∷ words)
  counted_cut word words kind true c single counted named = behind_cut word words kind named (inl (single_is times single))
  counted_cut word words kind false true single counted named = behind_cut word words kind named (inr (is_counted kind counted))
  counted_cut word words kind false false single counted named = inr (BadSequence whole, uncounted named (isnt_single times single) (isnt_counted kind counted))

  word_cut : (word : List ℕ) (words : List (List ℕ)) (found : Option EventType) → type_named word ≡ found → modifier_named word ≡ None → repetition_named word ≡ None → IsCut whole times (word ∷ words)
  word_cut word words (Some kind) named no_modifier no_repetition = counted_cut word words kind (is_single times) (may_repeat kind) refl refl named
  word_cut word words None named no_modifier no_repetition = button_cut word words (button_named word) refl no_modifier no_repetition named

-- ── all fields ──
abbrev pub AreCut : List ℕ → List (List ℕ) → Type 0
AreCut whole words = ((pattern : Pattern) × AreOf words pattern) ⊎ ((fault : SequenceFault) × AreFaulty whole words fault)

behind_prefixes : (whole : List ℕ) (front words : List (List ℕ)) (held : ℕ) (times : Repetition) → ArePrefixes front held times → IsCut whole times words → AreCut whole (front ++ words)
behind_prefixes whole front words held times are (inl (kind, detail, is, may)) =
    inl (record { modifiers = held; times = times; kind = kind; detail = detail }, record { prefixes = front; event = words; cut = refl; are_prefixes = are; is_event = is; may_come = may })
behind_prefixes whole front words held times are (inr (fault, is)) =
    inr (fault, record { prefixes = front; event = words; held = held; times = times; cut = refl; are_prefixes = are; is_faulty = is })

-- a second repetition is a fault
repeated_cut : (whole : List ℕ) (front : List (List ℕ)) (word : List ℕ) (words : List (List ℕ)) (held : ℕ) (times again : Repetition) → ArePrefixes front held times → repetition_named word ≡ Some again
    → is_single times ≡ false → AreCut whole (front ++ word ∷ words)
repeated_cut whole front word words held times again are named more = behind_prefixes whole front (word ∷ words) held times are (inr (BadSequence whole, repeated (isnt_single times more) named))

repetition_cut : (whole : List ℕ) (front : List (List ℕ)) (word : List ℕ) (words : List (List ℕ)) (held : ℕ) (times again : Repetition) → ArePrefixes front held times → repetition_named word ≡ Some again
    → (ArePrefixes (front ++ word ∷ []) held again → AreCut whole (front ++ word ∷ words)) → AreCut whole (front ++ word ∷ words)
repetition_cut whole front word words held Single again are named rest = rest (with_repetition word are named)
repetition_cut whole front word words held Double again are named rest = repeated_cut whole front word words held Double again are named refl
repetition_cut whole front word words held Triple again are named rest = repeated_cut whole front word words held Triple again are named refl
repetition_cut whole front word words held Quadruple again are named rest = repeated_cut whole front word words held Quadruple again are named refl

by_found : {T G : Type 0} (found : Option T) → (found ≡ None → G) → ((value : T) → found ≡ Some value → G) → G
by_found None f g = f refl
by_found (Some value) f g = g value refl

one_behind : (whole : List ℕ) (front words : List (List ℕ)) (word : List ℕ) → AreCut whole ((front ++ word ∷ []) ++ words) → AreCut whole (front ++ word ∷ words)
one_behind whole front words word are = subst (λ (ws : List (List ℕ)). AreCut whole ws) (append_assoc front (word ∷ []) words) are

front_cut : (whole : List ℕ) (front words : List (List ℕ)) (held : ℕ) (times : Repetition) → ArePrefixes front held times → AreCut whole (front ++ words)
front_cut whole front [] held times are = behind_prefixes whole front [] held times are (inr (BadSequence whole, missing))
front_cut whole front (word ∷ words) held times are =
    by_found (modifier_named word)
    (λ no_modifier. by_found (repetition_named word)
    (λ no_repetition. behind_prefixes whole front (word ∷ words) held times are (word_cut whole times word words (type_named word) refl no_modifier no_repetition))
    (λ again named. repetition_cut whole front word words held times again are named (λ more. one_behind whole front words word (front_cut whole (front ++ word ∷ []) words held again more))))
    (λ modifier named. one_behind whole front words word (front_cut whole (front ++ word ∷ []) words (bit_or held (modifier_bit modifier)) times (with_modifier word modifier are named)))

pub fields_are_cut : (whole : List ℕ) (words : List (List ℕ)) → AreCut whole words
fields_are_cut whole words = front_cut whole [] words 0 Single no_prefixes
