-- The fields that are a pattern's are read as it, and those at fault give their fault.
use Rattle.std.proofs.Common.{◌≡◌, inl, inr, ℕ, ◌||◌, Bool, true, false, cond, List, [], ◌∷◌, ◌++◌, append_assoc, Option, Some, None, Ok, Err, refl, sym, ap, ◌∙◌, subst}
use Rattle.std.specs.Prelude.{bit_or}
use Rattle.tk_base.specs.Steps.{◌>>=◌}
use Rattle.tk_sequences.proofs.FieldsCut.{AreInside}
use Rattle.tk_sequences.proofs.KnownWords.{type_inside, type_no_prefix, button_inside, button_no_prefix, button_no_type, modifier_inside, modifier_prefix, repetition_inside, repetition_prefix, key_word, is_inside_word, none_prefix, key_is, none_meant, single_isnt, may_come_is, may_repeat_isnt}
use Rattle.tk_sequences.proofs.ReadLemmas.{always}
use Rattle.tk_sequences.proofs.WrittenLemmas.{typed_is}
use Rattle.tk_sequences.specs.Grammar.{ArePrefixes, IsCounted, IsDetail, IsAlone, IsEvent, AreOf, IsFaultyEvent, AreFaulty}
use Rattle.tk_sequences.specs.Grammar.ArePrefixes.{none as no_prefixes, modifier as with_modifier, repetition as with_repetition}
use Rattle.tk_sequences.specs.Grammar.IsDetail.{a_key as key_of_type, a_button as button_of_type}
use Rattle.tk_sequences.specs.Grammar.IsAlone.{a_key as key_alone, a_button as button_alone}
use Rattle.tk_sequences.specs.Grammar.IsEvent.{type_alone, type_and_detail, detail_alone}
use Rattle.tk_sequences.specs.Grammar.IsFaultyEvent.{missing, repeated, unknown, behind_alone, uncounted, no_detail as bad_detail, no_key as bad_key, no_button as bad_button, behind_both}
use Rattle.tk_sequences.specs.Modifiers.{modifier_bit}
use Rattle.tk_sequences.specs.Reading.{OrFault, prefix_named, key_meant, key_or_fault, button_or_fault, detail_of, detail_behind, may_repeat, typed, button_or_key, alone, untyped, typed_or_not, headed, with_prefix, pattern_behind}
use Rattle.tk_sequences.specs.Words.{button_named, is_single}
use Rattle.tk_sequences.specs.Types.{type_named, is_key_type, is_button_type}
use Rattle.tk_sequences.specs.declared.detail.Detail.{Detail}
use Rattle.tk_sequences.specs.declared.event_type.EventType.{EventType}
use Rattle.tk_sequences.specs.declared.event_type.EventType.TheVariants.{Key, KeyRelease, Button, ButtonRelease, Motion, Enter, Leave, FocusIn, FocusOut, Configure, Map, Unmap, Destroy}
use Rattle.tk_sequences.specs.declared.fault.SequenceFault.{SequenceFault}
use Rattle.tk_sequences.specs.declared.fault.SequenceFault.TheVariants.{BadSequence, BadKeysym}
use Rattle.tk_sequences.specs.declared.pattern.Pattern.{Pattern}
use Rattle.tk_sequences.specs.declared.pattern.Repetition.{Repetition}
use Rattle.tk_sequences.specs.declared.pattern.Repetition.TheVariants.{Single}
use Rattle.tk_sequences.specs.declared.reading.Prefix.{Prefix}
use Rattle.tk_sequences.specs.declared.reading.Prefix.TheVariants as prefixes

-- ── a word, by what it is ──
by_prefix : (whole : List ℕ) (held : ℕ) (times : Repetition) (word : List ℕ) (words : List (List ℕ)) (found : Option Prefix) → prefix_named word ≡ found
    → pattern_behind whole held times (word ∷ words)
    ≡ with_prefix found (λ modifier. pattern_behind whole (bit_or held (modifier_bit modifier)) times words)
    (λ repetition. cond (is_single times) (pattern_behind whole held repetition words) (Err (BadSequence whole))) (headed whole held times word words)
by_prefix whole held times word words found is =
    ap (λ f. with_prefix f (λ modifier. pattern_behind whole (bit_or held (modifier_bit modifier)) times words)
    (λ repetition. cond (is_single times) (pattern_behind whole held repetition words) (Err (BadSequence whole))) (headed whole held times word words)) is

by_type : (whole : List ℕ) (held : ℕ) (times : Repetition) (word : List ℕ) (words : List (List ℕ)) (found : Option EventType) → type_named word ≡ found
    → headed whole held times word words ≡ typed_or_not whole held times word words found
unfolding headed
by_type whole held times word words found is = ap (typed_or_not whole held times word words) is

-- a word that is a type
kind_read : (whole : List ℕ) (held : ℕ) (times : Repetition) (word : List ℕ) (words : List (List ℕ)) (kind : EventType) → type_named word ≡ Some kind
    → pattern_behind whole held times (word ∷ words) ≡ typed whole held times kind words
kind_read whole held times word words kind is = by_prefix whole held times word words None (type_no_prefix word kind is) ∙ by_type whole held times word words (Some kind) is

-- a word that is neither a prefix nor a type
other_read : (whole : List ℕ) (held : ℕ) (times : Repetition) (word : List ℕ) (words : List (List ℕ)) → prefix_named word ≡ None → type_named word ≡ None
    → pattern_behind whole held times (word ∷ words) ≡ untyped whole held times word words
other_read whole held times word words no_prefix no_type = by_prefix whole held times word words None no_prefix ∙ by_type whole held times word words None no_type

-- ── prefixes ──
pub prefixes_read : {front : List (List ℕ)} {held : ℕ} {times : Repetition} → ArePrefixes front held times → (whole : List ℕ) (words : List (List ℕ))
    → pattern_behind whole 0 Single (front ++ words) ≡ pattern_behind whole held times words
prefixes_read no_prefixes whole words = refl
prefixes_read (with_modifier {front} word {held} {times} modifier is named) whole words =
    ap (λ (ws : List (List ℕ)). pattern_behind whole 0 Single ws) (append_assoc front (word ∷ []) words)
    ∙ prefixes_read is whole (word ∷ words)
    ∙ by_prefix whole held times word words (Some (prefixes.Modifier modifier)) (modifier_prefix word modifier named)
prefixes_read (with_repetition {front} word {held} {times} is named) whole words =
    ap (λ (ws : List (List ℕ)). pattern_behind whole 0 Single ws) (append_assoc front (word ∷ []) words)
    ∙ prefixes_read is whole (word ∷ words)
    ∙ by_prefix whole held Single word words (Some (prefixes.Repetition times)) (repetition_prefix word times named)

-- ── details ──
pub button_no_key : (kind : EventType) → is_button_type kind ≡ true → is_key_type kind ≡ false
button_no_key Button h = refl
button_no_key ButtonRelease h = refl
button_no_key Key h = absurd (cc)
button_no_key KeyRelease h = absurd (cc)
button_no_key Motion h = refl
button_no_key Enter h = refl
button_no_key Leave h = refl
button_no_key FocusIn h = refl
button_no_key FocusOut h = refl
button_no_key Configure h = refl
button_no_key Map h = refl
button_no_key Unmap h = refl
button_no_key Destroy h = refl

key_detail : (whole : List ℕ) (kind : EventType) (word : List ℕ) (found : Option ℕ) → is_key_type kind ≡ true → key_meant word ≡ found → detail_of whole kind word ≡ key_or_fault word found
unfolding detail_of
key_detail whole kind word found is meant =
    ap (λ (t : Bool). cond t (key_or_fault word (key_meant word)) (cond (is_button_type kind) (button_or_fault whole (button_named word)) (Err (BadSequence whole)))) is
    ∙ ap (key_or_fault word) meant

button_detail : (whole : List ℕ) (kind : EventType) (word : List ℕ) (found : Option ℕ) → is_button_type kind ≡ true → button_named word ≡ found → detail_of whole kind word ≡ button_or_fault whole found
unfolding detail_of
button_detail whole kind word found is named =
    ap (λ (t : Bool). cond t (key_or_fault word (key_meant word)) (cond (is_button_type kind) (button_or_fault whole (button_named word)) (Err (BadSequence whole)))) (button_no_key kind is)
    ∙ ap (λ (t : Bool). cond t (button_or_fault whole (button_named word)) (Err (BadSequence whole))) is
    ∙ ap (button_or_fault whole) named

no_detail : (whole : List ℕ) (kind : EventType) (word : List ℕ) → (k b : Bool) → is_key_type kind ≡ k → is_button_type kind ≡ b → (k || b) ≡ false → detail_of whole kind word ≡ Err (BadSequence whole)
unfolding detail_of
no_detail whole kind word true b is isnt h = absurd (cc)
no_detail whole kind word false true is isnt h = absurd (cc)
no_detail whole kind word false false is isnt h =
    ap (λ (t : Bool). cond t (key_or_fault word (key_meant word)) (cond (is_button_type kind) (button_or_fault whole (button_named word)) (Err (BadSequence whole)))) is
    ∙ ap (λ (t : Bool). cond t (button_or_fault whole (button_named word)) (Err (BadSequence whole))) isnt

detail_read : {kind : EventType} {word : List ℕ} {detail : Detail} → IsDetail kind word detail → (whole : List ℕ) → detail_of whole kind word ≡ Ok detail
detail_read (key_of_type {kind} {word} {key} is is_key) whole = key_detail whole kind word (Some key) is (key_is is_key)
detail_read (button_of_type {kind} {word} {button} is named) whole = button_detail whole kind word (Some button) is named

-- what stands behind a type
behind_read : (whole : List ℕ) (kind : EventType) (word : List ℕ) (detail : Detail) → detail_of whole kind word ≡ Ok detail → detail_behind whole kind (word ∷ []) ≡ Ok (Some detail)
behind_read whole kind word detail is = ap (λ (d : OrFault Detail). d >>= (λ found. Ok (Some found))) is

behind_fault : (whole : List ℕ) (kind : EventType) (word : List ℕ) (words : List (List ℕ)) (fault : SequenceFault) → detail_of whole kind word ≡ Err fault
    → detail_behind whole kind (word ∷ words) ≡ Err fault
behind_fault whole kind word [] fault is = ap (λ (d : OrFault Detail). d >>= (λ found. Ok (Some found))) is
behind_fault whole kind word (other ∷ words) fault is = ap (λ (d : OrFault Detail). d >>= (λ found. Err (BadSequence whole))) is

behind_more : (whole : List ℕ) (kind : EventType) (word other : List ℕ) (words : List (List ℕ)) (detail : Detail) → detail_of whole kind word ≡ Ok detail
    → detail_behind whole kind (word ∷ other ∷ words) ≡ Err (BadSequence whole)
behind_more whole kind word other words detail is = ap (λ (d : OrFault Detail). d >>= (λ found. Err (BadSequence whole))) is

-- a fault of what stands behind a type is that of the whole where the type may be counted so, and where it is the same anyway
typed_fault : (whole : List ℕ) (held : ℕ) (times : Repetition) (kind : EventType) (words : List (List ℕ)) (fault : SequenceFault) (t : Bool) → (is_single times || may_repeat kind) ≡ t
    → (t ≡ false → BadSequence whole ≡ fault) → detail_behind whole kind words ≡ Err fault → typed whole held times kind words ≡ Err fault
typed_fault whole held times kind words fault true may same is =
    ap (λ (t : Bool). cond t (detail_behind whole kind words >>= (λ detail. Ok (record { modifiers = held; times = times; kind = kind; detail = detail }))) (Err (BadSequence whole))) may
    ∙ ap (λ (d : OrFault (Option Detail)). d >>= (λ detail. Ok (record { modifiers = held; times = times; kind = kind; detail = detail }))) is
typed_fault whole held times kind words fault false may same is =
    ap (λ (t : Bool). cond t (detail_behind whole kind words >>= (λ detail. Ok (record { modifiers = held; times = times; kind = kind; detail = detail }))) (Err (BadSequence whole))) may
    ∙ ap (λ f. Err f) (same refl)

-- ── details without a type ──
alone_words : {word : List ℕ} {kind : EventType} {detail : Detail} → IsAlone word kind detail → (whole : List ℕ) (held : ℕ) (times : Repetition) (words : List (List ℕ))
    → pattern_behind whole held times (word ∷ words) ≡ alone whole held times detail words
alone_words (button_alone {word} {button} named) whole held times words =
    other_read whole held times word words (button_no_prefix word button named) (button_no_type word button named)
    ∙ ap (λ found. button_or_key word found >>= (λ detail. alone whole held times detail words)) named
alone_words (key_alone {word} {key} no_button is) whole held times words =
    let meant = key_is is in
    let known = key_word word key meant in
    other_read whole held times word words known.no_prefix known.no_type
    ∙ ap (λ found. button_or_key word found >>= (λ detail. alone whole held times detail words)) no_button
    ∙ ap (λ found. key_or_fault word found >>= (λ detail. alone whole held times detail words)) meant

alone_read : {word : List ℕ} {kind : EventType} {detail : Detail} → IsAlone word kind detail → (whole : List ℕ) (held : ℕ) (times : Repetition)
    → alone whole held times detail [] ≡ Ok (record { modifiers = held; times = times; kind = kind; detail = Some detail })
alone_read (button_alone named) whole held times = refl
alone_read (key_alone no_button is) whole held times = refl

pub alone_counted : {word : List ℕ} {kind : EventType} {detail : Detail} → IsAlone word kind detail → IsCounted kind
alone_counted (button_alone named) = inr refl
alone_counted (key_alone no_button is) = inl refl

-- ── events ──
event_read : {words : List (List ℕ)} {kind : EventType} {detail : Option Detail} → IsEvent words kind detail → (whole : List ℕ) (held : ℕ) (times : Repetition) → (is_single times || may_repeat kind) ≡ true
    → pattern_behind whole held times words ≡ Ok (record { modifiers = held; times = times; kind = kind; detail = detail })
event_read (type_alone {word} {kind} is) whole held times may = kind_read whole held times word [] kind is ∙ typed_is whole held times kind [] None may refl
event_read (type_and_detail {word} {detail_word} {kind} {detail} is is_detail) whole held times may =
    kind_read whole held times word (detail_word ∷ []) kind is
    ∙ typed_is whole held times kind (detail_word ∷ []) (Some detail) may (behind_read whole kind detail_word detail (detail_read is_detail whole))
event_read (detail_alone {word} is) whole held times may = alone_words is whole held times [] ∙ alone_read is whole held times

faulty_read : {whole : List ℕ} {times : Repetition} {words : List (List ℕ)} {fault : SequenceFault} → IsFaultyEvent whole times words fault → (held : ℕ) → pattern_behind whole held times words ≡ Err fault
faulty_read missing held = refl
faulty_read {whole} {times} (repeated {word} {again} {words} more named) held =
    by_prefix whole held times word words (Some (prefixes.Repetition again)) (repetition_prefix word again named)
    ∙ ap (λ (t : Bool). cond t (pattern_behind whole held again words) (Err (BadSequence whole))) (single_isnt times more)
faulty_read {whole} {times} (unknown {word} {words} no_modifier no_repetition no_type no_button no_key) held =
    other_read whole held times word words (none_prefix word no_modifier no_repetition) no_type
    ∙ ap (λ found. button_or_key word found >>= (λ detail. alone whole held times detail words)) no_button
    ∙ ap (λ found. key_or_fault word found >>= (λ detail. alone whole held times detail words)) (none_meant word no_key)
faulty_read {whole} {times} (behind_alone {word} {other} {words = words} is) held = alone_words is whole held times (other ∷ words)
faulty_read {whole} {times} (uncounted {word} {kind} {words} is more none) held =
    kind_read whole held times word words kind is
    ∙ ap (λ (t : Bool). cond t (detail_behind whole kind words >>= (λ detail. Ok (record { modifiers = held; times = times; kind = kind; detail = detail }))) (Err (BadSequence whole))) (ap (λ (t : Bool). t || may_repeat kind) (single_isnt times more) ∙ may_repeat_isnt kind none)
faulty_read {whole} {times} (bad_detail {word} {other} {kind} {words} is none) held =
    kind_read whole held times word (other ∷ words) kind is
    ∙ typed_fault whole held times kind (other ∷ words) (BadSequence whole) (is_single times || may_repeat kind) refl (λ t. refl)
    (behind_fault whole kind other words (BadSequence whole) (no_detail whole kind other (is_key_type kind) (is_button_type kind) refl refl (may_repeat_isnt kind none)))
faulty_read {whole} {times} (bad_key {word} {other} {kind} {words} is is_key none) held =
    kind_read whole held times word (other ∷ words) kind is
    ∙ typed_fault whole held times kind (other ∷ words) (BadKeysym other) true (ap (λ (t : Bool). is_single times || (t || is_button_type kind)) is_key ∙ always (is_single times)) (λ t. absurd (cc))
    (behind_fault whole kind other words (BadKeysym other) (key_detail whole kind other None is_key (none_meant other none)))
faulty_read {whole} {times} (bad_button {word} {other} {kind} {words} is is_button none) held =
    kind_read whole held times word (other ∷ words) kind is
    ∙ typed_fault whole held times kind (other ∷ words) (BadSequence whole) (is_single times || may_repeat kind) refl (λ t. refl)
    (behind_fault whole kind other words (BadSequence whole) (button_detail whole kind other None is_button none))
faulty_read {whole} {times} (behind_both {word} {detail_word} {other} {kind} {detail} {words} is is_detail) held =
    kind_read whole held times word (detail_word ∷ other ∷ words) kind is
    ∙ typed_fault whole held times kind (detail_word ∷ other ∷ words) (BadSequence whole) (is_single times || may_repeat kind) refl (λ t. refl)
    (behind_more whole kind detail_word other words detail (detail_read is_detail whole))

-- ── all fields ──
pub fields_read : (whole : List ℕ) (words : List (List ℕ)) (pattern : Pattern) → AreOf words pattern → pattern_behind whole 0 Single words ≡ Ok pattern
fields_read whole words pattern is =
    ap (λ (ws : List (List ℕ)). pattern_behind whole 0 Single ws) is.cut
    ∙ prefixes_read is.are_prefixes whole is.event
    ∙ event_read is.is_event whole pattern.modifiers pattern.times (may_come_is pattern.times pattern.kind is.may_come)

pub fields_faulty : (whole : List ℕ) (words : List (List ℕ)) (fault : SequenceFault) → AreFaulty whole words fault → pattern_behind whole 0 Single words ≡ Err fault
fields_faulty whole words fault is =
    ap (λ (ws : List (List ℕ)). pattern_behind whole 0 Single ws) is.cut ∙ prefixes_read is.are_prefixes whole is.event ∙ faulty_read is.is_faulty is.held

-- ── no bracket is in them ──
inside_more : (front words : List (List ℕ)) → AreInside front → AreInside words → AreInside (front ++ words)
inside_more [] words f more = more
inside_more (word ∷ front) words f more = (f.0, inside_more front words f.1 more)

prefixes_inside : {front : List (List ℕ)} {held : ℕ} {times : Repetition} → ArePrefixes front held times → AreInside front
prefixes_inside no_prefixes = tt
prefixes_inside (with_modifier {front} word modifier is named) = inside_more front (word ∷ []) (prefixes_inside is) (modifier_inside word modifier named, tt)
prefixes_inside (with_repetition {front} word {times = times} is named) = inside_more front (word ∷ []) (prefixes_inside is) (repetition_inside word times named, tt)

detail_inside : {kind : EventType} {word : List ℕ} {detail : Detail} → IsDetail kind word detail → is_inside_word word ≡ true
detail_inside (key_of_type {word = word} {key} is is_key) = (key_word word key (key_is is_key)).inside
detail_inside (button_of_type {word = word} {button} is named) = button_inside word button named

alone_inside : {word : List ℕ} {kind : EventType} {detail : Detail} → IsAlone word kind detail → is_inside_word word ≡ true
alone_inside (button_alone {word} {button} named) = button_inside word button named
alone_inside (key_alone {word} {key} no_button is) = (key_word word key (key_is is)).inside

event_inside : {words : List (List ℕ)} {kind : EventType} {detail : Option Detail} → IsEvent words kind detail → AreInside words
event_inside (type_alone {word} {kind} is) = (type_inside word kind is, tt)
event_inside (type_and_detail {word} {kind = kind} is is_detail) = (type_inside word kind is, (detail_inside is_detail, tt))
event_inside (detail_alone is) = (alone_inside is, tt)

pub words_inside : (words : List (List ℕ)) (pattern : Pattern) → AreOf words pattern → AreInside words
words_inside words pattern is = subst AreInside (sym is.cut) (inside_more is.prefixes is.event (prefixes_inside is.are_prefixes) (event_inside is.is_event))
