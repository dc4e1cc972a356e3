-- What a pattern has that was read.
use Rattle.std.proofs.Common.{◌≡◌, ℕ, ◌-◌, ◌<◌, ◌≤◌, ◌==◌, ◌&&◌, ◌||◌, Bool, true, false, cond, nat_le, List, [], ◌∷◌, ◌++◌, Option, Some, None, Ok, Err, refl, subst, arith}
use Rattle.std.specs.Prelude.{bit_or, codes}
use Rattle.std.specs.Fmt.{decimal, digits}
use Rattle.std.specs.Option.{option_or}
use Rattle.std.specs.Str.{bytes_eq}
use Rattle.std.proofs.lemmas.Bool.Decides.{nat_tests}
use Rattle.std.proofs.lemmas.List.Quantifiers.{position-Some}
use Rattle.std.proofs.lemmas.List.Sums.{sum_by-cons}
use Rattle.tk_base.specs.Steps.{◌>>=◌}
use Rattle.tcl_text.specs.Backslash.{is_white}
use Rattle.tk_sequences.proofs.HeldLemmas.{IsHeld, held_more}
use Rattle.tk_sequences.proofs.WordLemmas.{is_word}
use Rattle.tk_base.proofs.NamesLemmas.{length_all_names}
use Rattle.tk_base.specs.Names.{all_names, key_named, key_of_character}
use Rattle.tk_sequences.specs.Modifiers.{modifier_bit}
use Rattle.tk_sequences.specs.Patterns.{count_of, times_of}
use Rattle.tk_sequences.specs.Reading.{OrFault, fields, prefix_named, key_of_one, key_meant, key_or_fault, button_or_fault, detail_of, detail_behind, may_repeat, typed, button_or_key, type_of_detail, alone, untyped, typed_or_not, headed, with_prefix, pattern_behind, pattern_of, plain_key, plain_pattern, ReadingPlace, Between, Within, onto, counted, patterns_from}
use Rattle.tk_sequences.specs.Words.{button_named, is_single}
use Rattle.tk_sequences.specs.Types.{type_named, is_key_type, is_button_type}
use Rattle.tk_sequences.specs.declared.detail.Detail.{Detail}
use Rattle.tk_sequences.specs.declared.detail.Detail.TheVariants.{Key, Button}
use Rattle.tk_sequences.specs.declared.event_type.EventType.{EventType}
use Rattle.tk_sequences.specs.declared.event_type.EventType.TheVariants as types
use Rattle.tk_sequences.specs.declared.fault.SequenceFault.TheVariants.{BadSequence}
use Rattle.tk_sequences.specs.declared.modifier.Modifier.{Modifier}
use Rattle.tk_sequences.specs.declared.pattern.Pattern.{Pattern}
use Rattle.tk_sequences.specs.declared.pattern.Repetition.{Repetition}
use Rattle.tk_sequences.specs.declared.pattern.Repetition.TheVariants.{Single}
use Rattle.tk_sequences.specs.declared.reading.Prefix.{Prefix}
use Rattle.tk_sequences.specs.declared.reading.Prefix.TheVariants as prefixes

-- ── by cases ──
pub if_by : {T G : Type 0} (t : Bool) (a b x : T) → cond t a b ≡ x → (t ≡ true → a ≡ x → G) → (t ≡ false → b ≡ x → G) → G
if_by true a b x h f g = f refl h
if_by false a b x h f g = g refl h

pub then_by : {T U G : Type 0} (outcome : OrFault T) (rest : T → OrFault U) (x : U) → (outcome >>= rest) ≡ Ok x → ((value : T) → outcome ≡ Ok value → rest value ≡ Ok x → G) → G
then_by (Ok value) rest x h f = f value refl h
then_by (Err fault) rest x h f = absurd (cc)

-- ── details ──
pub record ButtonReads (button : ℕ) : Type 0 where
  pub named : button_named (decimal button) ≡ Some button
  pub word : is_word (decimal button) ≡ true

abbrev pub DetailReads : EventType → Option Detail → Type 0
DetailReads kind None = Unit {0}
DetailReads kind (Some (Key key)) = (is_key_type kind ≡ true) × (key < 128)
DetailReads kind (Some (Button button)) = (is_key_type kind ≡ false) × (is_button_type kind ≡ true) × ButtonReads button

character_below : (byte key : ℕ) → key_of_character byte ≡ Some key → key < 128
character_below byte key h = if_by (nat_le 32 byte && nat_le byte 126) (Some (byte - 32)) None (Some key) h
    (λ t h. let same : byte - 32 ≡ key = cc in let within : byte < 127 = grind (arith, nat_tests) in omega (arith, same, within))
    (λ t h. absurd (cc))

one_below : (word : List ℕ) (key : ℕ) → key_of_one word ≡ Some key → key < 128
one_below [] key h = absurd (cc)
one_below (byte ∷ []) key h = if_by (byte == 45 || (byte == 60 || byte == 62)) None (key_of_character byte) (Some key) h (λ t h. absurd (cc)) (λ t h. character_below byte key h)
one_below (byte ∷ other ∷ bytes) key h = absurd (cc)

key_below_by : (word : List ℕ) (key : ℕ) (found : Option ℕ) → key_named word ≡ found → option_or found (key_of_one word) ≡ Some key → key < 128
key_below_by word key None is h = one_below word key h
key_below_by word key (Some place) is h =
    let same : place ≡ key = cc in
    let within = (position-Some (λ known. bytes_eq known word) all_names place [] is).0 in
    omega (arith, length_all_names, within, same)

key_below : (word : List ℕ) (key : ℕ) → key_meant word ≡ Some key → key < 128
unfolding key_meant
key_below word key h = key_below_by word key (key_named word) refl h

one : ButtonReads 1
unfolding digits
one = record { named = refl; word = refl }

two : ButtonReads 2
unfolding digits
two = record { named = refl; word = refl }

three : ButtonReads 3
unfolding digits
three = record { named = refl; word = refl }

four : ButtonReads 4
unfolding digits
four = record { named = refl; word = refl }

five : ButtonReads 5
unfolding digits
five = record { named = refl; word = refl }

buttons_by : (a b c d e : Bool) (button : ℕ) → cond a (Some 1) (cond b (Some 2) (cond c (Some 3) (cond d (Some 4) (cond e (Some 5) None)))) ≡ Some button → ButtonReads button
buttons_by true b c d e button h = let same : 1 ≡ button = cc in subst ButtonReads same one
buttons_by false true c d e button h = let same : 2 ≡ button = cc in subst ButtonReads same two
buttons_by false false true d e button h = let same : 3 ≡ button = cc in subst ButtonReads same three
buttons_by false false false true e button h = let same : 4 ≡ button = cc in subst ButtonReads same four
buttons_by false false false false true button h = let same : 5 ≡ button = cc in subst ButtonReads same five
buttons_by false false false false false button h = absurd (cc)

button_read : (word : List ℕ) (button : ℕ) → button_named word ≡ Some button → ButtonReads button
button_read word button h = buttons_by (bytes_eq word (codes "1")) (bytes_eq word (codes "2")) (bytes_eq word (codes "3")) (bytes_eq word (codes "4")) (bytes_eq word (codes "5")) button h

key_read : (kind : EventType) (word : List ℕ) (found : Option ℕ) (detail : Detail) → key_meant word ≡ found → is_key_type kind ≡ true → key_or_fault word found ≡ Ok detail → DetailReads kind (Some detail)
key_read kind word None detail found is h = absurd (cc)
key_read kind word (Some key) detail found is h = let same : Key key ≡ detail = cc in subst (λ d. DetailReads kind (Some d)) same (is, key_below word key found)

button_detail : (kind : EventType) (whole word : List ℕ) (found : Option ℕ) (detail : Detail) → button_named word ≡ found → is_key_type kind ≡ false → is_button_type kind ≡ true
    → button_or_fault whole found ≡ Ok detail → DetailReads kind (Some detail)
button_detail kind whole word None detail found no_key is h = absurd (cc)
button_detail kind whole word (Some button) detail found no_key is h = let same : Button button ≡ detail = cc in subst (λ d. DetailReads kind (Some d)) same (no_key, is, button_read word button found)

detail_read : (whole word : List ℕ) (kind : EventType) (detail : Detail) → detail_of whole kind word ≡ Ok detail → DetailReads kind (Some detail)
unfolding detail_of
detail_read whole word kind detail h =
    if_by (is_key_type kind) (key_or_fault word (key_meant word)) (cond (is_button_type kind) (button_or_fault whole (button_named word)) (Err (BadSequence whole))) (Ok detail) h
    (λ is h. key_read kind word (key_meant word) detail refl is h)
    (λ no_key h. if_by (is_button_type kind) (button_or_fault whole (button_named word)) (Err (BadSequence whole)) (Ok detail) h
    (λ is h. button_detail kind whole word (button_named word) detail refl no_key is h)
    (λ t h. absurd (cc)))

behind_type : (whole : List ℕ) (kind : EventType) (words : List (List ℕ)) (detail : Option Detail) → detail_behind whole kind words ≡ Ok detail → DetailReads kind detail
behind_type whole kind [] detail h = let same : None ≡ detail = cc in subst (DetailReads kind) same tt
behind_type whole kind (word ∷ []) detail h =
    then_by (detail_of whole kind word) (λ d. Ok (Some d)) detail h (λ d is h. let same : Some d ≡ detail = cc in subst (DetailReads kind) same (detail_read whole word kind d is))
behind_type whole kind (word ∷ other ∷ words) detail h =
    then_by (detail_of whole kind word) (λ d. Err (BadSequence whole)) detail h (λ d is h. absurd (cc))

-- ── patterns ──
pub record Reads (pattern : Pattern) : Type 0 where
  pub held : IsHeld pattern.modifiers
  pub times : (is_single pattern.times || may_repeat pattern.kind) ≡ true
  pub detail : DetailReads pattern.kind pattern.detail

typed_read : (whole : List ℕ) (held : ℕ) (times : Repetition) (kind : EventType) (words : List (List ℕ)) (pattern : Pattern) → IsHeld held → typed whole held times kind words ≡ Ok pattern → Reads pattern
typed_read whole held times kind words pattern is h =
    if_by (is_single times || may_repeat kind) (detail_behind whole kind words >>= (λ detail. Ok (record { modifiers = held; times = times; kind = kind; detail = detail }))) (Err (BadSequence whole)) (Ok pattern) h
    (λ may h. then_by (detail_behind whole kind words) (λ detail. Ok (record { modifiers = held; times = times; kind = kind; detail = detail })) pattern h (λ detail found h.
    let made : Pattern = record { modifiers = held; times = times; kind = kind; detail = detail } in
    let same : made ≡ pattern = cc in
    subst Reads same (record { held = is; times = may; detail = behind_type whole kind words detail found })))
    (λ t h. absurd (cc))

pub always : (t : Bool) → (t || true) ≡ true
always true = refl
always false = refl

alone_read : (whole : List ℕ) (held : ℕ) (times : Repetition) (detail : Detail) (words : List (List ℕ)) (pattern : Pattern) → IsHeld held → (is_single times || may_repeat (type_of_detail detail)) ≡ true
    → DetailReads (type_of_detail detail) (Some detail) → alone whole held times detail words ≡ Ok pattern → Reads pattern
alone_read whole held times detail [] pattern is may reads h =
    let made : Pattern = record { modifiers = held; times = times; kind = type_of_detail detail; detail = Some detail } in
    let same : made ≡ pattern = cc in
    subst Reads same (record { held = is; times = may; detail = reads })
alone_read whole held times detail (word ∷ words) pattern is may reads h = absurd (cc)

pub record Untyped (detail : Detail) : Type 0 where
  pub may : (t : Bool) → (t || may_repeat (type_of_detail detail)) ≡ true
  pub reads : DetailReads (type_of_detail detail) (Some detail)

untyped_key : (word : List ℕ) (found : Option ℕ) (detail : Detail) → key_meant word ≡ found → key_or_fault word found ≡ Ok detail → Untyped detail
untyped_key word None detail is h = absurd (cc)
untyped_key word (Some key) detail is h = let same : Key key ≡ detail = cc in subst Untyped same (record { may = always; reads = (refl, key_below word key is) })

untyped_detail : (word : List ℕ) (found : Option ℕ) (detail : Detail) → button_named word ≡ found → button_or_key word found ≡ Ok detail → Untyped detail
untyped_detail word None detail is h = untyped_key word (key_meant word) detail refl h
untyped_detail word (Some button) detail is h = let same : Button button ≡ detail = cc in subst Untyped same (record { may = always; reads = (refl, refl, button_read word button is) })

untyped_read : (whole : List ℕ) (held : ℕ) (times : Repetition) (word : List ℕ) (words : List (List ℕ)) (pattern : Pattern) → IsHeld held → untyped whole held times word words ≡ Ok pattern → Reads pattern
untyped_read whole held times word words pattern is h =
    then_by (button_or_key word (button_named word)) (λ detail. alone whole held times detail words) pattern h (λ detail found h.
    let facts = untyped_detail word (button_named word) detail refl found in
    alone_read whole held times detail words pattern is (facts.may (is_single times)) facts.reads h)

headed_by : (whole : List ℕ) (held : ℕ) (times : Repetition) (word : List ℕ) (words : List (List ℕ)) (found : Option EventType) (pattern : Pattern) → IsHeld held
    → typed_or_not whole held times word words found ≡ Ok pattern → Reads pattern
headed_by whole held times word words None pattern is h = untyped_read whole held times word words pattern is h
headed_by whole held times word words (Some kind) pattern is h = typed_read whole held times kind words pattern is h

headed_read : (whole : List ℕ) (held : ℕ) (times : Repetition) (word : List ℕ) (words : List (List ℕ)) (pattern : Pattern) → IsHeld held → headed whole held times word words ≡ Ok pattern → Reads pattern
unfolding headed
headed_read whole held times word words pattern is h = headed_by whole held times word words (type_named word) pattern is h

prefix_by : {T G : Type 0} (found : Option Prefix) (held : Modifier → T) (times : Repetition → T) (other x : T) → with_prefix found held times other ≡ x
    → ((modifier : Modifier) → held modifier ≡ x → G) → ((repetition : Repetition) → times repetition ≡ x → G) → (other ≡ x → G) → G
prefix_by None held times other x h f g k = k h
prefix_by (Some (prefixes.Modifier modifier)) held times other x h f g k = f modifier h
prefix_by (Some (prefixes.Repetition repetition)) held times other x h f g k = g repetition h

pattern_read : (whole : List ℕ) (held : ℕ) (times : Repetition) (words : List (List ℕ)) (pattern : Pattern) → IsHeld held → pattern_behind whole held times words ≡ Ok pattern → Reads pattern
pattern_read whole held times [] pattern is h = absurd (cc)
pattern_read whole held times (word ∷ words) pattern is h =
    prefix_by (prefix_named word) (λ modifier. pattern_behind whole (bit_or held (modifier_bit modifier)) times words)
    (λ repetition. cond (is_single times) (pattern_behind whole held repetition words) (Err (BadSequence whole))) (headed whole held times word words) (Ok pattern) h
    (λ modifier h. pattern_read whole (bit_or held (modifier_bit modifier)) times words pattern (held_more held modifier is) h)
    (λ repetition h. if_by (is_single times) (pattern_behind whole held repetition words) (Err (BadSequence whole)) (Ok pattern) h (λ t h. pattern_read whole held repetition words pattern is h) (λ t h. absurd (cc)))
    (λ h. headed_read whole held times word words pattern is h)

bracket_read : (whole inner : List ℕ) (pattern : Pattern) → pattern_of whole inner ≡ Ok pattern → Reads pattern
unfolding pattern_of
bracket_read whole inner pattern h = pattern_read whole 0 Single (fields inner) pattern refl h

plain_by : (whole : List ℕ) (byte : ℕ) (found : Option ℕ) (pattern : Pattern) → key_of_character byte ≡ found → plain_key whole found ≡ Ok pattern → Reads pattern
plain_by whole byte None pattern is h = absurd (cc)
plain_by whole byte (Some key) pattern is h =
    let made : Pattern = record { modifiers = 0; times = Single; kind = types.Key; detail = Some (Key key) } in
    let same : made ≡ pattern = cc in
    subst Reads same (record { held = refl; times = refl; detail = (refl, character_below byte key is) })

plain_read : (whole : List ℕ) (byte : ℕ) (pattern : Pattern) → plain_pattern whole byte ≡ Ok pattern → Reads pattern
unfolding plain_pattern
plain_read whole byte pattern h = plain_by whole byte (key_of_character byte) pattern refl h

-- ── all patterns of a text ──
abbrev pub AllRead : List Pattern → Type 0
AllRead [] = Unit {0}
AllRead (pattern ∷ patterns) = Reads pattern × AllRead patterns

pub record AreRead (room : ℕ) (patterns : List Pattern) : Type 0 where
  pub each : AllRead patterns
  pub few : count_of patterns ≤ room

onto_read : (room : ℕ) (pattern : Pattern) (rest : OrFault (List Pattern)) (patterns : List Pattern) → times_of pattern.times ≤ room → Reads pattern → onto pattern rest ≡ Ok patterns
    → ((more : List Pattern) → rest ≡ Ok more → AreRead (room - times_of pattern.times) more) → AreRead room patterns
onto_read room pattern (Err fault) patterns within reads h f = absurd (cc)
onto_read room pattern (Ok more) patterns within reads h f =
    let same : pattern ∷ more ≡ patterns = cc in
    let rest = f more refl in
    let sum = sum_by-cons (λ (p : Pattern). times_of p.times) pattern more in
    subst (AreRead room) same (record { each = (reads, rest.each); few = omega (arith, sum, rest.few, within) })

counted_read : (whole : List ℕ) (room : ℕ) (outcome : OrFault Pattern) (rest : ℕ → OrFault (List Pattern)) (patterns : List Pattern) → counted whole room outcome rest ≡ Ok patterns
    → ((pattern : Pattern) → outcome ≡ Ok pattern → Reads pattern) → ((left : ℕ) (more : List Pattern) → rest left ≡ Ok more → AreRead left more) → AreRead room patterns
counted_read whole room (Err fault) rest patterns h f g = absurd (cc)
counted_read whole room (Ok pattern) rest patterns h f g =
    if_by (nat_le (times_of pattern.times) room) (onto pattern (rest (room - times_of pattern.times))) (Err (BadSequence whole)) (Ok patterns) h
    (λ t h. onto_read room pattern (rest (room - times_of pattern.times)) patterns (grind (arith, nat_tests, t)) (f pattern refl) h (g (room - times_of pattern.times)))
    (λ t h. absurd (cc))

pub patterns_read : (whole : List ℕ) (place : ReadingPlace) (room : ℕ) (text : List ℕ) (patterns : List Pattern) → patterns_from whole place room text ≡ Ok patterns → AreRead room patterns
patterns_read whole Between room [] patterns h = let same : [] ≡ patterns = cc in subst (AreRead room) same (record { each = tt; few = omega arith })
patterns_read whole (Within inner) room [] patterns h = absurd (cc)
patterns_read whole Between room (byte ∷ rest) patterns h =
    if_by (is_white byte) (patterns_from whole Between room rest)
    (cond (byte == 60) (patterns_from whole (Within []) room rest) (counted whole room (plain_pattern whole byte) (λ left. patterns_from whole Between left rest))) (Ok patterns) h
    (λ t h. patterns_read whole Between room rest patterns h)
    (λ t h. if_by (byte == 60) (patterns_from whole (Within []) room rest) (counted whole room (plain_pattern whole byte) (λ left. patterns_from whole Between left rest)) (Ok patterns) h
    (λ t h. patterns_read whole (Within []) room rest patterns h)
    (λ t h. counted_read whole room (plain_pattern whole byte) (λ left. patterns_from whole Between left rest) patterns h (plain_read whole byte) (λ left more h. patterns_read whole Between left rest more h)))
patterns_read whole (Within inner) room (byte ∷ rest) patterns h =
    if_by (byte == 62) (counted whole room (pattern_of whole inner) (λ left. patterns_from whole Between left rest)) (patterns_from whole (Within (inner ++ byte ∷ [])) room rest) (Ok patterns) h
    (λ t h. counted_read whole room (pattern_of whole inner) (λ left. patterns_from whole Between left rest) patterns h (bracket_read whole inner) (λ left more h. patterns_read whole Between left rest more h))
    (λ t h. patterns_read whole (Within (inner ++ byte ∷ [])) room rest patterns h)
