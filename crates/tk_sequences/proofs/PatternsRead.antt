-- The patterns that a text begins with are read, and so is a fault behind them.
use Rattle.std.proofs.Common.{◌≡◌, ◌≢◌, ℕ, ◌-◌, ◌<◌, ◌≤◌, ◌==◌, ◌&&◌, ◌||◌, Bool, true, false, cond, nat_le, List, [], ◌∷◌, ◌++◌, append_assoc, append-nil, All, Option, Some, None, Ok, Err, refl, sym, ap, ◌∙◌, subst, inl, inr, arith}
use Rattle.std.specs.List.{list_all}
use Rattle.std.proofs.lemmas.Bool.{cases_lt, le-leb, lt-leb, ne_eqb}
use Rattle.std.proofs.lemmas.Bool.Decides.{nat_tests}
use Rattle.std.proofs.lemmas.List.Sums.{AllPass-from_list_all, sum_by-cons}
use Rattle.tcl_text.specs.Backslash.{is_white}
use Rattle.tk_base.specs.Names.{key_of_character}
use Rattle.tk_sequences.proofs.EventsRead.{fields_read, fields_faulty, words_inside}
use Rattle.tk_sequences.proofs.FieldsCut.{each_all, fields_are, fields_inside}
use Rattle.tk_sequences.proofs.ReadBack.{begins_within, brackets_within}
use Rattle.tk_sequences.proofs.ReadLemmas.{if_by}
use Rattle.tk_sequences.proofs.WordLemmas.{is_inside, not_closing}
use Rattle.tk_sequences.specs.Grammar.{IsGap, AreFields, AreOf, key_pattern, IsPattern, BeginsWith, IsFaulty}
use Rattle.tk_sequences.specs.Grammar.IsPattern.{character, brackets}
use Rattle.tk_sequences.specs.Grammar.IsFaulty.{character as bad_character, unclosed as never_closed, brackets as bad_brackets}
use Rattle.tk_sequences.proofs.PieceLemmas.{patterns_behind, unclosed, closed, plain_first, plain_refused}
use Rattle.tk_sequences.specs.Patterns.{count_of, times_of}
use Rattle.tk_sequences.specs.Reading.{OrFault, pattern_behind, pattern_of, plain_key, plain_pattern, Between, Within, onto, counted, patterns_from, begins_with_bracket, has_brackets}
use Rattle.tk_sequences.specs.declared.fault.SequenceFault.{SequenceFault}
use Rattle.tk_sequences.specs.declared.fault.SequenceFault.TheVariants.{BadSequence}
use Rattle.tk_sequences.specs.declared.pattern.Pattern.{Pattern}
use Rattle.tk_sequences.specs.declared.pattern.Repetition.TheVariants.{Single}

-- ── white space ──
gap_read : (gap rest whole : List ℕ) (room : ℕ) → IsGap gap → patterns_from whole Between room (gap ++ rest) ≡ patterns_from whole Between room rest
gap_read [] rest whole room is = refl
gap_read (byte ∷ gap) rest whole room is =
    ap (λ (t : Bool). cond t (patterns_from whole Between room (gap ++ rest))
    (cond (byte == 60) (patterns_from whole (Within []) room (gap ++ rest)) (counted whole room (plain_pattern whole byte) (λ left. patterns_from whole Between left (gap ++ rest))))) is.0
    ∙ gap_read gap rest whole room is.1

-- ── one pattern ──
printing_black : (byte key : ℕ) → byte ≢ 32 → key_of_character byte ≡ Some key → is_white byte ≡ false
printing_black byte key other keyed =
    if_by (nat_le 32 byte && nat_le byte 126) (Some (byte - 32)) None (Some key) keyed (λ t h. grind (arith, nat_tests)) (λ t h. absurd (cc))

plain_is : (whole : List ℕ) (byte : ℕ) (found : Option ℕ) → key_of_character byte ≡ found → plain_pattern whole byte ≡ plain_key whole found
unfolding plain_pattern
plain_is whole byte found is = ap (plain_key whole) is

brackets_is : (whole inner : List ℕ) (words : List (List ℕ)) → AreFields inner words → pattern_of whole inner ≡ pattern_behind whole 0 Single words
unfolding pattern_of
brackets_is whole inner words are = ap (pattern_behind whole 0 Single) (fields_are inner words are)

inner_inside : (inner : List ℕ) (words : List (List ℕ)) (pattern : Pattern) → AreFields inner words → AreOf words pattern → list_all is_inside inner ≡ true
inner_inside inner words pattern are is = fields_inside inner words are (words_inside words pattern is)

within_read : (whole inner rest : List ℕ) (room : ℕ) (outcome : OrFault Pattern) → All (λ byte. byte ≢ 62) inner → pattern_of whole inner ≡ outcome
    → patterns_from whole Between room (60 ∷ (inner ++ 62 ∷ rest)) ≡ counted whole room outcome (λ left. patterns_from whole Between left rest)
within_read whole inner rest room outcome none read =
    closed whole [] room inner rest (λ k less. none k 0 less) ∙ ap (λ (p : OrFault Pattern). counted whole room p (λ left. patterns_from whole Between left rest)) read

pattern_read : {own : List ℕ} {pattern : Pattern} → IsPattern own pattern → (whole rest : List ℕ) (room : ℕ)
    → patterns_from whole Between room (own ++ rest) ≡ counted whole room (Ok pattern) (λ left. patterns_from whole Between left rest)
pattern_read (character byte key no_blank no_bracket keyed) whole rest room =
    plain_first whole (byte ∷ rest) (key_pattern key) (omega arith) (printing_black byte key no_blank keyed) no_bracket (plain_is whole byte (Some key) keyed) room
pattern_read (brackets inner {fields} {pattern} are is) whole rest room =
    let inside = AllPass-from_list_all is_inside inner (inner_inside inner fields pattern are is) in
    ap (λ (bytes : List ℕ). patterns_from whole Between room (60 ∷ bytes)) (append_assoc inner (62 ∷ []) rest)
    ∙ within_read whole inner rest room (Ok pattern) (λ k d less. not_closing _ (inside k d less)) (brackets_is whole inner fields are ∙ fields_read whole fields pattern is)

-- ── patterns, and what is read behind them ──
counted_within : (whole : List ℕ) (room : ℕ) (pattern : Pattern) (rest : ℕ → OrFault (List Pattern)) → times_of pattern.times ≤ room
    → counted whole room (Ok pattern) rest ≡ onto pattern (rest (room - times_of pattern.times))
counted_within whole room pattern rest within =
    ap (λ (t : Bool). cond t (onto pattern (rest (room - times_of pattern.times))) (Err (BadSequence whole))) (le-leb (times_of pattern.times) room within)

onto_behind : (pattern : Pattern) (patterns : List Pattern) (outcome : OrFault (List Pattern)) → onto pattern (patterns_behind patterns outcome) ≡ patterns_behind (pattern ∷ patterns) outcome
onto_behind pattern patterns (Ok more) = refl
onto_behind pattern patterns (Err fault) = refl

nothing_behind : (outcome : OrFault (List Pattern)) → outcome ≡ patterns_behind [] outcome
nothing_behind (Ok more) = refl
nothing_behind (Err fault) = refl

-- what is read of the rest, whatever room is left
abbrev pub IsRead : List ℕ → List ℕ → OrFault (List Pattern) → Type 0
IsRead whole text outcome = (room : ℕ) → patterns_from whole Between room text ≡ outcome

pub begins_read : (patterns : List Pattern) (text rest whole : List ℕ) (room : ℕ) (outcome : OrFault (List Pattern)) → BeginsWith text patterns rest → count_of patterns ≤ room → IsRead whole rest outcome
    → patterns_from whole Between room text ≡ patterns_behind patterns outcome
begins_read [] text rest whole room outcome same few read = ap (λ (bytes : List ℕ). patterns_from whole Between room bytes) same ∙ read room ∙ nothing_behind outcome
begins_read (pattern ∷ patterns) text rest whole room outcome (gap, own, behind, cut, is_gap, is, begins) few read =
    let sum = sum_by-cons (λ (p : Pattern). times_of p.times) pattern patterns in
    let within : times_of pattern.times ≤ room = omega (arith, sum, few) in
    let left : count_of patterns ≤ room - times_of pattern.times = omega (arith, sum, few) in
    ap (λ (bytes : List ℕ). patterns_from whole Between room bytes) cut
    ∙ gap_read gap (own ++ behind) whole room is_gap
    ∙ pattern_read is whole behind room
    ∙ counted_within whole room pattern (λ left. patterns_from whole Between left behind) within
    ∙ ap (onto pattern) (begins_read patterns behind rest whole (room - times_of pattern.times) outcome begins left read)
    ∙ onto_behind pattern patterns outcome

-- more events than there is room for
pub many_read : (patterns : List Pattern) (text rest whole : List ℕ) (room : ℕ) → BeginsWith text patterns rest → room < count_of patterns → patterns_from whole Between room text ≡ Err (BadSequence whole)
many_read [] text rest whole room same many = absurd (omega arith)
many_read (pattern ∷ patterns) text rest whole room (gap, own, behind, cut, is_gap, is, begins) many =
    let sum = sum_by-cons (λ (p : Pattern). times_of p.times) pattern patterns in
    ap (λ (bytes : List ℕ). patterns_from whole Between room bytes) cut
    ∙ gap_read gap (own ++ behind) whole room is_gap
    ∙ pattern_read is whole behind room
    ∙ elim (cases_lt room (times_of pattern.times)) [
      | inl past ↦ ap (λ (t : Bool). cond t (onto pattern (patterns_from whole Between (room - times_of pattern.times) behind)) (Err (BadSequence whole))) (lt-leb (times_of pattern.times) room past)
      | inr within ↦
          let left : room - times_of pattern.times < count_of patterns = omega (arith, sum, many) in
          counted_within whole room pattern (λ left. patterns_from whole Between left behind) within
          ∙ ap (onto pattern) (many_read patterns behind rest whole (room - times_of pattern.times) begins left)
    ]

-- ── what may stand behind patterns ──
pub gap_ends : (gap whole : List ℕ) → IsGap gap → IsRead whole gap (Ok [])
gap_ends gap whole is room = ap (λ (bytes : List ℕ). patterns_from whole Between room bytes) (sym (append-nil gap)) ∙ gap_read gap [] whole room is

not_opening : (byte : ℕ) → key_of_character byte ≡ None → byte ≢ 60
not_opening byte none same = let f : key_of_character 60 ≡ None = subst (λ b. key_of_character b ≡ None) same none in absurd (cc)

faulty_read : {whole text : List ℕ} {fault : SequenceFault} → IsFaulty whole text fault → IsRead whole text (Err fault)
faulty_read {whole} (bad_character {byte} {rest} black none) room =
    plain_refused whole (byte ∷ rest) (BadSequence whole) (omega arith) black (not_opening byte none) (plain_is whole byte None none) room
faulty_read {whole} (never_closed {rest} none) room =
    unclosed whole [] room rest (λ k less. each_all (λ byte. byte ≢ 62) rest none k 0 less)
faulty_read {whole} (bad_brackets inner rest {fields} {fault} none are is) room =
    within_read whole inner rest room (Err fault) (each_all (λ byte. byte ≢ 62) inner none) (brackets_is whole inner fields are ∙ fields_faulty whole fields fault is)

pub fault_behind : (whole gap rest : List ℕ) (fault : SequenceFault) → IsGap gap → IsFaulty whole rest fault → IsRead whole (gap ++ rest) (Err fault)
fault_behind whole gap rest fault is faulty room = gap_read gap rest whole room is ∙ faulty_read faulty room

-- ── no `<<` is in patterns ──
white_no_opening : (byte : ℕ) → is_white byte ≡ true → (byte == 60) ≡ false
white_no_opening byte is = grind (arith, nat_tests)

not_first : (byte : ℕ) (rest : List ℕ) → (byte == 60) ≡ false → has_brackets (byte ∷ rest) ≡ has_brackets rest
not_first byte rest other = ap (λ (t : Bool). (t && begins_with_bracket rest) || has_brackets rest) other

pub gap_black : (gap rest : List ℕ) → IsGap gap → has_brackets (gap ++ rest) ≡ has_brackets rest
gap_black [] rest is = refl
gap_black (byte ∷ gap) rest is = not_first byte (gap ++ rest) (white_no_opening byte is.0) ∙ gap_black gap rest is.1

pattern_black : {own : List ℕ} {pattern : Pattern} → IsPattern own pattern → (rest : List ℕ) → has_brackets (own ++ rest) ≡ has_brackets rest
pattern_black (character byte key no_blank no_bracket keyed) rest = not_first byte rest (ne_eqb byte 60 no_bracket)
pattern_black (brackets inner {fields} {pattern} are is) rest =
    let inside = inner_inside inner fields pattern are is in
    ap (λ (bytes : List ℕ). has_brackets (60 ∷ bytes)) (append_assoc inner (62 ∷ []) rest)
    ∙ ap (λ (t : Bool). t || has_brackets (inner ++ 62 ∷ rest)) (begins_within inner rest inside)
    ∙ brackets_within inner rest inside

pub begins_black : (patterns : List Pattern) (text rest : List ℕ) → BeginsWith text patterns rest → has_brackets text ≡ has_brackets rest
begins_black [] text rest same = ap has_brackets same
begins_black (pattern ∷ patterns) text rest (gap, own, behind, cut, is_gap, is, begins) =
    ap has_brackets cut ∙ gap_black gap (own ++ behind) is_gap ∙ pattern_black is behind ∙ begins_black patterns behind rest begins
