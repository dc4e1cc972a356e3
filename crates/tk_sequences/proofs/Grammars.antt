-- The sequences that are read are those of the grammar, and so are the faults.
use Rattle.std.proofs.Common.{◌≡◌, ◌≢◌, ◌⊎◌, inl, inr, ℕ, ◌≤◌, ◌==◌, ◌&&◌, ◌||◌, Bool, true, false, cond, not, List, [], ◌∷◌, ◌++◌, append-nil, Option, Some, None, Ok, Err, eqb-true, refl, sym, ap, ◌∙◌, subst, arith}
use Rattle.std.specs.Str.{bytes_eq}
use Rattle.std.proofs.lemmas.Bool.{cases_lt, ne_eqb, eqb-false}
use Rattle.std.proofs.lemmas.Bool.Decides.{nat_tests}
use Rattle.tk_base.specs.Steps.{◌>>=◌}
use Rattle.tk_sequences.proofs.PatternsCut.{Ends, ends, fails, TextCut, text_cut}
use Rattle.tk_sequences.proofs.PatternsRead.{begins_read, many_read, gap_ends, fault_behind, gap_black, begins_black}
use Rattle.tk_sequences.proofs.ReadBack.{name_is_text}
use Rattle.tk_sequences.proofs.ReadLemmas.{if_by}
use Rattle.tk_sequences.proofs.WordLemmas.{both_first, both_second, isnt}
use Rattle.tk_sequences.specs.Grammar.{IsGap, HasNoClosing, BeginsWith, IsVirtual, IsSequence, virtual, physical as a_physical, HasOpening, HasFault, opening, empty, faulty, many}
use Rattle.tk_sequences.specs.Laws.{SequencesAreRead, FaultsAreTold, IsOneOrOther, IsOneSequence, IsOneFault, IsNotBoth}
use Rattle.tk_sequences.proofs.NameLemmas.{name_in_some, name_in_none}
use Rattle.tk_sequences.specs.Patterns.{count_of}
use Rattle.tk_sequences.specs.Reading.{OrFault, Between, patterns_from, some_patterns, physical, begins_with_bracket, has_brackets, named_or_physical, read_sequence}
use Rattle.tk_sequences.specs.Words.{in_brackets, is_some_text, has_no_closing, is_name, middle, name_in}
use Rattle.tk_sequences.specs.declared.fault.SequenceFault.{SequenceFault}
use Rattle.tk_sequences.specs.declared.fault.SequenceFault.TheVariants.{BadSequence}
use Rattle.tk_sequences.specs.declared.pattern.Pattern.{Pattern}
use Rattle.tk_sequences.specs.declared.sequence.Sequence.{Sequence}
use Rattle.tk_sequences.specs.declared.sequence.Sequence.TheVariants.{Virtual, Physical}

-- ── `<<` ──
opening_here : (before after : List ℕ) → has_brackets (before ++ 60 ∷ 60 ∷ after) ≡ true
opening_here [] after = refl
opening_here (byte ∷ before) after = by (byte == 60 && begins_with_bracket (before ++ 60 ∷ 60 ∷ after)) (opening_here before after)
  where
    by : (t : Bool) → has_brackets (before ++ 60 ∷ 60 ∷ after) ≡ true → (t || has_brackets (before ++ 60 ∷ 60 ∷ after)) ≡ true
    by true h = refl
    by false h = h

opening_told : (text : List ℕ) → HasOpening text → has_brackets text ≡ true
opening_told text (before, after, cut) = ap has_brackets cut ∙ opening_here before after

opening_next : (byte : ℕ) (text : List ℕ) → (byte == 60 && begins_with_bracket text) ≡ true → HasOpening (byte ∷ text)
opening_next byte [] h = absurd (let f : begins_with_bracket [] ≡ true = both_second (byte == 60) (begins_with_bracket []) h in cc)
opening_next byte (other ∷ text) h =
    let first : byte ≡ 60 = eqb-true byte 60 (both_first (byte == 60) (other == 60) h) in
    let second : other ≡ 60 = eqb-true other 60 (both_second (byte == 60) (other == 60) h) in
    ([], text, ap (λ b. b ∷ other ∷ text) first ∙ ap (λ b. 60 ∷ b ∷ text) second)

opening_by : (byte : ℕ) (text : List ℕ) (t : Bool) → (byte == 60 && begins_with_bracket text) ≡ t → (t || has_brackets text) ≡ true → (has_brackets text ≡ true → HasOpening text) → HasOpening (byte ∷ text)
opening_by byte text true is h rest = opening_next byte text is
opening_by byte text false is h rest = let found = rest h in (byte ∷ found.0, found.1, ap (λ (bytes : List ℕ). byte ∷ bytes) found.2)

opening_found : (text : List ℕ) → has_brackets text ≡ true → HasOpening text
opening_found [] h = absurd (cc)
opening_found (byte ∷ text) h = opening_by byte text (byte == 60 && begins_with_bracket text) refl h (opening_found text)

no_opening : (text : List ℕ) → (HasOpening text → ⊥) → has_brackets text ≡ false
no_opening text none = by (has_brackets text) refl
  where
    by : (t : Bool) → has_brackets text ≡ t → t ≡ false
    by true h = absurd (none (opening_found text h))
    by false h = refl

-- ── names ──
each_passes : (name : List ℕ) → HasNoClosing name → has_no_closing name ≡ true
each_passes [] none = refl
each_passes (byte ∷ name) none = ap (λ (t : Bool). not t && has_no_closing name) (ne_eqb byte 62 none.0) ∙ each_passes name none.1

passes_each : (name : List ℕ) → has_no_closing name ≡ true → HasNoClosing name
passes_each [] h = tt
passes_each (byte ∷ name) h =
    (eqb-false byte 62 (isnt (byte == 62) (both_first (not (byte == 62)) (has_no_closing name) h)), passes_each name (both_second (not (byte == 62)) (has_no_closing name) h))

name_passes : (name : List ℕ) → name ≢ [] → HasNoClosing name → is_name name ≡ true
name_passes [] some none = absurd (some refl)
name_passes (byte ∷ name) some none = ap (λ (t : Bool). is_some_text (byte ∷ name) && t) (each_passes (byte ∷ name) none) ∙ grind (arith, nat_tests)

name_some : (name : List ℕ) → is_name name ≡ true → name ≢ []
name_some [] h = absurd (cc)
name_some (byte ∷ name) h = λ same. absurd (cc)

virtual_named : (text name : List ℕ) → IsVirtual text name → name_in text ≡ Some name
virtual_named text name is = sym (name_in_some text name is.2 (name_passes name is.0 is.1))

named_is_name : (text name : List ℕ) → name_in text ≡ Some name → is_name name ≡ true
unfolding name_in
named_is_name text name h =
    if_by (is_name (middle text) && bytes_eq text (in_brackets (middle text))) (Some (middle text)) None (Some name) h
    (λ t h. let same : middle text ≡ name = cc in subst (λ (n : List ℕ). is_name n ≡ true) same (both_first (is_name (middle text)) (bytes_eq text (in_brackets (middle text))) t))
    (λ t h. absurd (cc))

named_virtual : (text name : List ℕ) → name_in text ≡ Some name → IsVirtual text name
named_virtual text name h =
    let is = named_is_name text name h in
    (name_some name is, passes_each name (both_second (is_some_text name) (has_no_closing name) is), sym (name_is_text text name h))

-- ── what a text gives, by what stands in it ──
by_name : (text : List ℕ) (found : Option (List ℕ)) → name_in text ≡ found → read_sequence text ≡ named_or_physical text found
unfolding read_sequence
by_name text found is = ap (named_or_physical text) is

no_name : (text : List ℕ) → has_brackets text ≡ false → name_in text ≡ None
no_name text none = sym (name_in_none text (λ name named same. absurd (let has : has_brackets text ≡ true = ap has_brackets same in cc)))

by_patterns : (text : List ℕ) (read : OrFault (List Pattern)) → has_brackets text ≡ false → patterns_from text Between 32 text ≡ read → read_sequence text ≡ (read >>= some_patterns text)
unfolding physical
by_patterns text read none is =
    by_name text None (no_name text none)
    ∙ ap (λ (t : Bool). cond t (Err (BadSequence text)) (patterns_from text Between 32 text >>= some_patterns text)) none
    ∙ ap (λ (r : OrFault (List Pattern)). r >>= some_patterns text) is

-- ── the grammar is read ──
some_are : (text : List ℕ) (patterns : List Pattern) → patterns ≢ [] → some_patterns text patterns ≡ Ok (Physical patterns)
some_are text [] some = absurd (some refl)
some_are text (pattern ∷ patterns) some = refl

sequence_read : {text : List ℕ} {sequence : Sequence} → IsSequence text sequence → read_sequence text ≡ Ok sequence
sequence_read {text} (virtual name is) = by_name text (Some name) (virtual_named text name is)
sequence_read {text} (a_physical patterns gap some few begins is) =
    by_patterns text (Ok (patterns ++ [])) (begins_black patterns text gap begins ∙ ap has_brackets (sym (append-nil gap)) ∙ gap_black gap [] is)
    (begins_read patterns text gap text 32 (Ok []) begins few (gap_ends gap text is))
    ∙ ap (some_patterns text) (append-nil patterns)
    ∙ some_are text patterns some

not_virtual : (text : List ℕ) (found : Option (List ℕ)) → name_in text ≡ found → ((name : List ℕ) → IsVirtual text name → ⊥) → name_in text ≡ None
not_virtual text None is none = is
not_virtual text (Some name) is none = absurd (none name (named_virtual text name is))

fault_told : {text : List ℕ} {fault : SequenceFault} → HasFault text fault → read_sequence text ≡ Err fault
fault_told {text} (opening opens none) =
    by_name text None (not_virtual text (name_in text) refl none)
    ∙ ap (λ (t : Bool). cond t (Err (BadSequence text)) (physical text)) (opening_told text opens)
fault_told {text} (empty is) =
    by_patterns text (Ok []) (ap has_brackets (sym (append-nil text)) ∙ gap_black text [] is) (gap_ends text text is 32)
fault_told {text} (faulty patterns gap rest {fault} none few begins is is_faulty) =
    by_patterns text (Err fault) (no_opening text none) (begins_read patterns text (gap ++ rest) text 32 (Err fault) begins few (fault_behind text gap rest fault is is_faulty))
fault_told {text} (many patterns rest none past begins) =
    by_patterns text (Err (BadSequence text)) (no_opening text none) (many_read patterns text rest text 32 begins past)

-- ── each text is one or the other ──
abbrev IsEither : List ℕ → Type 0
IsEither text = ((sequence : Sequence) × IsSequence text sequence) ⊎ ((fault : SequenceFault) × HasFault text fault)

ended : (text rest : List ℕ) (patterns : List Pattern) → BeginsWith text patterns rest → count_of patterns ≤ 32 → IsGap rest → IsEither text
ended text rest [] same few is = inr (BadSequence text, empty (subst IsGap (sym same) is))
ended text rest (pattern ∷ patterns) begins few is = inl (Physical (pattern ∷ patterns), a_physical (pattern ∷ patterns) rest (λ same. absurd (cc)) few begins is)

within : (text rest : List ℕ) (patterns : List Pattern) → (HasOpening text → ⊥) → BeginsWith text patterns rest → count_of patterns ≤ 32 → Ends text rest → IsEither text
within text rest patterns none begins few (ends is) = ended text rest patterns begins few is
within text rest patterns none begins few (fails gap {text = behind} {fault = fault} cut is is_faulty) =
    inr (fault, faulty patterns gap behind none few (subst (λ (bytes : List ℕ). BeginsWith text patterns bytes) cut begins) is is_faulty)

cut_either : (text : List ℕ) → (HasOpening text → ⊥) → TextCut text text → IsEither text
cut_either text none cut = elim (cases_lt 32 (count_of cut.patterns)) [
  | inl past ↦ inr (BadSequence text, many cut.patterns cut.rest none past cut.begins)
  | inr few ↦ within text cut.rest cut.patterns none cut.begins few cut.ends
]

named_either : (text : List ℕ) (found : Option (List ℕ)) → name_in text ≡ found → HasOpening text → IsEither text
named_either text (Some name) is opens = inl (Virtual name, virtual name (named_virtual text name is))
named_either text None is opens = inr (BadSequence text, opening opens (λ name virtual. absurd (let f : Some name ≡ None = sym (virtual_named text name virtual) ∙ is in cc)))

either_by : (text : List ℕ) (t : Bool) → has_brackets text ≡ t → IsEither text
either_by text true is = named_either text (name_in text) refl (opening_found text is)
either_by text false is = cut_either text (λ opens. absurd (let f : false ≡ true = sym is ∙ opening_told text opens in cc)) (text_cut text text)

pub each_is_either : IsOneOrOther
each_is_either = λ text. either_by text (has_brackets text) refl

-- ── what is read is of the grammar ──
read_is : (text : List ℕ) (sequence : Sequence) → read_sequence text ≡ Ok sequence → IsEither text → IsSequence text sequence
read_is text sequence h (inl (other, is)) =
    let k : Ok other ≡ Ok sequence = sym (sequence_read is) ∙ h in
    let same : other ≡ sequence = cc in
    subst (λ s. IsSequence text s) same is
read_is text sequence h (inr (fault, is)) = absurd (let k : Err fault ≡ Ok sequence = sym (fault_told is) ∙ h in cc)

told_is : (text : List ℕ) (fault : SequenceFault) → read_sequence text ≡ Err fault → IsEither text → HasFault text fault
told_is text fault h (inl (sequence, is)) = absurd (let k : Ok sequence ≡ Err fault = sym (sequence_read is) ∙ h in cc)
told_is text fault h (inr (other, is)) =
    let k : Err other ≡ Err fault = sym (fault_told is) ∙ h in
    let same : other ≡ fault = cc in
    subst (λ f. HasFault text f) same is

pub sequences_read : SequencesAreRead
sequences_read = λ text sequence. (sequence_read, λ h. read_is text sequence h (each_is_either text))

pub faults_told : FaultsAreTold
faults_told = λ text fault. (fault_told, λ h. told_is text fault h (each_is_either text))

pub one_sequence : IsOneSequence
one_sequence = λ text sequence other is too. let k : Ok sequence ≡ Ok other = sym (sequence_read is) ∙ sequence_read too in cc

pub one_fault : IsOneFault
one_fault = λ text fault other is too. let k : Err fault ≡ Err other = sym (fault_told is) ∙ fault_told too in cc

pub not_both : IsNotBoth
not_both = λ text sequence fault is too. let k : Ok sequence ≡ Err fault = sym (sequence_read is) ∙ fault_told too in cc
