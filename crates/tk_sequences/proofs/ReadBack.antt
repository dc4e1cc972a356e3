-- The canonical form of what was read is read as the same sequence.
use Rattle.std.proofs.Common.{◌≡◌, ◌≢◌, ℕ, ◌≤◌, ◌==◌, ◌&&◌, ◌||◌, Bool, true, false, cond, not, List, [], ◌∷◌, ◌++◌, Option, Some, None, Ok, Err, refl, sym, ap, ◌∙◌, subst}
use Rattle.std.specs.List.{list_all}
use Rattle.std.specs.Str.{bytes_eq}
use Rattle.std.proofs.lemmas.Slice.Eq.{bytes_eq-Decides}
use Rattle.tk_base.specs.Steps.{◌>>=◌}
use Rattle.tk_sequences.proofs.ReadLemmas.{if_by, then_by, AllRead, AreRead, patterns_read}
use Rattle.tk_sequences.proofs.WordLemmas.{is_inside, both_first, both_second, isnt}
use Rattle.tk_sequences.proofs.WrittenLemmas.{inner_of, pattern_is, inner_inside, patterns_back}
use Rattle.tk_sequences.proofs.NameLemmas.{name_in_none}
use Rattle.tk_sequences.specs.Patterns.{count_of}
use Rattle.tk_sequences.specs.Reading.{OrFault, Between, patterns_from, some_patterns, physical, begins_with_bracket, has_brackets, named_or_physical, read_sequence}
use Rattle.tk_sequences.specs.Words.{in_brackets, is_name, middle, name_in}
use Rattle.tk_sequences.specs.Writing.{patterns_written, canonical}
use Rattle.tk_sequences.specs.declared.fault.SequenceFault.TheVariants.{BadSequence}
use Rattle.tk_sequences.specs.declared.pattern.Pattern.{Pattern}
use Rattle.tk_sequences.specs.declared.sequence.Sequence.{Sequence}
use Rattle.tk_sequences.specs.declared.sequence.Sequence.TheVariants.{Virtual, Physical}

-- ── brackets ──
no_opening : (byte : ℕ) → is_inside byte ≡ true → (byte == 60) ≡ false
no_opening byte h = isnt (byte == 60) (both_first (not (byte == 60)) (not (byte == 62)) h)

pub begins_within : (inner rest : List ℕ) → list_all is_inside inner ≡ true → begins_with_bracket (inner ++ 62 ∷ rest) ≡ false
begins_within [] rest h = refl
begins_within (byte ∷ bytes) rest h = no_opening byte (both_first (is_inside byte) (list_all is_inside bytes) h)

pub brackets_within : (inner rest : List ℕ) → list_all is_inside inner ≡ true → has_brackets (inner ++ 62 ∷ rest) ≡ has_brackets rest
brackets_within [] rest h = refl
brackets_within (byte ∷ bytes) rest h =
    ap (λ (t : Bool). (t && begins_with_bracket (bytes ++ 62 ∷ rest)) || has_brackets (bytes ++ 62 ∷ rest)) (no_opening byte (both_first (is_inside byte) (list_all is_inside bytes) h))
    ∙ brackets_within bytes rest (both_second (is_inside byte) (list_all is_inside bytes) h)

no_brackets : (patterns : List Pattern) → AllRead patterns → has_brackets (patterns_written patterns) ≡ false
no_brackets [] reads = refl
no_brackets (pattern ∷ patterns) reads =
    let within = inner_inside pattern reads.0 in
    let rest = patterns_written patterns in
    ap has_brackets (pattern_is pattern rest)
    ∙ ap (λ (t : Bool). t || has_brackets (inner_of pattern ++ 62 ∷ rest)) (begins_within (inner_of pattern) rest within)
    ∙ brackets_within (inner_of pattern) rest within
    ∙ no_brackets patterns reads.1

no_name : (inner rest name : List ℕ) → list_all is_inside inner ≡ true → 60 ∷ (inner ++ 62 ∷ rest) ≢ in_brackets name
no_name inner rest name h same =
    let opens : begins_with_bracket (inner ++ 62 ∷ rest) ≡ true = ap begins_with_bracket (let behind : inner ++ 62 ∷ rest ≡ 60 ∷ (name ++ 62 ∷ 62 ∷ []) = cc in behind) in
    absurd (cc (opens, begins_within inner rest h))

-- ── physical sequences ──
patterns_again : (pattern : Pattern) (patterns : List Pattern) → AllRead (pattern ∷ patterns) → count_of (pattern ∷ patterns) ≤ 32 → read_sequence (patterns_written (pattern ∷ patterns)) ≡ Ok (Physical (pattern ∷ patterns))
unfolding read_sequence physical
patterns_again pattern patterns reads few =
    let text = patterns_written (pattern ∷ patterns) in
    let none : None ≡ name_in text = name_in_none text (λ name named same. no_name (inner_of pattern) (patterns_written patterns) name (inner_inside pattern reads.0) (sym (pattern_is pattern (patterns_written patterns)) ∙ same)) in
    ap (named_or_physical text) (sym none)
    ∙ ap (λ (t : Bool). cond t (Err (BadSequence text)) (patterns_from text Between 32 text >>= some_patterns text)) (no_brackets (pattern ∷ patterns) reads)
    ∙ ap (λ (read : OrFault (List Pattern)). read >>= some_patterns text) (patterns_back text 32 (pattern ∷ patterns) reads few)

some_back : (whole : List ℕ) (patterns : List Pattern) (sequence : Sequence) → AreRead 32 patterns → some_patterns whole patterns ≡ Ok sequence → read_sequence (canonical sequence) ≡ Ok sequence
unfolding canonical
some_back whole [] sequence read h = absurd (cc)
some_back whole (pattern ∷ patterns) sequence read h =
    let same : Physical (pattern ∷ patterns) ≡ sequence = cc in
    subst (λ s. read_sequence (canonical s) ≡ Ok s) same (patterns_again pattern patterns read.each read.few)

physical_back : (text : List ℕ) (sequence : Sequence) → physical text ≡ Ok sequence → read_sequence (canonical sequence) ≡ Ok sequence
unfolding physical
physical_back text sequence h =
    then_by (patterns_from text Between 32 text) (some_patterns text) sequence h (λ patterns read h. some_back text patterns sequence (patterns_read text Between 32 text patterns read) h)

-- ── virtual events ──
pub name_is_text : (text name : List ℕ) → name_in text ≡ Some name → in_brackets name ≡ text
unfolding name_in
name_is_text text name h =
    if_by (is_name (middle text) && bytes_eq text (in_brackets (middle text))) (Some (middle text)) None (Some name) h
    (λ t h.
    let same : middle text ≡ name = cc in
    ap in_brackets (sym same) ∙ sym ((bytes_eq-Decides text (in_brackets (middle text))).0 (both_second (is_name (middle text)) (bytes_eq text (in_brackets (middle text))) t)))
    (λ t h. absurd (cc))

back_by : (text : List ℕ) (found : Option (List ℕ)) (sequence : Sequence) → name_in text ≡ found → read_sequence text ≡ Ok sequence → named_or_physical text found ≡ Ok sequence → read_sequence (canonical sequence) ≡ Ok sequence
unfolding canonical
back_by text (Some name) sequence is read h =
    let same : Virtual name ≡ sequence = cc in
    ap (λ s. read_sequence (canonical s)) (sym same) ∙ ap read_sequence (name_is_text text name is) ∙ read
back_by text None sequence is read h =
    if_by (has_brackets text) (Err (BadSequence text)) (physical text) (Ok sequence) h (λ t h. absurd (cc)) (λ t h. physical_back text sequence h)

pub read_back : (text : List ℕ) (sequence : Sequence) → read_sequence text ≡ Ok sequence → read_sequence (canonical sequence) ≡ Ok sequence
unfolding read_sequence
read_back text sequence h = back_by text (name_in text) sequence refl h h

pub forms_differ : (text other : List ℕ) (sequence another : Sequence) → read_sequence text ≡ Ok sequence → read_sequence other ≡ Ok another → canonical sequence ≡ canonical another → sequence ≡ another
forms_differ text other sequence another read read_too same =
    let k : Ok sequence ≡ Ok another = sym (read_back text sequence read) ∙ ap read_sequence same ∙ read_back other another read_too in
    cc
