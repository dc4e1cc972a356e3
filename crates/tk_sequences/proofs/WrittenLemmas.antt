-- A pattern in its canonical form is read as itself.
use Rattle.std.proofs.Common.{◌≡◌, ℕ, ◌-◌, ◌≤◌, ◌&&◌, ◌||◌, Bool, true, false, cond, List, [], ◌∷◌, ◌++◌, append_assoc, Option, Some, None, Ok, refl, ap, ◌∙◌, arith}
use Rattle.std.specs.Prelude.{codes}
use Rattle.std.specs.List.{flat_map, list_all}
use Rattle.std.proofs.lemmas.Bool.{le-leb}
use Rattle.std.proofs.lemmas.List.Folds.{list_all-append}
use Rattle.std.proofs.lemmas.List.Sums.{AllPass-from_list_all, sum_by-cons}
use Rattle.tk_sequences.proofs.HeldLemmas.{read_held}
use Rattle.tk_sequences.proofs.ReadLemmas.{DetailReads, Reads, AllRead}
use Rattle.tk_sequences.proofs.WordLemmas.{is_inside, is_in_word, is_word, both_second, not_closing, inside_word, word_field, name_is_word}
use Rattle.tk_base.proofs.NamesLemmas.{named-name}
use Rattle.tk_sequences.proofs.PieceLemmas.{closed}
use Rattle.tk_sequences.specs.Modifiers.{all_modifiers, has_modifier, modifier_name}
use Rattle.tk_sequences.specs.Patterns.{count_of, times_of}
use Rattle.tk_sequences.specs.Reading.{OrFault, fields, key_meant, detail_of, detail_behind, may_repeat, typed, headed, pattern_behind, pattern_of, Between, counted, patterns_from}
use Rattle.tk_sequences.specs.Words.{is_some_text, is_single}
use Rattle.tk_sequences.specs.Types.{type_name}
use Rattle.tk_sequences.specs.Writing.{modifier_written, held_written, repetition_written, detail_written, some_detail_written, pattern_written, patterns_written}
use Rattle.tk_sequences.specs.declared.detail.Detail.{Detail}
use Rattle.tk_sequences.specs.declared.detail.Detail.TheVariants as details
use Rattle.tk_sequences.specs.declared.event_type.EventType.{EventType}
use Rattle.tk_sequences.specs.declared.event_type.EventType.TheVariants.{Key, KeyRelease, Button, ButtonRelease, Motion, Enter, Leave, FocusIn, FocusOut, Configure, Map, Unmap, Destroy}
use Rattle.tk_sequences.specs.declared.modifier.Modifier.{Modifier}
use Rattle.tk_sequences.specs.declared.modifier.Modifier.TheVariants.{Control, Shift, Lock, Mod1, Mod2, Mod3, Mod4, Mod5, B1, B2, B3, B4, B5}
use Rattle.tk_sequences.specs.declared.pattern.Pattern.{Pattern}
use Rattle.tk_sequences.specs.declared.pattern.Repetition.{Repetition}
use Rattle.tk_sequences.specs.declared.pattern.Repetition.TheVariants.{Single, Double, Triple, Quadruple}

-- what stands between the brackets
abbrev pub inner_of : Pattern → List ℕ
inner_of pattern = held_written pattern.modifiers ++ (repetition_written pattern.times ++ (type_name pattern.kind ++ some_detail_written pattern.detail))

regrouped : (held times kind detail rest : List ℕ) → (held ++ (times ++ (kind ++ (detail ++ 62 ∷ [])))) ++ rest ≡ (held ++ (times ++ (kind ++ detail))) ++ 62 ∷ rest
regrouped held times kind detail rest = simp append_assoc

pub pattern_is : (pattern : Pattern) (rest : List ℕ) → pattern_written pattern ++ rest ≡ 60 ∷ (inner_of pattern ++ 62 ∷ rest)
pattern_is pattern rest =
    ap (λ (bytes : List ℕ). 60 ∷ bytes) (regrouped (held_written pattern.modifiers) (repetition_written pattern.times) (type_name pattern.kind) (some_detail_written pattern.detail) rest)

-- ── the fields ──
read_times : (whole : List ℕ) (held : ℕ) (times : Repetition) (rest : List ℕ) → pattern_behind whole held Single (fields (repetition_written times ++ rest)) ≡ pattern_behind whole held times (fields rest)
unfolding fields
read_times whole held Single rest = refl
read_times whole held Double rest = refl
read_times whole held Triple rest = refl
read_times whole held Quadruple rest = refl

read_kind : (whole : List ℕ) (held : ℕ) (times : Repetition) (kind : EventType) → pattern_behind whole held times (fields (type_name kind ++ [])) ≡ typed whole held times kind []
unfolding fields headed
read_kind whole held times Key = refl
read_kind whole held times KeyRelease = refl
read_kind whole held times Button = refl
read_kind whole held times ButtonRelease = refl
read_kind whole held times Motion = refl
read_kind whole held times Enter = refl
read_kind whole held times Leave = refl
read_kind whole held times FocusIn = refl
read_kind whole held times FocusOut = refl
read_kind whole held times Configure = refl
read_kind whole held times Map = refl
read_kind whole held times Unmap = refl
read_kind whole held times Destroy = refl

read_kind_of : (whole : List ℕ) (held : ℕ) (times : Repetition) (kind : EventType) (rest : List ℕ) → pattern_behind whole held times (fields (type_name kind ++ (codes "-" ++ rest))) ≡ typed whole held times kind (fields rest)
unfolding fields headed
read_kind_of whole held times Key rest = refl
read_kind_of whole held times KeyRelease rest = refl
read_kind_of whole held times Button rest = refl
read_kind_of whole held times ButtonRelease rest = refl
read_kind_of whole held times Motion rest = refl
read_kind_of whole held times Enter rest = refl
read_kind_of whole held times Leave rest = refl
read_kind_of whole held times FocusIn rest = refl
read_kind_of whole held times FocusOut rest = refl
read_kind_of whole held times Configure rest = refl
read_kind_of whole held times Map rest = refl
read_kind_of whole held times Unmap rest = refl
read_kind_of whole held times Destroy rest = refl

pub typed_is : (whole : List ℕ) (held : ℕ) (times : Repetition) (kind : EventType) (words : List (List ℕ)) (detail : Option Detail) → (is_single times || may_repeat kind) ≡ true → detail_behind whole kind words ≡ Ok detail
    → typed whole held times kind words ≡ Ok (record { modifiers = held; times = times; kind = kind; detail = detail })
typed_is whole held times kind words detail may found = rw (may, found) refl

detail_word : (kind : EventType) (detail : Detail) → DetailReads kind (Some detail) → is_word (detail_written detail) ≡ true
detail_word kind (details.Key key) reads = name_is_word key reads.1
detail_word kind (details.Button button) reads = reads.2.word

detail_back : (whole : List ℕ) (kind : EventType) (detail : Detail) → DetailReads kind (Some detail) → detail_of whole kind (detail_written detail) ≡ Ok detail
unfolding detail_of key_meant
detail_back whole kind (details.Key key) reads = rw (reads.0, named-name key reads.1) refl
detail_back whole kind (details.Button button) reads = rw (reads.0, reads.1, reads.2.named) refl

behind_back : (whole : List ℕ) (kind : EventType) (detail : Detail) → DetailReads kind (Some detail) → detail_behind whole kind (detail_written detail ∷ []) ≡ Ok (Some detail)
behind_back whole kind detail reads = rw (detail_back whole kind detail reads) refl

kind_back : (whole : List ℕ) (held : ℕ) (times : Repetition) (kind : EventType) (detail : Option Detail) → (is_single times || may_repeat kind) ≡ true → DetailReads kind detail
    → pattern_behind whole held times (fields (type_name kind ++ some_detail_written detail)) ≡ Ok (record { modifiers = held; times = times; kind = kind; detail = detail })
kind_back whole held times kind None may reads = read_kind whole held times kind ∙ typed_is whole held times kind [] None may refl
kind_back whole held times kind (Some detail) may reads =
    read_kind_of whole held times kind (detail_written detail)
    ∙ ap (typed whole held times kind) (word_field (detail_written detail) (detail_word kind detail reads))
    ∙ typed_is whole held times kind (detail_written detail ∷ []) (Some detail) may (behind_back whole kind detail reads)

pattern_back : (whole : List ℕ) (pattern : Pattern) → Reads pattern → pattern_of whole (inner_of pattern) ≡ Ok pattern
unfolding pattern_of
pattern_back whole pattern reads =
    read_held whole pattern.modifiers Single (repetition_written pattern.times ++ (type_name pattern.kind ++ some_detail_written pattern.detail)) reads.held
    ∙ read_times whole pattern.modifiers pattern.times (type_name pattern.kind ++ some_detail_written pattern.detail)
    ∙ kind_back whole pattern.modifiers pattern.times pattern.kind pattern.detail reads.times reads.detail

-- ── no bracket stands within ──
modifier_inside : (t : Bool) (modifier : Modifier) → list_all is_inside (cond t (modifier_name modifier ++ codes "-") []) ≡ true
modifier_inside false modifier = refl
modifier_inside true Control = refl
modifier_inside true Shift = refl
modifier_inside true Lock = refl
modifier_inside true Mod1 = refl
modifier_inside true Mod2 = refl
modifier_inside true Mod3 = refl
modifier_inside true Mod4 = refl
modifier_inside true Mod5 = refl
modifier_inside true B1 = refl
modifier_inside true B2 = refl
modifier_inside true B3 = refl
modifier_inside true B4 = refl
modifier_inside true B5 = refl

pub both_inside : (front behind : List ℕ) → list_all is_inside front ≡ true → list_all is_inside behind ≡ true → list_all is_inside (front ++ behind) ≡ true
both_inside front behind f b = list_all-append is_inside front behind ∙ ap (λ (t : Bool). t && list_all is_inside behind) f ∙ b

modifiers_inside : (held : ℕ) (modifiers : List Modifier) → list_all is_inside (flat_map (modifier_written held) modifiers) ≡ true
modifiers_inside held [] = refl
modifiers_inside held (modifier ∷ modifiers) = both_inside (modifier_written held modifier) (flat_map (modifier_written held) modifiers) (modifier_inside (has_modifier held modifier) modifier) (modifiers_inside held modifiers)

times_inside : (times : Repetition) → list_all is_inside (repetition_written times) ≡ true
times_inside Single = refl
times_inside Double = refl
times_inside Triple = refl
times_inside Quadruple = refl

kind_inside : (kind : EventType) → list_all is_inside (type_name kind) ≡ true
kind_inside Key = refl
kind_inside KeyRelease = refl
kind_inside Button = refl
kind_inside ButtonRelease = refl
kind_inside Motion = refl
kind_inside Enter = refl
kind_inside Leave = refl
kind_inside FocusIn = refl
kind_inside FocusOut = refl
kind_inside Configure = refl
kind_inside Map = refl
kind_inside Unmap = refl
kind_inside Destroy = refl

detail_inside : (kind : EventType) (detail : Option Detail) → DetailReads kind detail → list_all is_inside (some_detail_written detail) ≡ true
detail_inside kind None reads = refl
detail_inside kind (Some detail) reads =
    inside_word (detail_written detail) (both_second (is_some_text (detail_written detail)) (list_all is_in_word (detail_written detail)) (detail_word kind detail reads))

pub inner_inside : (pattern : Pattern) → Reads pattern → list_all is_inside (inner_of pattern) ≡ true
inner_inside pattern reads =
    both_inside (held_written pattern.modifiers) (repetition_written pattern.times ++ (type_name pattern.kind ++ some_detail_written pattern.detail)) (modifiers_inside pattern.modifiers all_modifiers)
    (both_inside (repetition_written pattern.times) (type_name pattern.kind ++ some_detail_written pattern.detail) (times_inside pattern.times)
    (both_inside (type_name pattern.kind) (some_detail_written pattern.detail) (kind_inside pattern.kind) (detail_inside pattern.kind pattern.detail reads.detail)))

-- ── all patterns ──
counted_back : (whole : List ℕ) (room : ℕ) (pattern : Pattern) (rest : ℕ → OrFault (List Pattern)) (patterns : List Pattern) → times_of pattern.times ≤ room → rest (room - times_of pattern.times) ≡ Ok patterns
    → counted whole room (Ok pattern) rest ≡ Ok (pattern ∷ patterns)
counted_back whole room pattern rest patterns within behind = rw (le-leb (times_of pattern.times) room within, behind) refl

pub patterns_back : (whole : List ℕ) (room : ℕ) (patterns : List Pattern) → AllRead patterns → count_of patterns ≤ room → patterns_from whole Between room (patterns_written patterns) ≡ Ok patterns
patterns_back whole room [] reads few = refl
patterns_back whole room (pattern ∷ patterns) reads few =
    let sum = sum_by-cons (λ (p : Pattern). times_of p.times) pattern patterns in
    let within : times_of pattern.times ≤ room = omega (arith, sum, few) in
    let left : count_of patterns ≤ room - times_of pattern.times = omega (arith, sum, few) in
    let bytes = AllPass-from_list_all is_inside (inner_of pattern) (inner_inside pattern reads.0) in
    ap (patterns_from whole Between room) (pattern_is pattern (patterns_written patterns))
    ∙ closed whole [] room (inner_of pattern) (patterns_written patterns) (λ k less. not_closing _ (bytes k 0 less))
    ∙ ap (λ (p : OrFault Pattern). counted whole room p (λ left. patterns_from whole Between left (patterns_written patterns))) (pattern_back whole pattern reads.0)
    ∙ counted_back whole room pattern (λ left. patterns_from whole Between left (patterns_written patterns)) patterns within (patterns_back whole (room - times_of pattern.times) patterns reads.1 left)
