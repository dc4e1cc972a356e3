-- The pairs of one virtual event, class by class: those for any key or button first, since each of the others is more specific.
use Rattle.std.proofs.Common.{◌≡◌, ℕ, ◌+◌, ◌-◌, ◌<◌, ◌==◌, ◌||◌, Bool, true, false, true≢false, cond, List, [], ◌∷◌, ◌++◌, length, filter, Option, Some, None, slice_get, refl, sym, ap, ◌∙◌, subst, arith}
use Rattle.std.specs.Prelude.{is_some}
use Rattle.std.specs.Option.{option_map_or}
use Rattle.std.proofs.lemmas.Bool.Decides.{nat_tests}
use Rattle.std.proofs.lemmas.List.Sums.{fold-append}
use Rattle.tk_base.specs.Names.{character_of}
use Rattle.tk_sequences.specs.declared.detail.Detail.{Detail}
use Rattle.tk_sequences.specs.declared.detail.Detail.TheVariants.{Key, Button}
use Rattle.tk_sequences.specs.declared.event.Event.{Event}
use Rattle.tk_sequences.specs.declared.event.EventKind.TheVariants as kinds
use Rattle.tk_sequences.specs.declared.event_type.EventType.{EventType}
use Rattle.tk_sequences.specs.declared.pattern.Pattern.{Pattern}
use Rattle.tk_sequences.specs.declared.sequence.Sequence.{Sequence}
use Rattle.tk_sequences.specs.declared.sequence.Sequence.TheVariants.{Physical, Virtual}
use Rattle.tk_sequences.specs.Types.{type_number}
use Rattle.tk_virtual.specs.Classes.{detail_number, class_number, sequence_class, is_of_class}
use Rattle.tk_virtual.specs.Virtual.{has_name}
use Rattle.tk_virtual.specs.declared.pair.Pair.{Pair}
use Rattle.tk_virtual.proofs.NamedLemmas.{filters_commute}
use Rattle.tk_patterns.specs.declared.verdict.Verdict.{Verdict}
use Rattle.tk_patterns.specs.Filing.{is_number, is_number_of_key, is_number_of_button, is_of_event, detail_of, has_both}
use Rattle.tk_patterns.specs.Fits.{has_type, has_detail, has_modifiers}
use Rattle.tk_patterns.specs.Matches.{matches}
use Rattle.tk_patterns.specs.Named.{of_matching, of_pairs}
use Rattle.tk_patterns.specs.Same.{same_patterns}
use Rattle.tk_patterns.specs.Specific.{Candidate, first_of, by_having, ends_with_detail, by_length, by_modifiers, by_origin, by_name, if_same, is_more, beats}
use Rattle.tk_patterns.specs.Copies.{all_copies}
use Rattle.tk_patterns.specs.Winner.{candidate, as_candidates, replaced, held_at_last}
use Rattle.tk_patterns.proofs.FilingLemmas.{last_of, last_at, class_is, last_fits, three_first, three_false, unmatched}

-- ── one with a detail beats one without ──
having_more : (x y : Bool) (later : Verdict) → x ≡ true → y ≡ false → is_more (first_of (by_having x y) later) ≡ true
having_more true false later h k = refl
having_more true true later h k = absurd (cc)
having_more false y later h k = absurd (cc)

having_less : (x y : Bool) (later : Verdict) → x ≡ false → y ≡ true → is_more (first_of (by_having x y) later) ≡ false
having_less false true later h k = refl
having_less false false later h k = absurd (cc)
having_less true y later h k = absurd (cc)

abbrev later_rules : Candidate → Candidate → Verdict
later_rules a b =
    first_of (by_length a.patterns b.patterns)
    (first_of (by_modifiers (all_copies a.patterns) (all_copies b.patterns))
    (if_same (same_patterns a.patterns b.patterns) (first_of (by_origin a.name b.name) (by_name a.name b.name))))

beats_general : (a b : Candidate) → ends_with_detail a.patterns ≡ true → ends_with_detail b.patterns ≡ false → beats a b ≡ true
beats_general a b x y = having_more (ends_with_detail a.patterns) (ends_with_detail b.patterns) (later_rules a b) x y

loses_general : (a b : Candidate) → ends_with_detail a.patterns ≡ false → ends_with_detail b.patterns ≡ true → beats a b ≡ false
loses_general a b x y = having_less (ends_with_detail a.patterns) (ends_with_detail b.patterns) (later_rules a b) x y

exchange_one : (h : Option Candidate) (c g : Candidate) → ends_with_detail c.patterns ≡ true → ends_with_detail g.patterns ≡ false → replaced (replaced h c) g ≡ replaced (replaced h g) c
exchange_one None c g x y =
    ap (λ (t : Bool). cond t (Some c) (Some g)) (beats_general c g x y) ∙ sym (ap (λ (t : Bool). cond t (Some g) (Some c)) (loses_general g c y x))
exchange_one (Some k) c g x y = by (beats k c) (beats k g) (ends_with_detail k.patterns) refl refl refl
  where
    by : (s t e : Bool) → beats k c ≡ s → beats k g ≡ t → ends_with_detail k.patterns ≡ e → replaced (cond s (Some k) (Some c)) g ≡ replaced (cond t (Some k) (Some g)) c
    by true true e first second ends =
        ap (λ (t : Bool). cond t (Some k) (Some g)) second ∙ sym (ap (λ (t : Bool). cond t (Some k) (Some c)) first)
    by true false true first second ends = absurd (true≢false (sym (beats_general k g ends y) ∙ second))
    by true false false first second ends = absurd (true≢false (sym first ∙ loses_general k c ends x))
    by false true e first second ends =
        ap (λ (t : Bool). cond t (Some c) (Some g)) (beats_general c g x y) ∙ sym (ap (λ (t : Bool). cond t (Some k) (Some c)) first)
    by false false e first second ends =
        ap (λ (t : Bool). cond t (Some c) (Some g)) (beats_general c g x y) ∙ sym (ap (λ (t : Bool). cond t (Some g) (Some c)) (loses_general g c y x))

-- each ends with a detail, or each without
abbrev AllEnd : Bool → List Candidate → Type 0
AllEnd t [] = Unit {0}
AllEnd t (c ∷ cs) = (ends_with_detail c.patterns ≡ t) × AllEnd t cs

exchange_many : (h : Option Candidate) (c : Candidate) (gs : List Candidate) → ends_with_detail c.patterns ≡ true → AllEnd false gs → held_at_last (replaced h c) gs ≡ replaced (held_at_last h gs) c
exchange_many h c [] x ys = refl
exchange_many h c (g ∷ gs) x ys = ap (λ k. held_at_last k gs) (exchange_one h c g x ys.0) ∙ exchange_many (replaced h g) c gs x ys.1

exchange : (h : Option Candidate) (cs gs : List Candidate) → AllEnd true cs → AllEnd false gs → held_at_last (held_at_last h cs) gs ≡ held_at_last (held_at_last h gs) cs
exchange h [] gs xs ys = refl
exchange h (c ∷ cs) gs xs ys = exchange (replaced h c) cs gs xs.1 ys ∙ ap (λ k. held_at_last k cs) (exchange_many h c gs xs.0 ys)

all_end : (t : Bool) (cs ds : List Candidate) → AllEnd t cs → AllEnd t ds → AllEnd t (cs ++ ds)
all_end t [] ds xs ys = ys
all_end t (c ∷ cs) ds xs ys = (xs.0, all_end t cs ds xs.1 ys)

-- ── pairs of two classes, of which one comes first ──
module _ (event : Event) (history : List Event) (script : List ℕ) where
  abbrev of : List Pair → List Candidate
  of pairs = of_pairs event history script pairs

  -- those of other classes give nothing
  pub only : (a : Pair → Bool) → ((pair : Pair) → a pair ≡ false → of_matching event history script pair ≡ []) → (pairs : List Pair) → of (filter a pairs) ≡ of pairs
  only a nothing [] = refl
  only a nothing (pair ∷ pairs) = by (a pair) refl (only a nothing pairs)
    where
      by : (t : Bool) → a pair ≡ t → of (filter a pairs) ≡ of pairs → of (cond t (pair ∷ filter a pairs) (filter a pairs)) ≡ of_matching event history script pair ++ of pairs
      by true is rest = ap (λ l. of_matching event history script pair ++ l) rest
      by false is rest = rest ∙ sym (ap (λ l. l ++ of pairs) (nothing pair is))

  module _ (a s : Pair → Bool) (nothing : (pair : Pair) → a pair ≡ false → s pair ≡ false → of_matching event history script pair ≡ [])
      (general : (pair : Pair) → a pair ≡ true → AllEnd false (of_matching event history script pair))
      (special : (pair : Pair) → s pair ≡ true → AllEnd true (of_matching event history script pair))
      (apart : (pair : Pair) → a pair ≡ true → s pair ≡ false) where
    all_general : (pairs : List Pair) → AllEnd false (of (filter a pairs))
    all_general [] = tt
    all_general (pair ∷ pairs) = by (a pair) refl (all_general pairs)
      where
        by : (t : Bool) → a pair ≡ t → AllEnd false (of (filter a pairs)) → AllEnd false (of (cond t (pair ∷ filter a pairs) (filter a pairs)))
        by true is rest = all_end false (of_matching event history script pair) (of (filter a pairs)) (general pair is) rest
        by false is rest = rest

    pub parted : (pairs : List Pair) (h : Option Candidate) → held_at_last h (of pairs) ≡ held_at_last (held_at_last h (of (filter a pairs))) (of (filter s pairs))
    parted [] h = refl
    parted (pair ∷ pairs) h = by (a pair) (s pair) refl refl (parted pairs)
      where
        own : List Candidate
        own = of_matching event history script pair

        by : (t u : Bool) → a pair ≡ t → s pair ≡ u → ((h : Option Candidate) → held_at_last h (of pairs) ≡ held_at_last (held_at_last h (of (filter a pairs))) (of (filter s pairs)))
            → held_at_last h (of_matching event history script pair ++ of pairs) ≡ held_at_last (held_at_last h (of (cond t (pair ∷ filter a pairs) (filter a pairs)))) (of (cond u (pair ∷ filter s pairs) (filter s pairs)))
        by true true first second rest = absurd (true≢false (sym second ∙ apart pair first))
        by true false first second rest =
            fold-append replaced h (of_matching event history script pair) (of pairs)
            ∙ rest (held_at_last h (of_matching event history script pair))
            ∙ sym (ap (λ k. held_at_last k (of (filter s pairs))) (fold-append replaced h (of_matching event history script pair) (of (filter a pairs))))
        by false true first second rest =
            fold-append replaced h (of_matching event history script pair) (of pairs)
            ∙ rest (held_at_last h (of_matching event history script pair))
            ∙ ap (λ k. held_at_last k (of (filter s pairs))) (exchange h (of_matching event history script pair) (of (filter a pairs)) (special pair second) (all_general pairs))
            ∙ sym (fold-append replaced (held_at_last h (of (filter a pairs))) (of_matching event history script pair) (of (filter s pairs)))
        by false false first second rest = ap (λ l. held_at_last h (l ++ of pairs)) (nothing pair first second) ∙ rest h

-- ── what the numbers of classes tell ──
equal : (m n : ℕ) → (m == n) ≡ true → m ≡ n
equal m n h = grind (arith, nat_tests, h)

by_character : (found : Option ℕ) → 0 < option_map_or (λ character. 512 + character) found 1
by_character None = omega arith
by_character (Some character) = omega arith

positive : (detail : Detail) → 0 < detail_number (Some detail)
positive (Key key) = by_character (character_of key)
positive (Button button) = omega arith

none_is : (detail : Option Detail) → detail_number detail ≡ 0 → is_some detail ≡ false
none_is None h = refl
none_is (Some detail) h = absurd (let above = positive detail in omega (arith, above, h))

some_is : (detail : Option Detail) → 0 < detail_number detail → is_some detail ≡ true
some_is None h = absurd (omega (arith, h))
some_is (Some detail) h = refl

classes_apart : (type : EventType) (detail : Detail) (class : ℕ) → (class == class_number type None) ≡ true → (class == class_number type (Some detail)) ≡ false
classes_apart type detail class h = by (class == class_number type (Some detail)) refl
  where
    by : (t : Bool) → (class == class_number type (Some detail)) ≡ t → (class == class_number type (Some detail)) ≡ false
    by true is = absurd (let first = equal class (class_number type None) h in let second = equal class (class_number type (Some detail)) is in let above = positive detail in omega (arith, first, second, above))
    by false is = is

ends_is : (pattern : Pattern) (patterns : List Pattern) → ends_with_detail (pattern ∷ patterns) ≡ is_some (last_of pattern patterns).detail
ends_is pattern patterns =
    let place : length (pattern ∷ patterns) - 1 ≡ length patterns = omega arith in
    ap (λ n. option_map_or (λ (p : Pattern). is_some p.detail) (slice_get (pattern ∷ patterns) n) false) place
    ∙ ap (λ found. option_map_or (λ (p : Pattern). is_some p.detail) found false) (last_at pattern patterns)

module _ (event : Event) (history : List Event) (script : List ℕ) (type : EventType) (kind : event.kind ≡ kinds.Physical type) where
  -- the detail's number of one that matches is what is left of its class
  detail_is : (pattern : Pattern) (patterns : List Pattern) (wanted : Option Detail) → matches (Physical (pattern ∷ patterns)) event history ≡ true → (sequence_class (Physical (pattern ∷ patterns)) == class_number type wanted) ≡ true
      → detail_number (last_of pattern patterns).detail ≡ detail_number wanted
  detail_is pattern patterns wanted h is =
      let last = last_of pattern patterns in
      let typed : has_type last.kind (kinds.Physical type) ≡ true =
      ap (has_type last.kind) (sym kind) ∙ three_first (has_type last.kind event.kind) (has_detail last.detail event) (has_modifiers last.modifiers event) (last_fits event history pattern patterns h) in
      let same : type_number last.kind ≡ type_number type = equal (type_number last.kind) (type_number type) typed in
      let whole : class_number last.kind last.detail ≡ class_number type wanted = sym (class_is pattern patterns) ∙ equal (sequence_class (Physical (pattern ∷ patterns))) (class_number type wanted) is in
      omega (arith, same, whole)

  general_by : (name : List ℕ) (sequence : Sequence) → (sequence_class sequence == class_number type None) ≡ true → AllEnd false (cond (matches sequence event history) (as_candidates name script sequence) [])
  general_by name (Virtual other) is = tt
  general_by name (Physical []) is = tt
  general_by name (Physical (pattern ∷ patterns)) is = by (matches (Physical (pattern ∷ patterns)) event history) refl
    where
      by : (t : Bool) → matches (Physical (pattern ∷ patterns)) event history ≡ t → AllEnd false (cond t (candidate (pattern ∷ patterns) (Some name) script ∷ []) [])
      by true h = (ends_is pattern patterns ∙ none_is (last_of pattern patterns).detail (detail_is pattern patterns None h is), tt)
      by false h = tt

  special_by : (detail : Detail) (name : List ℕ) (sequence : Sequence) → (sequence_class sequence == class_number type (Some detail)) ≡ true → AllEnd true (cond (matches sequence event history) (as_candidates name script sequence) [])
  special_by detail name (Virtual other) is = tt
  special_by detail name (Physical []) is = tt
  special_by detail name (Physical (pattern ∷ patterns)) is = by (matches (Physical (pattern ∷ patterns)) event history) refl
    where
      by : (t : Bool) → matches (Physical (pattern ∷ patterns)) event history ≡ t → AllEnd true (cond t (candidate (pattern ∷ patterns) (Some name) script ∷ []) [])
      by true h =
          let number = detail_is pattern patterns (Some detail) h is in
          let above = positive detail in
          (ends_is pattern patterns ∙ some_is (last_of pattern patterns).detail (omega (arith, number, above)), tt)
      by false h = tt

  nothing_by : (number : ℕ) (key button : Option ℕ) (detail : Detail) → has_both key button ≡ false → detail_of key button ≡ Some detail → (number == class_number type None) ≡ false → (number == class_number type (Some detail)) ≡ false
      → ((is_number_of_key [] type key number || is_number_of_button [] type button number) || is_number [] type None number) ≡ false
  nothing_by number (Some key) (Some button) detail one is any own = absurd (cc)
  nothing_by number (Some key) None detail one is any own =
      let same : detail ≡ Key key = cc in
      three_false (number == class_number type (Some (Key key))) false (number == class_number type None) (subst (λ d. (number == class_number type (Some d)) ≡ false) same own) refl any
  nothing_by number None (Some button) detail one is any own =
      let same : detail ≡ Button button = cc in
      three_false false (number == class_number type (Some (Button button))) (number == class_number type None) refl (subst (λ d. (number == class_number type (Some d)) ≡ false) same own) any
  nothing_by number None None detail one is any own = absurd (cc)

  nothing_but : (number : ℕ) (key button : Option ℕ) → detail_of key button ≡ None → (number == class_number type None) ≡ false
      → ((is_number_of_key [] type key number || is_number_of_button [] type button number) || is_number [] type None number) ≡ false
  nothing_but number (Some key) button is any = absurd (cc)
  nothing_but number None (Some button) is any = absurd (cc)
  nothing_but number None None is any = three_false false false (number == class_number type None) refl refl any

  no_candidate : (pair : Pair) → is_of_event [] type event (sequence_class pair.sequence) ≡ false → of_matching event history script pair ≡ []
  no_candidate pair apart = ap (λ t. cond t (as_candidates pair.name script pair.sequence) []) (unmatched event history type kind pair.sequence apart)

  module _ (name : List ℕ) (virtuals : List Pair) (h : Option Candidate) where
    abbrev those : ℕ → List Pair
    those class = filter (has_name name) (filter (is_of_class class) virtuals)

    -- those for any, and then those for the event's key or button
    pub by_classes : (detail : Detail) → has_both event.key event.button ≡ false → detail_of event.key event.button ≡ Some detail
        → held_at_last (held_at_last h (of_pairs event history script (those (class_number type None)))) (of_pairs event history script (those (class_number type (Some detail))))
        ≡ held_at_last h (of_pairs event history script (filter (has_name name) virtuals))
    by_classes detail one is =
        ap (λ l. held_at_last (held_at_last h (of_pairs event history script l)) (of_pairs event history script (those (class_number type (Some detail))))) (filters_commute (has_name name) (is_of_class (class_number type None)) virtuals)
        ∙ ap (λ l. held_at_last (held_at_last h (of_pairs event history script (filter (is_of_class (class_number type None)) (filter (has_name name) virtuals)))) (of_pairs event history script l))
        (filters_commute (has_name name) (is_of_class (class_number type (Some detail))) virtuals)
        ∙ sym (parted event history script (is_of_class (class_number type None)) (is_of_class (class_number type (Some detail)))
        (λ pair any own. no_candidate pair (nothing_by (sequence_class pair.sequence) event.key event.button detail one is any own))
        (λ pair any. general_by pair.name pair.sequence any)
        (λ pair own. special_by detail pair.name pair.sequence own)
        (λ pair any. classes_apart type detail (sequence_class pair.sequence) any)
        (filter (has_name name) virtuals) h)

    -- an event without a key and a button has those for any
    pub by_any : detail_of event.key event.button ≡ None
        → held_at_last h (of_pairs event history script (those (class_number type None))) ≡ held_at_last h (of_pairs event history script (filter (has_name name) virtuals))
    by_any is =
        ap (λ l. held_at_last h (of_pairs event history script l)) (filters_commute (has_name name) (is_of_class (class_number type None)) virtuals)
        ∙ ap (held_at_last h) (only event history script (is_of_class (class_number type None)) (λ pair any. no_candidate pair (nothing_but (sequence_class pair.sequence) event.key event.button is any)) (filter (has_name name) virtuals))
