-- Which bindings can be candidates of an event: those that are filed under the numbers that are sought for it.
use Rattle.std.proofs.Common.{◌≡◌, ℕ, zero, suc, ◌+◌, ◌*◌, ◌-◌, ◌==◌, ◌&&◌, ◌||◌, Bool, true, false, true≢false, cond, List, [], ◌∷◌, ◌++◌, length, drop, map, filter, Option, Some, None, slice_get, refl, sym, ap, ◌∙◌, subst, arith}
use Rattle.std.proofs.lemmas.Bool.Decides.{nat_tests}
use Rattle.std.proofs.lemmas.Slice.Eq.{bytes_eq-Decides}
use Rattle.std.specs.Option.{option_map_or}
use Rattle.std.specs.Str.{bytes_eq}
use Rattle.tk_patterns.proofs.RestLemmas.{NoneSought}
use Rattle.tk_patterns.specs.declared.filed.Filed.{Filed}
use Rattle.tk_patterns.specs.declared.filed.Numbers.{Numbers}
use Rattle.tk_patterns.specs.Filed.{stamps_of}
use Rattle.tk_sequences.specs.declared.event.Event.{Event}
use Rattle.tk_sequences.specs.declared.event.EventKind.TheVariants as kinds
use Rattle.tk_patterns.specs.declared.copies.PatternCopy.{PatternCopy}
use Rattle.tk_patterns.specs.Fits.{fits, has_type, has_detail, has_modifiers}
use Rattle.tk_patterns.specs.Matches.{earlier_at}
use Rattle.tk_patterns.specs.Copies.{all_copies, newest_copy, earlier_copies, copies_of}
use Rattle.tk_patterns.specs.Matches.{matches, ends_at, have_places}
use Rattle.tk_patterns.specs.declared.binding.Binding.{Binding}
use Rattle.tk_patterns.specs.Filing.{filing_number, filed_under, is_number, is_number_of_key, is_number_of_button, is_for_key, is_for_button, is_for_any, is_for_names, is_for_virtuals, is_of_event, name_number, pairs_of_key, pairs_of_button, pairs_of_any, is_named, is_sought, sequence_number}
use Rattle.tk_virtual.specs.Classes.{detail_number, class_number, sequence_class, is_of_class}
use Rattle.tk_virtual.specs.declared.pair.Pair.{Pair}
use Rattle.tk_virtual.specs.Virtual.{meanings_of}
use Rattle.tk_patterns.specs.Own.{has_tag}
use Rattle.tk_patterns.specs.Specific.{Candidate}
use Rattle.tk_patterns.specs.Winner.{Pairs, as_candidates, through, of_sequence, of_binding, candidates}
use Rattle.tk_sequences.specs.declared.detail.Detail.{Detail}
use Rattle.tk_sequences.specs.declared.detail.Detail.TheVariants.{Key, Button}
use Rattle.tk_sequences.specs.declared.event_type.EventType.{EventType}
use Rattle.tk_sequences.specs.declared.pattern.Pattern.{Pattern}
use Rattle.tk_sequences.specs.declared.sequence.Sequence.{Sequence}
use Rattle.tk_sequences.specs.declared.sequence.Sequence.TheVariants.{Physical, Virtual}
use Rattle.tk_sequences.specs.Types.{type_number}

-- ── the last pattern is the one of the event itself ──
abbrev pub last_of : Pattern → List Pattern → Pattern
last_of pattern [] = pattern
last_of pattern (next ∷ patterns) = last_of next patterns

pub last_at : (pattern : Pattern) (patterns : List Pattern) → slice_get (pattern ∷ patterns) (length patterns) ≡ Some (last_of pattern patterns)
last_at pattern [] = refl
last_at pattern (next ∷ patterns) = last_at next patterns

pub class_is : (pattern : Pattern) (patterns : List Pattern) → sequence_class (Physical (pattern ∷ patterns)) ≡ class_number (last_of pattern patterns).kind (last_of pattern patterns).detail
class_is pattern patterns =
    let place : length (pattern ∷ patterns) - 1 ≡ length patterns = omega arith in
    ap (λ n. option_map_or (λ (p : Pattern). class_number p.kind p.detail) (slice_get (pattern ∷ patterns) n) 0) place
    ∙ ap (λ found. option_map_or (λ (p : Pattern). class_number p.kind p.detail) found 0) (last_at pattern patterns)

record Newest (copies : List PatternCopy) (pattern : Pattern) : Type 0 where
  rest : List PatternCopy
  is : copies ≡ newest_copy pattern ∷ rest

newest : (pattern : Pattern) (patterns : List Pattern) → Newest (all_copies (pattern ∷ patterns)) (last_of pattern patterns)
newest pattern [] = record { rest = earlier_copies pattern.times pattern; is = refl }
newest pattern (next ∷ patterns) = let later = newest next patterns in record { rest = later.rest ++ copies_of pattern; is = ap (λ copies. copies ++ copies_of pattern) later.is }

both_first : (a b : Bool) → (a && b) ≡ true → a ≡ true
both_first true b h = refl
both_first false b h = absurd (cc)

pub three_first : (a b c : Bool) → (a && b && c) ≡ true → a ≡ true
three_first true b c h = refl
three_first false b c h = absurd (cc)

three_second : (a b c : Bool) → (a && b && c) ≡ true → b ≡ true
three_second true true c h = refl
three_second true false c h = absurd (cc)
three_second false b c h = absurd (cc)

pub last_fits : (event : Event) (history : List Event) (pattern : Pattern) (patterns : List Pattern) → matches (Physical (pattern ∷ patterns)) event history ≡ true → fits (last_of pattern patterns) event ≡ true
last_fits event history pattern patterns h =
    let found = newest pattern patterns in
    both_first (fits (last_of pattern patterns) event) (have_places found.rest (earlier_at event.number history) event)
    (ap (λ copies. ends_at copies (earlier_at event.number history) event) (sym found.is) ∙ h)

-- ── nothing is sought ──
pub none_stamps : (list : List Filed) → stamps_of (λ numbers. false) list ≡ []
none_stamps [] = refl
none_stamps (filed ∷ list) = none_stamps list

-- ── some of a list ──
pub no_pairs : (pairs : List Pair) → filter (λ pair. false) pairs ≡ []
no_pairs [] = refl
no_pairs (pair ∷ pairs) = no_pairs pairs

-- ── a pattern that fits is of a class that is sought ──
itself : (n : ℕ) → (n == n) ≡ true
itself n = grind (arith, nat_tests)

by_first : (a b c : Bool) → a ≡ true → ((a || b) || c) ≡ true
by_first true b c h = refl
by_first false b c h = absurd (cc)

by_second : (a b c : Bool) → b ≡ true → ((a || b) || c) ≡ true
by_second true b c h = refl
by_second false true c h = refl
by_second false false c h = absurd (cc)

by_third : (a b c : Bool) → c ≡ true → ((a || b) || c) ≡ true
by_third true b c h = refl
by_third false true c h = refl
by_third false false true h = refl
by_third false false false h = absurd (cc)

by_three : (a b c d : Bool) → ((a || b) || c) ≡ true → ((a || b) || (c || d)) ≡ true
by_three true b c d h = refl
by_three false true c d h = refl
by_three false false true d h = refl
by_three false false false d h = absurd (cc)

module _ (tag : List ℕ) (type : EventType) where
  key_number : (key wanted : ℕ) → (key == wanted) ≡ true → is_number_of_key tag type (Some key) (filing_number tag (class_number type (Some (Key wanted)))) ≡ true
  key_number key wanted h =
      let same : key ≡ wanted = grind (arith, nat_tests, h) in
      subst (λ wanted. is_number_of_key tag type (Some key) (filing_number tag (class_number type (Some (Key wanted)))) ≡ true) same (itself (filing_number tag (class_number type (Some (Key key)))))

  button_number : (button wanted : ℕ) → (button == wanted) ≡ true → is_number_of_button tag type (Some button) (filing_number tag (class_number type (Some (Button wanted)))) ≡ true
  button_number button wanted h =
      let same : button ≡ wanted = grind (arith, nat_tests, h) in
      subst (λ wanted. is_number_of_button tag type (Some button) (filing_number tag (class_number type (Some (Button wanted)))) ≡ true) same (itself (filing_number tag (class_number type (Some (Button button)))))

  key_by : (held : Option ℕ) (wanted : ℕ) → option_map_or (λ k. k == wanted) held false ≡ true → is_number_of_key tag type held (filing_number tag (class_number type (Some (Key wanted)))) ≡ true
  key_by None wanted h = absurd (cc)
  key_by (Some key) wanted h = key_number key wanted h

  button_by : (held : Option ℕ) (wanted : ℕ) → option_map_or (λ b. b == wanted) held false ≡ true → is_number_of_button tag type held (filing_number tag (class_number type (Some (Button wanted)))) ≡ true
  button_by None wanted h = absurd (cc)
  button_by (Some button) wanted h = button_number button wanted h

  detail_own : (event : Event) (detail : Option Detail) → has_detail detail event ≡ true → is_of_event tag type event (filing_number tag (class_number type detail)) ≡ true
  detail_own event None h =
      let number = filing_number tag (class_number type None) in
      by_third (is_number_of_key tag type event.key number) (is_number_of_button tag type event.button number) (is_number tag type None number) (itself number)
  detail_own event (Some (Key key)) h =
      let number = filing_number tag (class_number type (Some (Key key))) in
      by_first (is_number_of_key tag type event.key number) (is_number_of_button tag type event.button number) (is_number tag type None number) (key_by event.key key h)
  detail_own event (Some (Button button)) h =
      let number = filing_number tag (class_number type (Some (Button button))) in
      by_second (is_number_of_key tag type event.key number) (is_number_of_button tag type event.button number) (is_number tag type None number) (button_by event.button button h)

  class_by : (own : EventType) (detail : Option Detail) → (type_number own == type_number type) ≡ true → class_number own detail ≡ class_number type detail
  class_by own detail h = let same : type_number own ≡ type_number type = grind (arith, nat_tests, h) in ap (λ n. n * 1024 + detail_number detail) same

  fit_own : (event : Event) (pattern : Pattern) → event.kind ≡ kinds.Physical type → fits pattern event ≡ true → is_of_event tag type event (filing_number tag (class_number pattern.kind pattern.detail)) ≡ true
  fit_own event pattern kind h =
      let typed : has_type pattern.kind (kinds.Physical type) ≡ true = ap (has_type pattern.kind) (sym kind) ∙ three_first (has_type pattern.kind event.kind) (has_detail pattern.detail event) (has_modifiers pattern.modifiers event) h in
      ap (λ class. is_of_event tag type event (filing_number tag class)) (class_by pattern.kind pattern.detail typed)
      ∙ detail_own event pattern.detail (three_second (has_type pattern.kind event.kind) (has_detail pattern.detail event) (has_modifiers pattern.modifiers event) h)

pub three_false : (a b c : Bool) → a ≡ false → b ≡ false → c ≡ false → ((a || b) || c) ≡ false
three_false false false false x y z = refl
three_false false false true x y z = absurd (cc)
three_false false true c x y z = absurd (cc)
three_false true b c x y z = absurd (cc)

record ThreeFalse (a b c : Bool) : Type 0 where
  one : a ≡ false
  two : b ≡ false
  three : c ≡ false

all_false : (a b c : Bool) → ((a || b) || c) ≡ false → ThreeFalse a b c
all_false false false false h = record { one = refl; two = refl; three = refl }
all_false false false true h = absurd (cc)
all_false false true c h = absurd (cc)
all_false true b c h = absurd (cc)

pub not_fourth : (a b c d : Bool) → ((a || b) || (c || d)) ≡ false → d ≡ false
not_fourth a b c false h = refl
not_fourth false false false true h = absurd (cc)
not_fourth false false true true h = absurd (cc)
not_fourth false true c true h = absurd (cc)
not_fourth true b c true h = absurd (cc)

-- ── what isn't filed where it is sought is no candidate ──
-- a sequence that matches is of a class of the event's
pub match_own : (event : Event) (history : List Event) (tag : List ℕ) (type : EventType) → event.kind ≡ kinds.Physical type → (pattern : Pattern) (patterns : List Pattern) → matches (Physical (pattern ∷ patterns)) event history ≡ true
    → is_of_event tag type event (filing_number tag (sequence_class (Physical (pattern ∷ patterns)))) ≡ true
match_own event history tag type kind pattern patterns h =
    ap (λ class. is_of_event tag type event (filing_number tag class)) (class_is pattern patterns)
    ∙ fit_own tag type event (last_of pattern patterns) kind (last_fits event history pattern patterns h)

-- so one of another class doesn't match
pub unmatched : (event : Event) (history : List Event) (type : EventType) → event.kind ≡ kinds.Physical type → (sequence : Sequence) → is_of_event [] type event (sequence_class sequence) ≡ false → matches sequence event history ≡ false
unmatched event history type kind (Physical []) apart = refl
unmatched event history type kind (Physical (pattern ∷ patterns)) apart = by (matches (Physical (pattern ∷ patterns)) event history) refl
  where
    by : (t : Bool) → matches (Physical (pattern ∷ patterns)) event history ≡ t → t ≡ false
    by true is = absurd (true≢false (sym (match_own event history [] type kind pattern patterns is) ∙ apart))
    by false is = refl
unmatched event history type kind (Virtual name) apart = refl

module _ (event : Event) (history : List Event) (virtuals : List Pair) (tag : List ℕ) (type : EventType) (few : Bool) (kind : event.kind ≡ kinds.Physical type) where
  abbrev sought : Numbers → Bool
  sought = is_sought few tag type event virtuals

  -- what a sequence of the tag is filed under
  abbrev under : Sequence → Numbers
  under sequence = record { class = filing_number tag (sequence_class sequence); whole = filing_number tag (sequence_number sequence) }

  abbrev pairs : Pairs
  pairs = meanings_of virtuals

  abbrev nobody : List Candidate
  nobody = []

  nothing_by : (named : Bool) → cond named nobody nobody ≡ nobody
  nothing_by true = refl
  nothing_by false = refl

  record Skipped (t : Bool) (pair : Pair) (others : List Pair) (number : ℕ) : Type 0 where
    rest : is_named tag others number ≡ false
    here : (number == name_number tag pair.name) ≡ true → t ≡ false

  skipped : (t : Bool) (pair : Pair) (others : List Pair) (number : ℕ) → is_named tag (cond t (pair ∷ others) others) number ≡ false → Skipped t pair others number
  skipped false pair others number none = record { rest = none; here = λ is. refl }
  skipped true pair others number none = by (number == name_number tag pair.name) refl none
    where
      by : (s : Bool) → (number == name_number tag pair.name) ≡ s → (s || is_named tag others number) ≡ false → Skipped true pair others number
      by true is none = absurd (cc)
      by false is none = record { rest = none; here = λ h. absurd (true≢false (sym h ∙ is)) }

  -- a name that none of the pairs has that are of a class of the event's gives nothing
  no_through : (name script : List ℕ) (rest : List Pair) → is_named tag (pairs_of_key type event.key rest) (name_number tag name) ≡ false → is_named tag (pairs_of_button type event.button rest) (name_number tag name) ≡ false
      → is_named tag (pairs_of_any type rest) (name_number tag name) ≡ false → through event history name script (meanings_of rest) ≡ []
  no_through name script [] by_key by_button any = refl
  no_through name script (pair ∷ rest) by_key by_button any =
      by (bytes_eq pair.name name) refl
      ∙ no_through name script rest keys.rest buttons.rest alls.rest
    where
      keys : Skipped (is_number_of_key [] type event.key (sequence_class pair.sequence)) pair (pairs_of_key type event.key rest) (name_number tag name)
      keys = skipped (is_number_of_key [] type event.key (sequence_class pair.sequence)) pair (pairs_of_key type event.key rest) (name_number tag name) by_key

      buttons : Skipped (is_number_of_button [] type event.button (sequence_class pair.sequence)) pair (pairs_of_button type event.button rest) (name_number tag name)
      buttons = skipped (is_number_of_button [] type event.button (sequence_class pair.sequence)) pair (pairs_of_button type event.button rest) (name_number tag name) by_button

      alls : Skipped (is_of_class (class_number type None) pair) pair (pairs_of_any type rest) (name_number tag name)
      alls = skipped (is_of_class (class_number type None) pair) pair (pairs_of_any type rest) (name_number tag name) any

      by : (t : Bool) → bytes_eq pair.name name ≡ t
          → through event history name script (meanings_of (pair ∷ rest)) ≡ through event history name script (meanings_of rest)
      by true is =
          let named : (name_number tag name == name_number tag pair.name) ≡ true =
          subst (λ n. (name_number tag name == name_number tag n) ≡ true) (sym ((bytes_eq-Decides pair.name name).0 is)) (itself (name_number tag name)) in
          ap (λ t. cond (bytes_eq pair.name name) (cond t (as_candidates pair.name script pair.sequence) []) [] ++ through event history name script (meanings_of rest))
          (unmatched event history type kind pair.sequence
          (three_false (is_number_of_key [] type event.key (sequence_class pair.sequence)) (is_number_of_button [] type event.button (sequence_class pair.sequence)) (is_of_class (class_number type None) pair)
          (keys.here named) (buttons.here named) (alls.here named)))
          ∙ ap (λ front. front ++ through event history name script (meanings_of rest)) (nothing_by (bytes_eq pair.name name))
      by false is = ap (λ t. cond t (cond (matches pair.sequence event history) (as_candidates pair.name script pair.sequence) []) [] ++ through event history name script (meanings_of rest)) is

  match_sought : (pattern : Pattern) (patterns : List Pattern) → matches (Physical (pattern ∷ patterns)) event history ≡ true → sought (under (Physical (pattern ∷ patterns))) ≡ true
  match_sought pattern patterns h =
      let numbers = under (Physical (pattern ∷ patterns)) in
      by_three (is_for_key tag type event.key numbers) (is_for_button tag type event.button numbers) (is_for_any tag type numbers) (is_for_virtuals few tag type event virtuals numbers)
      (match_own event history tag type kind pattern patterns h)

  unmatched_by : (pattern : Pattern) (patterns : List Pattern) (script : List ℕ) (t : Bool) → matches (Physical (pattern ∷ patterns)) event history ≡ t → sought (under (Physical (pattern ∷ patterns))) ≡ false
      → of_sequence event history pairs script (Physical (pattern ∷ patterns)) ≡ []
  unmatched_by pattern patterns script true is unsought = absurd (let found = match_sought pattern patterns is in cc)
  unmatched_by pattern patterns script false is unsought = rw is refl

  -- where all for virtual events are sought none is left out, else those whose names no pair has
  no_virtual : (script name : List ℕ) (all : Bool) → is_for_virtuals all tag type event virtuals (under (Virtual name)) ≡ false → of_sequence event history pairs script (Virtual name) ≡ []
  no_virtual script name true unsought = absurd (true≢false (sym (itself (filing_number tag 0)) ∙ unsought))
  no_virtual script name false unsought =
      let none = all_false (is_named tag (pairs_of_key type event.key virtuals) (name_number tag name)) (is_named tag (pairs_of_button type event.button virtuals) (name_number tag name)) (is_named tag (pairs_of_any type virtuals) (name_number tag name)) unsought in
      no_through name script virtuals none.one none.two none.three

  no_sequence : (script : List ℕ) (sequence : Sequence) → sought (under sequence) ≡ false → of_sequence event history pairs script sequence ≡ []
  no_sequence script (Physical []) unsought = refl
  no_sequence script (Physical (pattern ∷ patterns)) unsought = unmatched_by pattern patterns script (matches (Physical (pattern ∷ patterns)) event history) refl unsought
  no_sequence script (Virtual name) unsought =
      let numbers = under (Virtual name) in
      no_virtual script name few
      (not_fourth (is_for_key tag type event.key numbers) (is_for_button tag type event.button numbers) (is_for_any tag type numbers) (is_for_virtuals few tag type event virtuals numbers) unsought)

  no_binding_by : (binding : Binding) (t : Bool) → has_tag tag binding ≡ t → sought (filed_under binding) ≡ false → of_binding event history pairs tag binding ≡ []
  no_binding_by binding true is unsought =
      let same : binding.tag ≡ tag = (bytes_eq-Decides binding.tag tag).0 is in
      rw is (no_sequence binding.script binding.sequence
      (ap (λ t. sought (record { class = filing_number t (sequence_class binding.sequence); whole = filing_number t (sequence_number binding.sequence) })) (sym same) ∙ unsought))
  no_binding_by binding false is unsought = rw is refl

  pub no_candidate : (binding : Binding) → sought (filed_under binding) ≡ false → of_binding event history pairs tag binding ≡ []
  no_candidate binding unsought = no_binding_by binding (has_tag tag binding) refl unsought

  -- those before a place that isn't sought are passed over
  pub passed_over : (place : ℕ) (own : List Binding) → NoneSought sought place (map filed_under own) → candidates event history pairs tag own ≡ candidates event history pairs tag (drop place own)
  passed_over zero own none = refl
  passed_over (suc place) [] none = refl
  passed_over (suc place) (binding ∷ own) none =
      ap (λ front. front ++ candidates event history pairs tag own) (no_candidate binding none.0) ∙ passed_over place own none.1

  pub none_at_all : (own : List Binding) → NoneSought sought (length own) (map filed_under own) → candidates event history pairs tag own ≡ []
  none_at_all [] none = refl
  none_at_all (binding ∷ own) none = ap (λ front. front ++ candidates event history pairs tag own) (no_candidate binding none.0) ∙ none_at_all own none.1
