-- Where a tag has no mark, nothing is bound that an event could run.
use Rattle.std.proofs.Common.{◌≡◌, ℕ, zero, suc, ◌+◌, ◌-◌, ◌==◌, ◌&&◌, Bool, true, false, true≢false, cond, not, List, [], ◌∷◌, ◌++◌, length, filter, Option, Some, None, slice_get, find, option_map, refl, sym, ap, ◌∙◌, subst, arith}
use Rattle.std.proofs.lemmas.Bool.Decides.{nat_tests}
use Rattle.std.proofs.lemmas.Slice.Eq.{bytes_eq-Decides}
use Rattle.std.specs.Option.{option_map_or}
use Rattle.tk_patterns.proofs.FilingLemmas.{last_of, last_at, last_fits, three_first}
use Rattle.tk_patterns.specs.declared.binding.Binding.{Binding}
use Rattle.tk_patterns.specs.declared.type_marks.TypeMarks.{TypeMarks}
use Rattle.tk_patterns.specs.Fits.{has_type, has_detail, has_modifiers}
use Rattle.tk_patterns.specs.Marks.{RunsNone, all_marked, has_mark, last_type}
use Rattle.tk_patterns.specs.Matches.{matches}
use Rattle.tk_patterns.specs.Own.{has_tag, is_of, script_of}
use Rattle.tk_patterns.specs.OwnSteps.{with_script_at}
use Rattle.tk_patterns.specs.Same.{same_sequence}
use Rattle.tk_patterns.specs.Specific.{Candidate}
use Rattle.tk_patterns.specs.Winner.{Pairs, candidates, held_at_last, of_binding, of_sequence, winner, winner_of}
use Rattle.tk_sequences.specs.declared.event.Event.{Event}
use Rattle.tk_sequences.specs.declared.event.EventKind.{EventKind}
use Rattle.tk_sequences.specs.declared.event.EventKind.TheVariants as kinds
use Rattle.tk_sequences.specs.declared.event_type.EventType.{EventType}
use Rattle.tk_sequences.specs.declared.pattern.Pattern.{Pattern}
use Rattle.tk_sequences.specs.declared.sequence.Sequence.{Sequence}
use Rattle.tk_sequences.specs.declared.sequence.Sequence.TheVariants.{Physical, Virtual}
use Rattle.tk_sequences.specs.Types.{type_number}

both : (a b : Bool) → (a && b) ≡ true → (a ≡ true) × (b ≡ true)
both true true h = (refl, refl)
both true false h = absurd (cc)
both false b h = absurd (cc)

and_true : (a b : Bool) → a ≡ true → b ≡ true → (a && b) ≡ true
and_true true true g h = refl
and_true true false g h = h
and_true false b g h = g

-- ── marks that grow, and bindings that change or go ──
abbrev Grows : TypeMarks → TypeMarks → Type 0
Grows old new = (tag : List ℕ) (type : ℕ) → has_mark old tag type ≡ true → has_mark new tag type ≡ true

pub marked_still : (old new : TypeMarks) (own : List Binding) → Grows old new → all_marked old own ≡ true → all_marked new own ≡ true
marked_still old new [] grows all = refl
marked_still old new (binding ∷ own) grows all =
    let parts = both (has_mark old binding.tag (last_type binding.sequence)) (all_marked old own) all in
    and_true (has_mark new binding.tag (last_type binding.sequence)) (all_marked new own) (grows binding.tag (last_type binding.sequence) parts.0) (marked_still old new own grows parts.1)

pub marked_more : (old new : TypeMarks) (own : List Binding) (binding : Binding) → Grows old new → has_mark new binding.tag (last_type binding.sequence) ≡ true
    → all_marked old own ≡ true → all_marked new (own ++ binding ∷ []) ≡ true
marked_more old new [] binding grows marked all = and_true (has_mark new binding.tag (last_type binding.sequence)) true marked refl
marked_more old new (first ∷ own) binding grows marked all =
    let parts = both (has_mark old first.tag (last_type first.sequence)) (all_marked old own) all in
    and_true (has_mark new first.tag (last_type first.sequence)) (all_marked new (own ++ binding ∷ []))
    (grows first.tag (last_type first.sequence) parts.0) (marked_more old new own binding grows marked parts.1)

pub marked_again : (marks : TypeMarks) (own : List Binding) (place : ℕ) (script : List ℕ) → all_marked marks own ≡ true → all_marked marks (with_script_at place script own) ≡ true
marked_again marks [] zero script all = refl
marked_again marks [] (suc place) script all = refl
marked_again marks (binding ∷ own) zero script all = all
marked_again marks (binding ∷ own) (suc place) script all =
    let parts = both (has_mark marks binding.tag (last_type binding.sequence)) (all_marked marks own) all in
    and_true (has_mark marks binding.tag (last_type binding.sequence)) (all_marked marks (with_script_at place script own))
    parts.0 (marked_again marks own place script parts.1)

less_by : (marks : TypeMarks) (binding : Binding) (own : List Binding) (t : Bool) → has_mark marks binding.tag (last_type binding.sequence) ≡ true
    → all_marked marks own ≡ true → all_marked marks (cond t (binding ∷ own) own) ≡ true
less_by marks binding own true marked all = and_true (has_mark marks binding.tag (last_type binding.sequence)) (all_marked marks own) marked all
less_by marks binding own false marked all = all

pub marked_less : (marks : TypeMarks) (test : Binding → Bool) (own : List Binding) → all_marked marks own ≡ true → all_marked marks (filter test own) ≡ true
marked_less marks test [] all = refl
marked_less marks test (binding ∷ own) all =
    let parts = both (has_mark marks binding.tag (last_type binding.sequence)) (all_marked marks own) all in
    less_by marks binding (filter test own) (test binding) parts.0 (marked_less marks test own parts.1)

-- ── what has no mark ──
last_type_is : (pattern : Pattern) (patterns : List Pattern) → last_type (Physical (pattern ∷ patterns)) ≡ type_number (last_of pattern patterns).kind
last_type_is pattern patterns =
    let place : length (pattern ∷ patterns) - 1 ≡ length patterns = omega arith in
    ap (λ n. option_map_or (λ (p : Pattern). type_number p.kind) (slice_get (pattern ∷ patterns) n) 0) place
    ∙ ap (λ found. option_map_or (λ (p : Pattern). type_number p.kind) found 0) (last_at pattern patterns)

module _ (marks : TypeMarks) (tag : List ℕ) (no_virtual : has_mark marks tag 0 ≡ false) where
  -- a binding of the tag has its mark
  of_tag : (binding : Binding) → has_tag tag binding ≡ true → has_mark marks binding.tag (last_type binding.sequence) ≡ true → has_mark marks tag (last_type binding.sequence) ≡ true
  of_tag binding is marked =
      let same : binding.tag ≡ tag = (bytes_eq-Decides binding.tag tag).0 is in
      subst (λ t. has_mark marks t (last_type binding.sequence) ≡ true) same marked

  module _ (event : Event) (history : List Event) (pairs : Pairs) (type : EventType) (kind : event.kind ≡ kinds.Physical type) (none : has_mark marks tag (type_number type) ≡ false) where
    typed : (pattern : Pattern) (patterns : List Pattern) → matches (Physical (pattern ∷ patterns)) event history ≡ true → last_type (Physical (pattern ∷ patterns)) ≡ type_number type
    typed pattern patterns h =
        let last = last_of pattern patterns in
        let same : has_type last.kind (kinds.Physical type) ≡ true =
        ap (has_type last.kind) (sym kind) ∙ three_first (has_type last.kind event.kind) (has_detail last.detail event) (has_modifiers last.modifiers event) (last_fits event history pattern patterns h) in
        let number : type_number last.kind ≡ type_number type = grind (arith, nat_tests, same) in
        last_type_is pattern patterns ∙ number

    no_sequence : (script : List ℕ) (sequence : Sequence) → has_mark marks tag (last_type sequence) ≡ true → of_sequence event history pairs script sequence ≡ []
    no_sequence script (Physical []) marked = refl
    no_sequence script (Physical (pattern ∷ patterns)) marked = by (matches (Physical (pattern ∷ patterns)) event history) refl
      where
        by : (t : Bool) → matches (Physical (pattern ∷ patterns)) event history ≡ t → of_sequence event history pairs script (Physical (pattern ∷ patterns)) ≡ []
        by true is = absurd (true≢false (sym marked ∙ ap (has_mark marks tag) (typed pattern patterns is) ∙ none))
        by false is = rw is refl
    no_sequence script (Virtual name) marked = absurd (true≢false (sym marked ∙ no_virtual))

    no_binding : (binding : Binding) (t : Bool) → has_tag tag binding ≡ t → has_mark marks binding.tag (last_type binding.sequence) ≡ true → of_binding event history pairs tag binding ≡ []
    no_binding binding true is marked = rw is (no_sequence binding.script binding.sequence (of_tag binding is marked))
    no_binding binding false is marked = rw is refl

    no_candidates : (own : List Binding) → all_marked marks own ≡ true → candidates event history pairs tag own ≡ []
    no_candidates [] all = refl
    no_candidates (binding ∷ own) all =
        let parts = both (has_mark marks binding.tag (last_type binding.sequence)) (all_marked marks own) all in
        ap (λ front. front ++ candidates event history pairs tag own) (no_binding binding (has_tag tag binding) refl parts.0) ∙ no_candidates own parts.1

    pub no_physical_winner : (own : List Binding) → all_marked marks own ≡ true → winner pairs tag event history own ≡ None
    no_physical_winner own all =
        ap (λ kind. winner_of kind pairs tag event history own) kind
        ∙ ap (λ (list : List Candidate). option_map (λ (winner : Candidate). winner.script) (held_at_last None list)) (no_candidates own all)

  module _ (name : List ℕ) where
    other_sequence : (sequence : Sequence) → has_mark marks tag (last_type sequence) ≡ true → same_sequence sequence (Virtual name) ≡ false
    other_sequence (Physical patterns) marked = refl
    other_sequence (Virtual other) marked = absurd (true≢false (sym marked ∙ no_virtual))

    not_of : (binding : Binding) (t : Bool) → has_tag tag binding ≡ t → has_mark marks binding.tag (last_type binding.sequence) ≡ true → is_of tag (Virtual name) binding ≡ false
    not_of binding true is marked = rw is (other_sequence binding.sequence (of_tag binding is marked))
    not_of binding false is marked = rw is refl

    no_script : (own : List Binding) → all_marked marks own ≡ true → script_of tag (Virtual name) own ≡ None
    no_script [] all = refl
    no_script (binding ∷ own) all =
        let parts = both (has_mark marks binding.tag (last_type binding.sequence)) (all_marked marks own) all in
        rw (not_of binding (has_tag tag binding) refl parts.0) (no_script own parts.1)

    pub no_virtual_winner : (event : Event) (history : List Event) (pairs : Pairs) (own : List Binding) → event.kind ≡ kinds.Virtual name → all_marked marks own ≡ true → winner pairs tag event history own ≡ None
    no_virtual_winner event history pairs own kind all = ap (λ kind. winner_of kind pairs tag event history own) kind ∙ no_script own all

-- ── where nothing is bound ──
no_winner : (kind : EventKind) (pairs : Pairs) (tag : List ℕ) (event : Event) (history : List Event) → winner_of kind pairs tag event history [] ≡ None
no_winner (kinds.Physical type) pairs tag event history = refl
no_winner (kinds.Virtual name) pairs tag event history = refl

pub nothing_runs : (event : Event) (tags : List (List ℕ)) → RunsNone tags event []
nothing_runs event [] = tt
nothing_runs event (tag ∷ tags) = ((λ history pairs. no_winner event.kind pairs tag event history), nothing_runs event tags)
