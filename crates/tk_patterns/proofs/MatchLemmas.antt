-- The walk back finds places exactly where places can be chosen.
use Rattle.std.proofs.Common.{◌≡◌, Bool, true, false, List, [], ◌∷◌, ◌++◌, Option, Some, None, unwrap_or, refl, sym, ap, ◌∙◌, subst}
use Rattle.std.specs.List.{list_all, list_any}
use Rattle.std.specs.Prelude.{map, not, ◌&&◌, ◌||◌, ◌↔◌}
use Rattle.tk_sequences.specs.declared.event.Event.{Event}
use Rattle.tk_patterns.specs.declared.copies.PatternCopy.{PatternCopy}
use Rattle.tk_patterns.specs.Fits.{fits, may_stand_between, are_near}
use Rattle.tk_patterns.specs.Matches.{MayStandBetween, HavePlaces, EndsAt, Matches, earlier_at, Place, with_between, places_in, is_skipped, is_near_enough, is_place, have_places, ends_at, matches}
use Rattle.tk_patterns.specs.Copies.{all_copies}
use Rattle.tk_patterns.specs.Walk.{nearest, walk_from, walk, walk_ends_at, walk_matches}
use Rattle.tk_patterns.proofs.EventLemmas.{nearest_here, nearest_none, nearest_past}
use Rattle.tk_sequences.specs.declared.pattern.Pattern.{Pattern}
use Rattle.tk_sequences.specs.declared.sequence.Sequence.{Sequence}
use Rattle.tk_sequences.specs.declared.sequence.Sequence.TheVariants.{Physical, Virtual}

-- a place among events at the nearest that a pattern fits
record IsNearest (pattern : Pattern) (events : List Event) (here : Event) (older : List Event) : Type 0 where
  between : List Event
  events_are : events ≡ between ++ here ∷ older
  skipped : MayStandBetween pattern between
  fitting : fits pattern here ≡ true

nearest_by : (pattern : Pattern) (event : Event) (events : List Event) (here : Event) (older : List Event) (f m : Bool) → fits pattern event ≡ f → may_stand_between event ≡ m
    → nearest pattern (event ∷ events) ≡ Some (here, older) → (nearest pattern events ≡ Some (here, older) → IsNearest pattern events here older) → IsNearest pattern (event ∷ events) here older
nearest_by pattern event events here older true m is between found rest =
    let both : Some (event, events) ≡ Some (here, older) = sym (nearest_here pattern event events is) ∙ found in
    let pair : (event, events) ≡ (here, older) = ap (λ o. unwrap_or o (event, events)) both in
    let same : event ≡ here = ap (λ p. p.0) pair in
    let others : events ≡ older = ap (λ p. p.1) pair in
    record { between = []; events_are = ap (λ e. e ∷ events) same ∙ ap (λ es. here ∷ es) others; skipped = tt; fitting = subst (λ e. fits pattern e ≡ true) same is }
nearest_by pattern event events here older false true is between found rest =
    let h = rest (sym (nearest_past pattern event events is between) ∙ found) in
    record { between = event ∷ h.between; events_are = ap (λ es. event ∷ es) h.events_are; skipped = (is, between, h.skipped); fitting = h.fitting }
nearest_by pattern event events here older false false is between found rest = absurd (cc (rw (is, between) at found))

nearest_at : (pattern : Pattern) (events : List Event) (here : Event) (older : List Event) → nearest pattern events ≡ Some (here, older) → IsNearest pattern events here older
nearest_at pattern [] here older found = absurd (cc)
nearest_at pattern (event ∷ events) here older found = nearest_by pattern event events here older (fits pattern event) (may_stand_between event) refl refl found (nearest_at pattern events here older)

is_nearest : (pattern : Pattern) (between : List Event) (here : Event) (older : List Event) → MayStandBetween pattern between → fits pattern here ≡ true → nearest pattern (between ++ here ∷ older) ≡ Some (here, older)
is_nearest pattern [] here older skipped fitting = nearest_here pattern here older fitting
is_nearest pattern (event ∷ between) here older skipped fitting =
    nearest_past pattern event (between ++ here ∷ older) skipped.0 skipped.1 ∙ is_nearest pattern between here older skipped.2 fitting

-- ── both ways ──
near_by : (again near : Bool) → (not again || near) ≡ true → again ≡ true → near ≡ true
near_by true near h is = h
near_by false near h is = absurd (cc)

near_back : (again near : Bool) → (again ≡ true → near ≡ true) → (not again || near) ≡ true
near_back true near h = h refl
near_back false near h = refl

both_true : (a b : Bool) → (a && b) ≡ true → (a ≡ true) × (b ≡ true)
both_true true b h = (refl, h)
both_true false b h = absurd (cc)

and_true : (a b : Bool) → a ≡ true → b ≡ true → (a && b) ≡ true
and_true a b ha hb = rw (ha, hb) refl

sound_by : (copy : PatternCopy) (copies : List PatternCopy) (events : List Event) (later : Event) → ((older : List Event) (here : Event) → walk copies older here ≡ true → HavePlaces copies older here)
    → (found : Option (Event × List Event)) → nearest copy.pattern events ≡ found → walk_from copy (walk copies) later found ≡ true → HavePlaces (copy ∷ copies) events later
sound_by copy copies events later rest None is h = absurd (cc)
sound_by copy copies events later rest (Some found) is h =
    let parts = both_true (is_near_enough copy found.0 later) (walk copies found.1 found.0) h in
    let place = nearest_at copy.pattern events found.0 found.1 is in
    record {
      between = place.between;
      here = found.0;
      older = found.1;
      events_are = place.events_are;
      skipped = place.skipped;
      fitting = place.fitting;
      near = near_by copy.again (are_near copy.pattern.kind found.0 later) parts.0;
      rest = rest found.1 found.0 parts.1;
    }

pub walk_sound : (copies : List PatternCopy) (events : List Event) (later : Event) → walk copies events later ≡ true → HavePlaces copies events later
walk_sound [] events later h = tt
walk_sound (copy ∷ copies) events later h = sound_by copy copies events later (λ older here. walk_sound copies older here) (nearest copy.pattern events) refl h

pub walk_complete : (copies : List PatternCopy) (events : List Event) (later : Event) → HavePlaces copies events later → walk copies events later ≡ true
walk_complete [] events later h = refl
walk_complete (copy ∷ copies) events later h =
    let found : nearest copy.pattern events ≡ Some (h.here, h.older) = ap (nearest copy.pattern) h.events_are ∙ is_nearest copy.pattern h.between h.here h.older h.skipped h.fitting in
    ap (walk_from copy (walk copies) later) found
    ∙ and_true (is_near_enough copy h.here later) (walk copies h.older h.here) (near_back copy.again (are_near copy.pattern.kind h.here later) h.near) (walk_complete copies h.older h.here h.rest)

ends_sound : (copies : List PatternCopy) (events : List Event) (event : Event) → walk_ends_at copies events event ≡ true → EndsAt copies events event
ends_sound [] events event h = absurd (cc)
ends_sound (copy ∷ copies) events event h =
    let parts = both_true (fits copy.pattern event) (walk copies events event) h in
    (parts.0, walk_sound copies events event parts.1)

ends_complete : (copies : List PatternCopy) (events : List Event) (event : Event) → EndsAt copies events event → walk_ends_at copies events event ≡ true
ends_complete [] events event h = absurd h
ends_complete (copy ∷ copies) events event h = and_true (fits copy.pattern event) (walk copies events event) h.0 (walk_complete copies events event h.1)

matches_sound : (sequence : Sequence) (event : Event) (history : List Event) → walk_matches sequence event history ≡ true → Matches sequence event history
matches_sound (Physical patterns) event history h = ends_sound (all_copies patterns) (earlier_at event.number history) event h
matches_sound (Virtual name) event history h = absurd (cc)

matches_complete : (sequence : Sequence) (event : Event) (history : List Event) → Matches sequence event history → walk_matches sequence event history ≡ true
matches_complete (Physical patterns) event history h = ends_complete (all_copies patterns) (earlier_at event.number history) event h
matches_complete (Virtual name) event history h = absurd h

-- the walk is the relation
pub walk_is_relation : (sequence : Sequence) (event : Event) (history : List Event) → walk_matches sequence event history ≡ true ↔ Matches sequence event history
walk_is_relation sequence event history = (matches_sound sequence event history, matches_complete sequence event history)

-- ── a test of every choice finds what the walk finds ──
any_of_map : {X Y : Type 0} (p : Y → Bool) (f : X → Y) (xs : List X) → list_any p (map f xs) ≡ list_any (λ x. p (f x)) xs
any_of_map p f [] = refl
any_of_map p f (x ∷ xs) = ap (λ b. p (f x) || b) (any_of_map p f xs)

any_behind : (b : Bool) (all rest : Place → Bool) (list : List Place) → list_any (λ place. (b && all place) && rest place) list ≡ (b && list_any (λ place. all place && rest place) list)
any_behind true all rest list = refl
any_behind false all rest [] = refl
any_behind false all rest (place ∷ list) = any_behind false all rest list

or_false : (a : Bool) → (a || false) ≡ a
or_false true = refl
or_false false = refl

places_below : (copy : PatternCopy) (before : List Event → Event → Bool) (later event : Event) (events : List Event) → list_any (is_place copy before later) (map (with_between event) (places_in events))
    ≡ (is_skipped copy.pattern event && list_any (is_place copy before later) (places_in events))
places_below copy before later event events =
    any_of_map (is_place copy before later) (with_between event) (places_in events)
    ∙ any_behind (is_skipped copy.pattern event) (λ place. list_all (is_skipped copy.pattern) place.between) (λ place. fits copy.pattern place.here && (is_near_enough copy place.here later && before place.older place.here)) (places_in events)

place_by : (copy : PatternCopy) (f g : List Event → Event → Bool) (later event : Event) (events : List Event) (b m : Bool) → fits copy.pattern event ≡ b → may_stand_between event ≡ m → f events event ≡ g events event
    → list_any (is_place copy f later) (places_in events) ≡ walk_from copy g later (nearest copy.pattern events)
    → ((b && (is_near_enough copy event later && f events event)) || ((not b && m) && list_any (is_place copy f later) (places_in events))) ≡ walk_from copy g later (nearest copy.pattern (event ∷ events))
place_by copy f g later event events true m is between same rest =
    or_false (is_near_enough copy event later && f events event)
    ∙ ap (λ x. is_near_enough copy event later && x) same
    ∙ sym (ap (walk_from copy g later) (nearest_here copy.pattern event events is))
place_by copy f g later event events false true is between same rest = rest ∙ sym (ap (walk_from copy g later) (nearest_past copy.pattern event events is between))
place_by copy f g later event events false false is between same rest = sym (ap (walk_from copy g later) (nearest_none copy.pattern event events is between))

places_by : (copy : PatternCopy) (f g : List Event → Event → Bool) (later : Event) → ((older : List Event) (here : Event) → f older here ≡ g older here) → (events : List Event)
    → list_any (is_place copy f later) (places_in events) ≡ walk_from copy g later (nearest copy.pattern events)
places_by copy f g later same [] = refl
places_by copy f g later same (event ∷ events) =
    ap (λ x. (fits copy.pattern event && (is_near_enough copy event later && f events event)) || x) (places_below copy f later event events)
    ∙ place_by copy f g later event events (fits copy.pattern event) (may_stand_between event) refl refl (same events event) (places_by copy f g later same events)

places_walk : (copies : List PatternCopy) (events : List Event) (later : Event) → have_places copies events later ≡ walk copies events later
places_walk [] events later = refl
places_walk (copy ∷ copies) events later = places_by copy (have_places copies) (walk copies) later (λ older here. places_walk copies older here) events

ends_walk : (copies : List PatternCopy) (events : List Event) (event : Event) → ends_at copies events event ≡ walk_ends_at copies events event
ends_walk [] events event = refl
ends_walk (copy ∷ copies) events event = ap (λ b. fits copy.pattern event && b) (places_walk copies events event)

pub choice_is_walk : (sequence : Sequence) (event : Event) (history : List Event) → walk_matches sequence event history ≡ matches sequence event history
choice_is_walk (Physical patterns) event history = sym (ends_walk (all_copies patterns) (earlier_at event.number history) event)
choice_is_walk (Virtual name) event history = refl

-- the test of every choice is the relation
pub choice_is_match : (sequence : Sequence) (event : Event) (history : List Event) → matches sequence event history ≡ true ↔ Matches sequence event history
choice_is_match sequence event history =
    (λ h. matches_sound sequence event history (choice_is_walk sequence event history ∙ h), λ h. sym (choice_is_walk sequence event history) ∙ matches_complete sequence event history h)

-- ── one step of the walk ──
pub walk_none : (copy : PatternCopy) (copies : List PatternCopy) (events : List Event) (later : Event) → nearest copy.pattern events ≡ None → walk (copy ∷ copies) events later ≡ false
walk_none copy copies events later none = ap (walk_from copy (walk copies) later) none

pub walk_far : (copy : PatternCopy) (copies : List PatternCopy) (events : List Event) (later here : Event) (older : List Event) → nearest copy.pattern events ≡ Some (here, older) → is_near_enough copy here later ≡ false → walk (copy ∷ copies) events later ≡ false
walk_far copy copies events later here older found far = ap (walk_from copy (walk copies) later) found ∙ ap (λ b. b && walk copies older here) far

pub walk_on : (copy : PatternCopy) (copies : List PatternCopy) (events : List Event) (later here : Event) (older : List Event) → nearest copy.pattern events ≡ Some (here, older) → is_near_enough copy here later ≡ true → walk (copy ∷ copies) events later ≡ walk copies older here
walk_on copy copies events later here older found near = ap (walk_from copy (walk copies) later) found ∙ ap (λ b. b && walk copies older here) near
