-- Meaning. Which sequences match an event after a history: a choice of the earlier events.
use Rattle.std.specs.Prelude.{◌≡◌, ℕ, Bool, true, false, not, ◌&&◌, ◌||◌, IsTrue, List, [], ◌∷◌, ◌++◌, ◌==◌, filter, map, reverse}
use Rattle.std.specs.List.{list_all, list_any}
use Rattle.tk_sequences.specs.declared.event.Event.{Event}
use Rattle.tk_patterns.specs.declared.copies.PatternCopy.{PatternCopy}
use Rattle.tk_patterns.specs.Fits.{fits, may_stand_between, are_near}
use Rattle.tk_patterns.specs.Copies.{all_copies}
use Rattle.tk_sequences.specs.declared.pattern.Pattern.{Pattern}
use Rattle.tk_sequences.specs.declared.sequence.Sequence.{Sequence}
use Rattle.tk_sequences.specs.declared.sequence.Sequence.TheVariants.{Physical, Virtual}

-- the history's events of one window, the newest first
abbrev pub earlier_at : ℕ → List Event → List Event
earlier_at number events = reverse (filter (λ event. event.number == number) events)

-- each is a release, or a press of a modifier key, that the pattern doesn't fit
abbrev pub MayStandBetween : Pattern → List Event → Type 0
MayStandBetween pattern [] = Unit {0}
MayStandBetween pattern (event ∷ events) = (fits pattern event ≡ false) × IsTrue (may_stand_between event) × MayStandBetween pattern events

-- a place for a copy among earlier events, the newest first: the event there, those between it and the later one, and those before it,
-- of which the copies before take theirs
pub record HasPlace (copy : PatternCopy) (before : List Event → Event → Type 0) (events : List Event) (later : Event) : Type 0 where
  pub between : List Event
  pub here : Event
  pub older : List Event
  pub events_are : events ≡ between ++ here ∷ older
  pub skipped : MayStandBetween copy.pattern between
  pub fitting : IsTrue (fits copy.pattern here)
  pub near : copy.again ≡ true → IsTrue (are_near copy.pattern.kind here later)
  pub rest : before older here

-- the copies have places among the events before a later one
abbrev pub HavePlaces : List PatternCopy → List Event → Event → Type 0
HavePlaces [] = λ events later. Unit {0}
HavePlaces (copy ∷ copies) = λ events later. HasPlace copy (HavePlaces copies) events later

-- the newest copy is for the event itself, and the others have places before it
abbrev pub EndsAt : List PatternCopy → List Event → Event → Type 0
EndsAt [] events event = ⊥
EndsAt (copy ∷ copies) events event = IsTrue (fits copy.pattern event) × HavePlaces copies events event

-- a sequence matches an event after a history; a virtual event is in none
abbrev pub Matches : Sequence → Event → List Event → Type 0
Matches (Physical patterns) event history = EndsAt (all_copies patterns) (earlier_at event.number history) event
Matches (Virtual name) event history = ⊥

-- ── the same as a test of every choice ──

-- a place among events, the newest first: the events between it and the later one, the event there, and those before it
pub record Place : Type 0 where
  pub between : List Event
  pub here : Event
  pub older : List Event

abbrev pub with_between : Event → Place → Place
with_between event place = record place { between = event ∷ place.between }

-- each place among events, one at each of them
abbrev pub places_in : List Event → List Place
places_in [] = []
places_in (event ∷ events) = record { between = []; here = event; older = events } ∷ map (with_between event) (places_in events)

-- whether an event is a release, or a press of a modifier key, that the pattern doesn't fit
abbrev pub is_skipped : Pattern → Event → Bool
is_skipped pattern event = not (fits pattern event) && may_stand_between event

-- whether a copy of a pattern is near the later one
abbrev pub is_near_enough : PatternCopy → Event → Event → Bool
is_near_enough copy here later = not copy.again || are_near copy.pattern.kind here later

abbrev pub is_place : PatternCopy → (List Event → Event → Bool) → Event → Place → Bool
is_place copy before later place = list_all (is_skipped copy.pattern) place.between && (fits copy.pattern place.here && (is_near_enough copy place.here later && before place.older place.here))

-- whether places can be chosen for the copies among the events before a later one
abbrev pub have_places : List PatternCopy → List Event → Event → Bool
have_places [] = λ events later. true
have_places (copy ∷ copies) = λ events later. list_any (is_place copy (have_places copies) later) (places_in events)

abbrev pub ends_at : List PatternCopy → List Event → Event → Bool
ends_at [] events event = false
ends_at (copy ∷ copies) events event = fits copy.pattern event && have_places copies events event

-- whether a sequence matches an event after a history
abbrev pub matches : Sequence → Event → List Event → Bool
matches (Physical patterns) event history = ends_at (all_copies patterns) (earlier_at event.number history) event
matches (Virtual name) event history = false
