-- A window's earlier events, the newest first, and the nearest that a pattern fits.
use Rattle.std.proofs.Common.{◌≡◌, ℕ, ◌+◌, ◌-◌, ◌<◌, Bool, true, false, cond, List, [], ◌∷◌, ◌++◌, take, Some, None, slice_get, get_or, refl, sym, ap, ◌∙◌, arith}
use Rattle.std.specs.Prelude.{◌==◌, filter, reverse}
use Rattle.std.proofs.lemmas.List.{reverse-append}
use Rattle.std.proofs.lemmas.List.Elements.{filter_more}
use Rattle.std.proofs.lemmas.Option.{slice_get_within, get_or_from_slice_get}
use Rattle.tk_sequences.specs.declared.event.Event.{Event}
use Rattle.tk_patterns.specs.Fits.{fits, may_stand_between}
use Rattle.tk_patterns.specs.Matches.{earlier_at}
use Rattle.tk_patterns.specs.Walk.{nearest}
use Rattle.tk_sequences.specs.declared.pattern.Pattern.{Pattern}

-- one event more is the newest
abbrev newest : Bool → Event → List Event → List Event
newest own event events = reverse (events ++ cond own (event ∷ []) [])

newest_own : (event : Event) (events : List Event) → newest true event events ≡ event ∷ reverse events
newest_own event events = reverse-append events (event ∷ [])

newest_other : (event : Event) (events : List Event) → newest false event events ≡ reverse events
newest_other event events = reverse-append events []

one_more : (number place : ℕ) (events : List Event) (event : Event) → slice_get events place ≡ Some event → earlier_at number (take (place + 1) events) ≡ newest (event.number == number) event (filter (λ e. e.number == number) (take place events))
one_more number place events event there =
    let same : get_or events place event ≡ event = get_or_from_slice_get events place event event there in
    ap reverse (filter_more (λ e. e.number == number) events place event (slice_get_within events place event there))
    ∙ ap (λ e. newest (e.number == number) e (filter (λ e. e.number == number) (take place events))) same

at_place : (place : ℕ) → 0 < place → (place - 1) + 1 ≡ place
at_place place above = omega arith

-- the event before a place is the newest of its number, or isn't of it
earlier_by : (number place : ℕ) (events : List Event) (event : Event) (b : Bool) → 0 < place → slice_get events (place - 1) ≡ Some event → (event.number == number) ≡ b
    → earlier_at number (take place events) ≡ newest b event (filter (λ e. e.number == number) (take (place - 1) events))
earlier_by number place events event b above there is =
    ap (λ n. earlier_at number (take n events)) (sym (at_place place above))
    ∙ one_more number (place - 1) events event there
    ∙ ap (λ b. newest b event (filter (λ e. e.number == number) (take (place - 1) events))) is

pub earlier_own : (number place : ℕ) (events : List Event) (event : Event) → 0 < place → slice_get events (place - 1) ≡ Some event → (event.number == number) ≡ true
    → earlier_at number (take place events) ≡ event ∷ earlier_at number (take (place - 1) events)
earlier_own number place events event above there own =
    earlier_by number place events event true above there own ∙ newest_own event (filter (λ e. e.number == number) (take (place - 1) events))

pub earlier_other : (number place : ℕ) (events : List Event) (event : Event) → 0 < place → slice_get events (place - 1) ≡ Some event → (event.number == number) ≡ false
    → earlier_at number (take place events) ≡ earlier_at number (take (place - 1) events)
earlier_other number place events event above there other =
    earlier_by number place events event false above there other ∙ newest_other event (filter (λ e. e.number == number) (take (place - 1) events))

-- ── the nearest ──
pub nearest_here : (pattern : Pattern) (event : Event) (events : List Event) → fits pattern event ≡ true → nearest pattern (event ∷ events) ≡ Some (event, events)
nearest_here pattern event events is = rw is refl

pub nearest_none : (pattern : Pattern) (event : Event) (events : List Event) → fits pattern event ≡ false → may_stand_between event ≡ false → nearest pattern (event ∷ events) ≡ None
nearest_none pattern event events not_here ends = rw (not_here, ends) refl

pub nearest_past : (pattern : Pattern) (event : Event) (events : List Event) → fits pattern event ≡ false → may_stand_between event ≡ true → nearest pattern (event ∷ events) ≡ nearest pattern events
nearest_past pattern event events not_here skips = rw (not_here, skips) refl

-- ── at a place of the history ──
pub found_at : (pattern : Pattern) (number place : ℕ) (events : List Event) (event : Event) → 0 < place → slice_get events (place - 1) ≡ Some event → (event.number == number) ≡ true → fits pattern event ≡ true
    → nearest pattern (earlier_at number (take place events)) ≡ Some (event, earlier_at number (take (place - 1) events))
found_at pattern number place events event above there own is =
    ap (nearest pattern) (earlier_own number place events event above there own) ∙ nearest_here pattern event (earlier_at number (take (place - 1) events)) is

pub none_at : (pattern : Pattern) (number place : ℕ) (events : List Event) (event : Event) → 0 < place → slice_get events (place - 1) ≡ Some event → (event.number == number) ≡ true → fits pattern event ≡ false → may_stand_between event ≡ false
    → nearest pattern (earlier_at number (take place events)) ≡ None
none_at pattern number place events event above there own not_here ends =
    ap (nearest pattern) (earlier_own number place events event above there own) ∙ nearest_none pattern event (earlier_at number (take (place - 1) events)) not_here ends

pub past_at : (pattern : Pattern) (number place : ℕ) (events : List Event) (event : Event) → 0 < place → slice_get events (place - 1) ≡ Some event → (event.number == number) ≡ true → fits pattern event ≡ false → may_stand_between event ≡ true
    → nearest pattern (earlier_at number (take place events)) ≡ nearest pattern (earlier_at number (take (place - 1) events))
past_at pattern number place events event above there own not_here skips =
    ap (nearest pattern) (earlier_own number place events event above there own) ∙ nearest_past pattern event (earlier_at number (take (place - 1) events)) not_here skips

pub other_at : (pattern : Pattern) (number place : ℕ) (events : List Event) (event : Event) → 0 < place → slice_get events (place - 1) ≡ Some event → (event.number == number) ≡ false
    → nearest pattern (earlier_at number (take place events)) ≡ nearest pattern (earlier_at number (take (place - 1) events))
other_at pattern number place events event above there other = ap (nearest pattern) (earlier_other number place events event above there other)
