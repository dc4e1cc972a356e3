-- Meaning. To whom a line goes, and as what.
use Rattle.std.specs.Prelude.{ℕ, ℤ, Bool, not, ◌&&◌, ◌||◌, ◌==◌, if◌then◌else◌, List, [], ◌∷◌, ◌++◌, map, filter, reverse, Option, Some, None, slice_get}
use Rattle.std.specs.Option.{option_eq}
use Rattle.tk_base.specs.declared.rect.Rect.{Rect}
use Rattle.tk_base.specs.declared.local_event.LocalEvent.{LocalEvent}
use Rattle.tk_base.specs.declared.local_event.LocalKind.{LocalKind}
use Rattle.tk_base.specs.declared.local_event.LocalKind.TheVariants.{Position, FocusIn, FocusOut, Size, Press as PressAt, Release as ReleaseAt, Keydown as KeydownOf, Keyup as KeyupOf}
use Rattle.tk_route.specs.Lines.{Line, values}
use Rattle.tk_route.specs.Buttons.{has, is_any_held}
use Rattle.tk_route.specs.Values.{Values, local, state_of, under}
use Rattle.tk_route.specs.declared.delivery.Delivery.{Delivery}
use Rattle.tk_route.specs.declared.delivery.Stamp.{Stamp}
use Rattle.tk_route.specs.declared.line.HostLine.{HostLine}
use Rattle.tk_route.specs.declared.line.HostLine.TheVariants.{Move, Press, Release, Keydown, Keyup, Focus, Rect as Placed}
use Rattle.tk_route.specs.declared.place.Place.{Place}

abbrev pub delivery : Stamp → ℕ → LocalKind → Delivery
delivery stamp slot kind = record { slot = slot; event = record { moment = stamp.moment; state = stamp.state; kind = kind } }

-- to an application, if there is one
abbrev pub to : Stamp → Option ℕ → LocalKind → List Delivery
to stamp None kind = []
to stamp (Some slot) kind = delivery stamp slot kind ∷ []

-- to an application, if there is one, with where the pointer is for it
abbrev pub to_place : Stamp → Option Place → (ℤ → ℤ → LocalKind) → List Delivery
to_place stamp None kind = []
to_place stamp (Some place) kind = delivery stamp place.slot (kind place.x place.y) ∷ []

abbrev pub to_pointer : Stamp → Values → Option ℕ → (ℤ → ℤ → LocalKind) → List Delivery
to_pointer stamp known slot kind = to_place stamp (local known.rects known.pointer slot) kind

abbrev pub is_same : Option ℕ → Option ℕ → Bool
is_same = option_eq (λ a b. a == b)

abbrev pub under_in : Values → Option ℕ
under_in known = under known.rects known.pointer

-- ---- the lines, by what is known before and after

-- A move goes to the application that has the held buttons. While none is held it goes to the one that the pointer leaves and to the one
-- that it is then in.
abbrev pub told_move : Stamp → Values → Values → List Delivery
told_move stamp before after =
    if is_any_held before.buttons then to_pointer stamp after before.holder Position
    else ((if is_same (under_in before) (under_in after) then [] else to_pointer stamp after (under_in before) Position)
    ++ to_pointer stamp after (under_in after) Position)

-- A press goes to the application that has the held buttons then: with the first press the one under the pointer. The press of a button that
-- is held goes to nobody.
abbrev pub told_press : ℕ → Stamp → Values → Values → List Delivery
told_press button stamp before after =
    if has button before.buttons then [] else to_pointer stamp after after.holder (PressAt button)

-- A release goes to the application that had the held buttons. With the last one the application under the pointer, if it is another, learns
-- where the pointer is. The release of a free button goes to nobody.
abbrev pub told_release : ℕ → Stamp → Values → Values → List Delivery
told_release button stamp before after =
    if not (has button before.buttons) then []
    else (to_pointer stamp after before.holder (ReleaseAt button)
    ++ (if is_any_held after.buttons || is_same before.holder (under_in after) then [] else to_pointer stamp after (under_in after) Position))

-- Other keys go to another application: the one that had them learns it, and the one that has them.
abbrev pub told_focus : Option ℕ → Stamp → Option ℕ → List Delivery
told_focus slot stamp before = if is_same before slot then [] else (to stamp before FocusOut ++ to stamp slot FocusIn)

-- The application of a rectangle learns its size where it has another. Then, while no button is held, it learns where the pointer is where
-- the application under the pointer has changed: only this one can have come or gone.
abbrev pub told_size : ℕ → Rect → Stamp → Option Rect → List Delivery
told_size slot rect stamp None = []
told_size slot rect stamp (Some before) =
    if before.width == rect.width && before.height == rect.height then [] else delivery stamp slot (Size rect.width rect.height) ∷ []

abbrev pub told_rect : ℕ → Rect → Stamp → Values → Values → List Delivery
told_rect slot rect stamp before after =
    told_size slot rect stamp (slice_get before.rects slot)
    ++ (if is_any_held before.buttons || is_same (under_in before) (under_in after) then [] else to_pointer stamp after (Some slot) Position)

abbrev pub told : HostLine → Stamp → Values → Values → List Delivery
told (Move x y) stamp before after = told_move stamp before after
told (Press button) stamp before after = told_press button stamp before after
told (Release button) stamp before after = told_release button stamp before after
told (Keydown key) stamp before after = to stamp before.focus (KeydownOf key)
told (Keyup key) stamp before after = to stamp before.focus (KeyupOf key)
told (Focus slot) stamp before after = told_focus slot stamp before.focus
told (Placed slot rect) stamp before after = told_rect slot rect stamp before after

-- ---- the lines, by the lines before them

-- An event has its line's moment, and the state before the line.
abbrev pub stamp_of : ℕ → Values → Stamp
stamp_of moment before = record { moment = moment; state = state_of before.keys before.buttons }

-- who gets a line that comes after these
abbrev pub routes : List Rect → List Line → Line → List Delivery
routes first earlier line =
    told line.line (stamp_of line.moment (values first earlier)) (values first earlier) (values first (line ∷ earlier))

-- what one application gets of some deliveries
abbrev pub events_of : ℕ → List Delivery → List LocalEvent
events_of slot given = map (λ delivery. delivery.event) (filter (λ delivery. delivery.slot == slot) given)

-- What one application gets of these lines. As the lines stand with the newest first, so do the events: those of a line, which come one after another,
-- are turned.
abbrev pub routed : List Rect → List Line → ℕ → List LocalEvent
routed first [] slot = []
routed first (line ∷ earlier) slot = reverse (events_of slot (routes first earlier line)) ++ routed first earlier slot
