-- Steps. How the events of a long queue are kept.
use Rattle.std.specs.Prelude.{ℤ, pos, Bool, true, false, List, ◌++◌, Some}
use Rattle.std.specs.List.{flat_map}
use Rattle.tk_sequences.specs.declared.event.Event.{Event}
use Rattle.tk_dispatch.specs.declared.queued.Common.{Common}
use Rattle.tk_dispatch.specs.declared.queued.Place.{Place}

-- an event that tells where its window lies and how large it is
abbrev pub with_place : Place → Event → Event
with_place place event = record event { x = Some (pos place.x); y = Some (pos place.y); width = Some place.width; height = Some place.height }

abbrev pub placed_by : Bool → Place → Event → Event
placed_by true place event = with_place place event
placed_by false place event = event

-- the event of what is kept of it
abbrev pub event_of : Common → Place → Event
event_of common place = placed_by common.is_placed place common.event

-- the events of pages, one page behind another
abbrev pub in_pages : List (List Event) → List Event
in_pages pages = flat_map (λ page. page) pages

-- the events of all pages: of the first one, of those between, and of the last one
abbrev pub all_events : List Event → List (List Event) → List Event → List Event
all_events first between last = first ++ in_pages between ++ last
