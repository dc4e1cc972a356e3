-- Meaning. The ranges of what an application is given: the size of its rectangle, and the events that are routed to it. Those of a session lie in them.
use Rattle.std.specs.Prelude.{ℕ, ℤ, pos, neg_ℤ, ◌≤◌, ◌≤ℤ◌}
use Rattle.tk_base.specs.Rect.{last_place, most_pixels}
use Rattle.tk_base.specs.declared.local_event.LocalEvent.{LocalEvent}
use Rattle.tk_base.specs.declared.local_event.LocalKind.{LocalKind}
use Rattle.tk_base.specs.declared.local_event.LocalKind.TheVariants.{Position, Press, Release, Size}

-- the width and the height of a rectangle
abbrev pub IsSize : ℕ → ℕ → Type 0
IsSize width height = (width ≤ most_pixels) × (height ≤ most_pixels)

-- a place of the pointer along one axis, from where a rectangle on the screen begins: -32767 to 65535
abbrev pub IsPlace : ℤ → Type 0
IsPlace place = (neg_ℤ (pos most_pixels) ≤ℤ place) × (place ≤ℤ pos last_place)

-- a button of the pointer
abbrev pub IsButton : ℕ → Type 0
IsButton button = (1 ≤ button) × (button ≤ 5)

abbrev pub IsKindInRange : LocalKind → Type 0
IsKindInRange (Position x y) = IsPlace x × IsPlace y
IsKindInRange (Press button x y) = IsButton button × IsPlace x × IsPlace y
IsKindInRange (Release button x y) = IsButton button × IsPlace x × IsPlace y
IsKindInRange (Size width height) = IsSize width height
IsKindInRange kind = Unit {0}

-- the numbers of the event lie in these ranges
abbrev pub IsEventInRange : LocalEvent → Type 0
IsEventInRange event = IsKindInRange event.kind
