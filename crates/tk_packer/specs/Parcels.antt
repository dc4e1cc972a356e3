-- Meaning. Where the packer places windows (pack(n)). Each window in turn takes a parcel from an edge of the cavity, which is what those before it
-- left of the master. A window at the left or the right takes a piece of the cavity's width and leaves its height as it is, one at the top or the
-- bottom the other way round: so each axis is laid out by itself.
use Rattle.std.specs.Prelude.{ℕ, ◌+◌, ◌-◌, ◌/◌, ◌<◌, ◌≤◌, min, max, ◌==◌, if◌then◌else◌, List, [], ◌∷◌, map, Option, Some, None, is_some, IfSome}
use Rattle.tk_base.specs.declared.rect.Rect.{Rect}
use Rattle.tk_packer.specs.declared.ask.Axis.{Axis}
use Rattle.tk_packer.specs.declared.ask.Axis.TheVariants.{Horizontal, Vertical}
use Rattle.tk_packer.specs.declared.ask.Edge.{Edge}
use Rattle.tk_packer.specs.declared.ask.Edge.TheVariants.{Near, Far}
use Rattle.tk_packer.specs.declared.ask.Align.{Align}
use Rattle.tk_packer.specs.declared.ask.Align.TheVariants.{ToNear, Centered, ToFar}
use Rattle.tk_packer.specs.declared.ask.Ask.{Ask}
use Rattle.tk_packer.specs.declared.parcel.Extent.{Extent}
use Rattle.tk_packer.specs.declared.request.Request.{Request}
use Rattle.tk_packer.specs.Ask.{ask_of, inner_length, outer_length}

-- ---- along one axis; the lists are of what is packed after the window

-- The share of one that expands, from what it leaves of the cavity: the least that falls to each of those that expand up to some place,
-- itself included. Such places are the end, and each window across, which has to have room beside them. Where there is too little room
-- it is 0.
unfoldable pub share : ℕ → ℕ → List Ask → ℕ
share left count [] = left / count
share left count (ask ∷ later) =
    if is_some ask.edge then share (left - outer_length ask) (if ask.expands then count + 1 else count) later
    else min ((left - outer_length ask) / count) (share left count later)

-- how much of the cavity its parcel takes: its size and pads, and the share, but no more than there is
abbrev pub taken : ℕ → Ask → List Ask → ℕ
taken cavity ask later =
    min cavity (outer_length ask + (if ask.expands then share (cavity - outer_length ask) 1 later else 0))

-- the first places of a span, its last ones, and what is left without either
abbrev pub first_of : Extent → ℕ → Extent
first_of span n = record { start = span.start; length = n }

abbrev pub last_of : Extent → ℕ → Extent
last_of span n = record { start = span.start + (span.length - n); length = n }

-- the parcel: at the window's edge, or the whole cavity across
abbrev pub parcel_at : Option Edge → Extent → ℕ → Extent
parcel_at None cavity n = cavity
parcel_at (Some Near) cavity n = first_of cavity n
parcel_at (Some Far) cavity n = last_of cavity n

-- the cavity of those packed after it
abbrev pub cavity_after : Option Edge → Extent → ℕ → Extent
cavity_after None cavity n = cavity
cavity_after (Some Near) cavity n = last_of cavity (cavity.length - n)
cavity_after (Some Far) cavity n = first_of cavity (cavity.length - n)

-- how much of the spare room lies before the window
abbrev pub spare_before : Align → ℕ → ℕ
spare_before ToNear spare = 0
spare_before Centered spare = spare / 2
spare_before ToFar spare = spare

-- the window in its parcel: within the pads, no longer than it is unless it fills; nowhere where no pixel is left for it
abbrev pub aligned : Ask → ℕ → ℕ → ℕ → Option Extent
aligned ask start room length =
    if length == 0 then None else Some (record { start = start + spare_before ask.align (room - length); length = length })

abbrev pub length_in : Ask → ℕ → ℕ
length_in ask room = if ask.fills then room else min (inner_length ask) room

abbrev pub span_in : Ask → Extent → Option Extent
span_in ask parcel =
    let room = parcel.length - (ask.before + ask.after) in
    aligned ask (parcel.start + ask.before) room (length_in ask room)

unfoldable pub span_packed : Extent → Ask → List Ask → Option Extent
span_packed cavity ask later = span_in ask (parcel_at ask.edge cavity (taken cavity.length ask later))

unfoldable pub remaining : Extent → Ask → List Ask → Extent
remaining cavity ask later = cavity_after ask.edge cavity (taken cavity.length ask later)

-- ---- both axes

abbrev pub rect_of : Option Extent → Option Extent → Option Rect
rect_of (Some across) (Some down) =
    Some (record { x = across.start; y = down.start; width = across.length; height = down.length })
rect_of (Some across) None = None
rect_of None down = None

abbrev pub asks_of : Axis → List Request → List Ask
asks_of axis requests = map (ask_of axis) requests

-- the windows of these requests, packed in this order into the cavity of these columns and rows
unfoldable pub packed : Extent → Extent → List Request → List (Option Rect)
packed columns rows [] = []
packed columns rows (request ∷ later) =
    rect_of (span_packed columns (ask_of Horizontal request) (asks_of Horizontal later)) (span_packed rows (ask_of Vertical request) (asks_of Vertical later))
    ∷ packed (remaining columns (ask_of Horizontal request) (asks_of Horizontal later))
    (remaining rows (ask_of Vertical request) (asks_of Vertical later)) later

-- a cavity of a width and a height, all of it free
abbrev pub arrangement : ℕ × ℕ → List Request → List (Option Rect)
arrangement size requests = packed (record { start = 0; length = size.0 }) (record { start = 0; length = size.1 }) requests

-- a window that is mapped lies inside a cavity of a size, and has a pixel
pub record IsInside (size : ℕ × ℕ) (rect : Rect) : Type 0 where
  pub right : rect.x + rect.width ≤ size.0
  pub bottom : rect.y + rect.height ≤ size.1
  pub width : 0 < rect.width
  pub height : 0 < rect.height

abbrev pub LiesIn : ℕ × ℕ → Option Rect → Type 0
LiesIn size place = IfSome place (IsInside size)

-- ---- the room that is asked for

-- the least length that has room for all: a window takes its own from what those after it have, and one across is beside them
unfoldable pub wanted : List Ask → ℕ
wanted [] = 0
wanted (ask ∷ later) = if is_some ask.edge then outer_length ask + wanted later else max (outer_length ask) (wanted later)

-- no window asks for more
abbrev pub most_wanted : ℕ
most_wanted = 2147483647

abbrev pub size_wanted : List Request → ℕ × ℕ
size_wanted requests =
    (min (wanted (asks_of Horizontal requests)) most_wanted, min (wanted (asks_of Vertical requests)) most_wanted)
