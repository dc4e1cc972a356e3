-- Meaning. Rectangles of pixels.
use Rattle.std.specs.Prelude.{ℕ, ◌+◌, ◌<◌, ◌≤◌}
use Rattle.tk_base.specs.declared.rect.Rect.{Rect}

-- the last pixel, across and down, that a rectangle begins at, and the most of a side
abbrev pub most_pixels : ℕ
most_pixels = 32767

-- the last pixel, across and down, that the pointer is at
abbrev pub last_place : ℕ
last_place = 65535

-- a place in a span, which holds where it starts and not where it ends
abbrev pub IsWithin : ℕ → ℕ → ℕ → Type 0
IsWithin start length place = (start ≤ place) × (place < start + length)

-- the pixel lies in the rectangle, which holds its left and top edges
abbrev pub HoldsPixel : Rect → ℕ → ℕ → Type 0
HoldsPixel rect x y = IsWithin rect.x rect.width x × IsWithin rect.y rect.height y

-- some place lies in both spans
abbrev pub Meet : ℕ → ℕ → ℕ → ℕ → Type 0
Meet start length other_start other_length = (place : ℕ) × IsWithin start length place × IsWithin other_start other_length place

-- some pixel lies in both
abbrev pub SharePixel : Rect → Rect → Type 0
SharePixel a b = (x : ℕ) × (y : ℕ) × HoldsPixel a x y × HoldsPixel b x y
