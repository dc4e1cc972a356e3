-- Meaning. Rectangles on the screen, and points in them.
use Rattle.std.specs.Prelude.{◌≡◌, ℕ, ◌+◌, ◌≤◌, max, min, Bool, true, not, ◌&&◌, ◌==◌, nat_le, nat_lt, List, [], ◌∷◌, Option, Some, position, slice_get}
use Rattle.std.specs.List.{enumerate_from, list_any}
use Rattle.tk_base.specs.Rect.{last_place, most_pixels}
use Rattle.tk_base.specs.declared.rect.Rect.{Rect}
use Rattle.tk_route.specs.declared.place.Point.{Point}

-- the rectangle's numbers lie in the ranges of a session
abbrev pub IsOnScreen : Rect → Type 0
IsOnScreen rect =
    (rect.x ≤ most_pixels) × (rect.y ≤ most_pixels) × (1 ≤ rect.width) × (rect.width ≤ most_pixels) × (1 ≤ rect.height) × (rect.height ≤ most_pixels)

-- a span holds where it starts, and not where it ends
abbrev pub is_within : ℕ → ℕ → ℕ → Bool
is_within start length place = nat_le start place && nat_lt place (start + length)

-- the point lies in the rectangle, which holds its left and top edges
abbrev pub holds : Rect → Point → Bool
holds rect point = is_within rect.x rect.width point.x && is_within rect.y rect.height point.y

-- the slot of the rectangle at a point
abbrev pub slot_at : List Rect → Point → Option ℕ
slot_at rects point = position (λ rect. holds rect point) rects

-- some place lies in both spans
abbrev pub do_meet : ℕ → ℕ → ℕ → ℕ → Bool
do_meet start length other_start other_length = nat_lt (max start other_start) (min (start + length) (other_start + other_length))

-- some pixel lies in both rectangles, as a test
abbrev pub shares_pixel : Rect → Rect → Bool
shares_pixel rect other = do_meet rect.x rect.width other.x other.width && do_meet rect.y rect.height other.y other.height

-- no two share a pixel
abbrev pub are_apart : List Rect → Bool
are_apart [] = true
are_apart (rect ∷ rects) = not (list_any (λ other. shares_pixel rect other) rects) && are_apart rects

-- a rectangle shares a pixel with that of another slot
abbrev pub shares_with_another : List Rect → ℕ → Rect → Bool
shares_with_another rects slot rect =
    list_any (λ numbered. not (numbered.0 == slot) && shares_pixel numbered.1 rect) (enumerate_from 0 rects)

-- the rectangle of this slot, if it is one, begins where the pointer can be
abbrev pub BeginsOnScreen : List Rect → Option ℕ → Type 0
BeginsOnScreen rects slot = (at : ℕ) → slot ≡ Some at → (rect : Rect) → slice_get rects at ≡ Some rect → (rect.x ≤ last_place) × (rect.y ≤ last_place)
