-- Meaning. What the lines of a session say. Each list of lines stands with the newest line first.
use Rattle.std.specs.Prelude.{ℕ, Bool, false, not, ◌&&◌, ◌||◌, ◌==◌, if◌then◌else◌, List, [], ◌∷◌, Option, Some, None, slice_set}
use Rattle.tk_base.specs.declared.rect.Rect.{Rect}
use Rattle.tk_base.specs.Names as names
use Rattle.tk_route.specs.Values.{Values, under}
use Rattle.tk_route.specs.declared.line.HostLine.{HostLine}
use Rattle.tk_route.specs.declared.line.HostLine.TheVariants.{Move, Press, Release, Keydown, Keyup, Focus, Rect as Placed}
use Rattle.tk_route.specs.declared.place.Point.{Point}

-- a line at its moment
pub record Line : Type 0 where
  pub moment : ℕ
  pub line : HostLine

abbrev pub at : ℕ → HostLine → Line
at moment line = record { moment = moment; line = line }

-- the moment reached
abbrev pub moment_after : List Line → ℕ
moment_after [] = 0
moment_after (last ∷ earlier) = last.moment

-- where the pointer is: where the latest move led it, nowhere before the first
abbrev pub pointer_by : HostLine → Option Point → Option Point
pointer_by (Move x y) before = Some (record { x = x; y = y })
pointer_by line before = before

abbrev pub pointer_after : List Line → Option Point
pointer_after [] = None
pointer_after (last ∷ earlier) = pointer_by last.line (pointer_after earlier)

-- a button is held where its latest press or release was a press
abbrev pub is_held_by : ℕ → HostLine → Bool → Bool
is_held_by button (Press pressed) before = before || pressed == button
is_held_by button (Release released) before = before && not (released == button)
is_held_by button line before = before

abbrev pub is_held : ℕ → List Line → Bool
is_held button [] = false
is_held button (last ∷ earlier) = is_held_by button last.line (is_held button earlier)

abbrev pub is_any_held_after : List Line → Bool
is_any_held_after lines = is_held 1 lines || is_held 2 lines || is_held 3 lines || is_held 4 lines || is_held 5 lines

-- a key is down where its latest line was a keydown
abbrev pub is_down_by : ℕ → HostLine → Bool → Bool
is_down_by key (Keydown pressed) before = before || pressed == key
is_down_by key (Keyup released) before = before && not (released == key)
is_down_by key line before = before

abbrev pub is_down : ℕ → List Line → Bool
is_down key [] = false
is_down key (last ∷ earlier) = is_down_by key last.line (is_down key earlier)

-- capitals are locked after one keydown of Caps_Lock, free after two, and so on
abbrev pub is_locked_by : HostLine → Bool → Bool
is_locked_by (Keydown key) before = if key == names.caps_lock then not before else before
is_locked_by line before = before

abbrev pub is_locked : List Line → Bool
is_locked [] = false
is_locked (last ∷ earlier) = is_locked_by last.line (is_locked earlier)

-- the keys go where the latest focus line says, at first to nobody
abbrev pub focus_by : HostLine → Option ℕ → Option ℕ
focus_by (Focus slot) before = slot
focus_by line before = before

abbrev pub focus_after : List Line → Option ℕ
focus_after [] = None
focus_after (last ∷ earlier) = focus_by last.line (focus_after earlier)

-- the rectangles by slot: each is that of its latest line, at first the one that its application came with
abbrev pub rects_by : HostLine → List Rect → List Rect
rects_by (Placed slot rect) before = slice_set before slot rect
rects_by line before = before

abbrev pub rects_after : List Rect → List Line → List Rect
rects_after first [] = first
rects_after first (last ∷ earlier) = rects_by last.line (rects_after first earlier)

-- the application under the pointer
abbrev pub under_after : List Rect → List Line → Option ℕ
under_after first lines = under (rects_after first lines) (pointer_after lines)

-- The application that has the held buttons: the one that was under the pointer before the press since which some button has been held
-- without a gap. None has them while all are free.
abbrev pub holder_after : List Rect → List Line → Option ℕ
holder_after first [] = None
holder_after first (last ∷ earlier) =
    if not (is_any_held_after (last ∷ earlier)) then None
    else (if is_any_held_after earlier then holder_after first earlier else under_after first earlier)

-- all that the lines say, where the applications came with these rectangles
abbrev pub values : List Rect → List Line → Values
values first lines = record {
  rects = rects_after first lines;
  moment = moment_after lines;
  pointer = pointer_after lines;
  buttons = record {
    first = is_held 1 lines;
    second = is_held 2 lines;
    third = is_held 3 lines;
    fourth = is_held 4 lines;
    fifth = is_held 5 lines;
  };
  holder = holder_after first lines;
  focus = focus_after lines;
  keys = record {
    shift_left = is_down names.shift_left lines;
    shift_right = is_down names.shift_right lines;
    control_left = is_down names.control_left lines;
    control_right = is_down names.control_right lines;
    alt_left = is_down names.alt_left lines;
    alt_right = is_down names.alt_right lines;
    lock = is_locked lines;
  };
}
