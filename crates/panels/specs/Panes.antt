-- Meaning. What is seen of windows, and where a press reaches one of them. A window is told by its line in a section:
-- `win PATH CLASS X Y WIDTH HEIGHT MAPPED`, and what it shows.
use Rattle.std.specs.Prelude.{ℕ, ◌+◌, ◌/◌, Bool, ◌&&◌, nat_le, nat_lt, max, min, if◌then◌else◌, List, [], ◌∷◌, ◌++◌, drop, codes, Option, Some, None, position, slice_get}
use Rattle.std.specs.Option.{unwrap_or}
use Rattle.std.specs.Str.{bytes_eq}
use Rattle.std.specs.String.{string_bytes}
use Rattle.panels.specs.Words.{before_last, lines_with, number_at, word}
use Rattle.panels.specs.declared.bench.Target.{Target}
use Rattle.panels.specs.declared.pane.Pane.{Pane}
use Rattle.panels.specs.declared.pane.Point.{Point}
use Rattle.panels.specs.declared.pane.Landing.{Landing}
use Rattle.panels.specs.declared.pane.Landing.TheVariants.{At, Missed}
use Rattle.panels.specs.declared.pane.Miss.TheVariants.{NoWindow, Hidden, Covered}

-- a sum that stops at the largest number of 64 bits
abbrev pub bounded_sum : ℕ → ℕ → ℕ
bounded_sum a b = min (a + b) 18446744073709551615

-- what is shown of a window has its left and top edges, and not its right and bottom ones
abbrev pub has_point : ℕ → ℕ → Pane → Bool
has_point x y pane = nat_le pane.left x && (nat_lt x pane.right && (nat_le pane.top y && nat_lt y pane.bottom))

-- A window in its parent: its corner, from which it has its size, as far as its parent is shown; nothing where it isn't mapped.
abbrev pub pane_below : Bool → ℕ → ℕ → ℕ → ℕ → Pane → Pane
pane_below mapped x y width height parent = record {
  x = bounded_sum parent.x x;
  y = bounded_sum parent.y y;
  left = max parent.left (bounded_sum parent.x x);
  top = max parent.top (bounded_sum parent.y y);
  right = if mapped then min parent.right (bounded_sum (bounded_sum parent.x x) width) else max parent.left (bounded_sum parent.x x);
  bottom = min parent.bottom (bounded_sum (bounded_sum parent.y y) height);
}

-- all that a panel shows at most
abbrev pub screen : Pane
screen = record { x = 0; y = 0; left = 0; top = 0; right = 65536; bottom = 65536 }

abbrev pub is_mapped : List ℕ → Bool
is_mapped line = bytes_eq (word 7 line) (codes "1")

abbrev pub pane_in : List ℕ → Pane → Pane
pane_in line parent = pane_below (is_mapped line) (number_at 3 line) (number_at 4 line) (number_at 5 line) (number_at 6 line) parent

-- the number of the line that tells a window
abbrev pub index_of : List ℕ → List (List ℕ) → Option ℕ
index_of path lines = position (λ line. bytes_eq (word 1 line) path) lines

abbrev pub or_main : List ℕ → List ℕ
or_main [] = codes "."
or_main (b ∷ bs) = b ∷ bs

-- the path of the parent; of the main window its own
abbrev pub parent_of : List ℕ → List ℕ
parent_of path = or_main (before_last 46 path)

abbrev pub pane_or_screen : Option ℕ → List Pane → Pane
pane_or_screen None panes = screen
pane_or_screen (Some index) panes = unwrap_or (slice_get panes index) screen

-- the pane of a window's parent, among those of the lines before
abbrev pub parent_pane : List (List ℕ) → List Pane → List ℕ → Pane
parent_pane lines panes path = pane_or_screen (index_of (parent_of path) lines) panes

-- the panes of lines behind those whose panes are known
abbrev pub panes_from : List (List ℕ) → List Pane → List (List ℕ) → List Pane
panes_from lines panes [] = panes
panes_from lines panes (line ∷ rest) = panes_from lines (panes ++ pane_in line (parent_pane lines panes (word 1 line)) ∷ []) rest

-- The pane of each window, in its parent's, which stands before it.
abbrev pub panes_of : List (List ℕ) → List Pane
panes_of lines = panes_from lines [] lines

abbrev pub middle_of : ℕ → ℕ → Pane → Point
middle_of width height pane = record { x = bounded_sum pane.x (width / 2); y = bounded_sum pane.y (height / 2) }

abbrev pub place_or : ℕ → ℕ → Option ℕ → ℕ
place_or corner middle None = middle
place_or corner middle (Some inside) = bounded_sum corner inside

-- the point of a target: where it says none, the middle of its window
abbrev pub point_in : Target → Pane → List ℕ → Point
point_in target pane line =
    let middle = middle_of (number_at 5 line) (number_at 6 line) pane in
    record { x = place_or pane.x middle.x target.x; y = place_or pane.y middle.y target.y }

abbrev pub unless_covered : Point → Option ℕ → Landing
unless_covered point None = At point
unless_covered point (Some place) = Missed (Covered place)

-- a point is in a window and in none of those above it
abbrev pub aimed : Point → Pane → List Pane → Landing
aimed point pane above = if has_point point.x point.y pane then unless_covered point (position (has_point point.x point.y) above) else Missed Hidden

abbrev pub aimed_from : Target → Option (List ℕ) → List Pane → Landing
aimed_from target None panes = Missed NoWindow
aimed_from target (Some line) [] = Missed NoWindow
aimed_from target (Some line) (pane ∷ above) = aimed (point_in target pane line) pane above

abbrev pub landing_in : Target → List (List ℕ) → Option ℕ → Landing
landing_in target lines None = Missed NoWindow
landing_in target lines (Some index) = aimed_from target (slice_get lines index) (drop index (panes_of lines))

-- Where a gesture lands: at its point, if that lies in what is shown of the window and in no window above it, all of which stand behind it.
abbrev pub landing_at : Target → List (List ℕ) → Landing
landing_at target lines = landing_in target lines (index_of (string_bytes target.window) lines)

-- the lines that tell the windows of a section
abbrev pub windows_in : List ℕ → List (List ℕ)
windows_in section = lines_with (codes "win") section
