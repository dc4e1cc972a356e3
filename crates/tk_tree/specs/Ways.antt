-- Meaning. The way from the main window to a window, and to the window at a point.
use Rattle.std.specs.Prelude.{ℕ, ◌+◌, ◌-◌, Bool, ◌==◌, ◌&&◌, nat_le, nat_lt, List, [], ◌∷◌, Option, Some, None, if◌then◌else◌, codes, reverse}
use Rattle.tk_tree.specs.declared.window.Window.{Window}
use Rattle.tk_tree.specs.Own.{Tree, at_path, is_child_of}

-- A window's number and those of its ancestors, the innermost first. The windows are given the newest first, so that a parent stands behind its children.
unfoldable pub way_up : Option ℕ → List Window → List ℕ
way_up None windows = []
way_up (Some number) [] = []
way_up (Some number) (window ∷ older) = if window.number == number then number ∷ way_up window.parent older else way_up (Some number) older

-- from the main window down to the window with a number; nothing where it is gone
abbrev pub way_to : ℕ → Tree → List ℕ
way_to number own = reverse (way_up (Some number) (reverse own.windows))

-- ── at a point ──

-- whether a mapped window has the point, which is told from its parent's corner: a window has its left and top edges, and not its right and bottom
abbrev pub has_point : ℕ → ℕ → Window → Bool
has_point x y window =
    window.mapped && (nat_le window.rectangle.x x && (nat_lt x (window.rectangle.x + window.rectangle.width)
    && (nat_le window.rectangle.y y && nat_lt y (window.rectangle.y + window.rectangle.height))))

-- the first way, unless it is empty
abbrev pub or_other : List ℕ → List ℕ → List ℕ
or_other [] other = other
or_other (number ∷ numbers) other = number ∷ numbers

-- The windows below the one with a number that have a point, told from its corner, each in the one before it. Of children the newest is above the others.
unfoldable pub at_point : ℕ → ℕ → ℕ → List Window → List ℕ
at_point number x y [] = []
at_point number x y (window ∷ newer) =
    if is_child_of number window && has_point x y window
    then or_other (at_point number x y newer) (window.number ∷ at_point window.number (x - window.rectangle.x) (y - window.rectangle.y) newer)
    else at_point number x y newer

-- from the main window, where it has the point
abbrev pub from_main : ℕ → ℕ → List Window → Option Window → List ℕ
from_main x y windows None = []
from_main x y windows (Some main) = if has_point x y main then main.number ∷ at_point main.number (x - main.rectangle.x) (y - main.rectangle.y) windows else []

-- the way to the deepest mapped window at a point
abbrev pub way_at : ℕ → ℕ → Tree → List ℕ
way_at x y own = from_main x y own.windows (at_path (codes ".") own)
