-- Meaning. The windows of a panel, to be drawn.
use Rattle.std.specs.Prelude.{ℕ, ◌+◌, List, [], ◌∷◌, slice_get}
use Rattle.std.specs.Option.{unwrap_or}
use Rattle.panels.specs.declared.pane.Pane.{Pane}
use Rattle.panels.specs.declared.shape.Shape.{Shape}
use Rattle.panels.specs.Panes.{panes_of, screen, windows_in}
use Rattle.panels.specs.Words.{after, number_at, word}

-- a window that is drawn: what its line tells, and its pane
pub record Drawn : Type 0 where
  pub path : List ℕ
  pub class : List ℕ
  pub value : List ℕ
  pub width : ℕ
  pub height : ℕ
  pub pane : Pane

abbrev pub shown : Shape → Drawn
shown shape = record {
  path = shape.path.items;
  class = shape.class.items;
  value = shape.value.items;
  width = shape.width;
  height = shape.height;
  pane = record { x = shape.x; y = shape.y; left = shape.left; top = shape.top; right = shape.right; bottom = shape.bottom };
}

abbrev pub shape_in : List ℕ → Pane → Drawn
shape_in line pane =
    record { path = word 1 line; class = word 2 line; value = after 8 line; width = number_at 5 line; height = number_at 6 line; pane = pane }

-- the pane of the window of a number
abbrev pub pane_at : List Pane → ℕ → Pane
pane_at panes number = unwrap_or (slice_get panes number) screen

-- the windows of lines, whose panes are those from a number on
abbrev pub shapes_from : List Pane → ℕ → List (List ℕ) → List Drawn
shapes_from panes number [] = []
shapes_from panes number (line ∷ lines) = shape_in line (pane_at panes number) ∷ shapes_from panes (number + 1) lines

-- The windows that a section tells, each with its place in its parent's.
abbrev pub shapes_of : List ℕ → List Drawn
shapes_of section = shapes_from (panes_of (windows_in section)) 0 (windows_in section)
