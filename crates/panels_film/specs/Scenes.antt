-- Meaning. The screen of a bench at a moment, to be drawn.
use Rattle.std.specs.Prelude.{◌≡◌, ℕ, ◌+◌, Bool, List, [], ◌∷◌, map, take, Option, Some, None, Vec, slice_get}
use Rattle.tk_base.specs.declared.rect.Rect.{Rect}
use Rattle.tk_session.specs.declared.session.AppBlock.{AppBlock}
use Rattle.tk_session.specs.declared.session.EventLine.{EventLine}
use Rattle.panels.specs.Gestures.{has_keys}
use Rattle.panels.specs.Shapes.{Drawn, shapes_of, shown}
use Rattle.panels.specs.declared.drawing.DrawnPanel.{DrawnPanel}
use Rattle.panels.specs.declared.drawing.DrawnWindow.{DrawnWindow}
use Rattle.panels.specs.declared.drawing.Scene.{Scene}
use Rattle.panels_film.specs.declared.film.Frame.{Frame}
use Rattle.panels.specs.declared.screen.Spot.{Spot}
use Rattle.panels_film.specs.Screens.{Known, after, at_first, holding, holding_lines, pixel}

-- the place of a window, and what its section tells of it
abbrev pub drawn : DrawnWindow → Drawn
drawn window = shown window.shape

-- a panel of a picture, but for its title and how its windows look
pub record Placed : Type 0 where
  pub rect : Rect
  pub has_keys : Bool
  pub windows : List Drawn

abbrev pub placed : DrawnPanel → Placed
placed panel = record { rect = panel.rect; has_keys = panel.has_keys; windows = map drawn panel.windows.items }

module _ {Z : Type 0} where
  abbrev pub bytes_of : Option (Vec ℕ Z) → List ℕ
  bytes_of None = []
  bytes_of (Some section) = section.items

  -- the section of the panel in a slot: empty where there is none
  abbrev pub section_in : List (Vec ℕ Z) → ℕ → List ℕ
  section_in sections slot = bytes_of (slice_get sections slot)

  -- a panel in its rectangle, with the windows of its section
  abbrev pub panel_in : List (Vec ℕ Z) → ℕ → Rect → Bool → Placed
  panel_in sections slot rect keys = record { rect = rect; has_keys = keys; windows = shapes_of (section_in sections slot) }

  -- the panels from a slot on, which are in these rectangles, where this one has the keyboard
  abbrev pub panels_from : Option ℕ → List (Vec ℕ Z) → ℕ → List Rect → List Placed
  panels_from keys sections slot [] = []
  panels_from keys sections slot (rect ∷ rects) = panel_in sections slot rect (has_keys slot keys) ∷ panels_from keys sections (slot + 1) rects

abbrev pub pointer_at : Option Spot → Option (ℕ × ℕ)
pointer_at None = None
pointer_at (Some spot) = Some (spot.x, spot.y)

-- what is known of the screen by the lines that came up to a frame
abbrev pub known_at : List AppBlock → List EventLine → Frame → Known
known_at panels events frame = after (take frame.count events) (at_first panels)

-- A screen holds the panels wherever the lines place them; each is in the rectangle that it has at that moment, with the windows of its section, and the
-- pointer and the keyboard are where the lines led them.
pub record IsScene (panels : List AppBlock) (events : List EventLine) (frame : Frame) (scene : Scene) : Type 0 where
  pub width_is : scene.width ≡ (holding_lines events (holding panels pixel)).width
  pub height_is : scene.height ≡ (holding_lines events (holding panels pixel)).height
  pub panels_are : map placed scene.panels.items ≡ panels_from (known_at panels events frame).keys frame.sections.items 0 (known_at panels events frame).rects
  pub pointer_is : scene.pointer ≡ pointer_at (known_at panels events frame).pointer
