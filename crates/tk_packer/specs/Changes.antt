-- Meaning. What a layout changes, in the order of the windows.
use Rattle.std.specs.Prelude.{Bool, true, false, ◌==◌, ◌&&◌, if◌then◌else◌, List, [], ◌∷◌, ◌++◌, Option, None, Some}
use Rattle.tk_base.specs.declared.rect.Rect.{Rect}
use Rattle.tk_packer.specs.declared.shape.Shape.{Shape}
use Rattle.tk_packer.specs.declared.changes.PlaceChange.{PlaceChange}
use Rattle.tk_packer.specs.declared.changes.PlaceChange.TheVariants.{Unmap, Configure, Map}

abbrev pub is_same_rect : Rect → Rect → Bool
is_same_rect a b = (a.x == b.x) && ((a.y == b.y) && ((a.width == b.width) && (a.height == b.height)))

-- a window that gets a rectangle: Configure where that is another than it had, and Map where it wasn't mapped
abbrev pub configured : Shape → Rect → List PlaceChange
configured shape rect = if is_same_rect shape.rectangle rect then [] else Configure shape.number rect ∷ []

abbrev pub mapped : Shape → List PlaceChange
mapped shape = if shape.mapped then [] else Map shape.number ∷ []

-- one that gets none keeps its last rectangle
abbrev pub changes_at : Shape → Option Rect → List PlaceChange
changes_at shape None = if shape.mapped then Unmap shape.number ∷ [] else []
changes_at shape (Some rect) = configured shape rect ++ mapped shape

unfoldable pub changes_of : List Shape → List (Option Rect) → List PlaceChange
changes_of [] places = []
changes_of (shape ∷ shapes) [] = []
changes_of (shape ∷ shapes) (place ∷ places) = changes_at shape place ++ changes_of shapes places

-- ---- the windows after the changes

abbrev pub laid : Shape → Option Rect → Shape
laid shape None = record shape { mapped = false }
laid shape (Some rect) = record shape { rectangle = rect; mapped = true }

unfoldable pub laid_out_shapes : List Shape → List (Option Rect) → List Shape
laid_out_shapes [] places = []
laid_out_shapes (shape ∷ shapes) [] = shape ∷ shapes
laid_out_shapes (shape ∷ shapes) (place ∷ places) = laid shape place ∷ laid_out_shapes shapes places

-- a window as it is before it is laid out
abbrev pub unlaid : Shape → Shape
unlaid shape = record shape { rectangle = record { x = 0; y = 0; width = 1; height = 1 }; mapped = false }
