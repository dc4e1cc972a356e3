-- Meaning. Where the windows of one application lie, from nothing (pack(n)): the main window fills the application's rectangle, and the slaves of
-- each window that is mapped are arranged inside its border.
use Rattle.std.specs.Prelude.{ℕ, ◌+◌, ◌-◌, nat_eq, List, [], ◌∷◌, Option, None, Some}
use Rattle.std.specs.Map.{lookup}
use Rattle.tk_base.specs.declared.rect.Rect.{Rect}
use Rattle.tk_packer.specs.declared.shape.Shape.{Shape}
use Rattle.tk_packer.specs.declared.packed.Packed.{Packed}
use Rattle.tk_packer.specs.Packs.{slaves_of}
use Rattle.tk_packer.specs.Parcels.{arrangement}
use Rattle.tk_packer.specs.Asked.{Sizes, requests_of, sizes_asked}

-- the rectangles that windows got, by their numbers
abbrev pub Places : Type 0
Places = List (ℕ × Rect)

-- the room inside a border
abbrev pub cavity_of : Rect → ℕ → ℕ × ℕ
cavity_of rect border = (rect.width - border - border, rect.height - border - border)

-- a rectangle that counts from the inside of a border, counted from the outside
abbrev pub counted_outside : ℕ → Rect → Rect
counted_outside border rect = record rect { x = rect.x + border; y = rect.y + border }

-- a slave that has a pixel gets its rectangle
abbrev pub with_place : ℕ → ℕ → Option Rect → Places → Places
with_place border number None given = given
with_place border number (Some rect) given = (number, counted_outside border rect) ∷ given

-- so do those of a master
unfoldable pub give : ℕ → List Packed → List (Option Rect) → Places → Places
give border [] places given = given
give border (packed ∷ slaves) [] given = given
give border (packed ∷ slaves) (place ∷ places) given = give border slaves places (with_place border packed.number place given)

-- what a window's slaves get: nothing where it isn't mapped itself
unfoldable pub given_after : (ℕ → List Packed) → Sizes → Shape → Option Rect → Places → Places
given_after slaves sizes shape None given = given
given_after slaves sizes shape (Some rect) given =
    give shape.border (slaves shape.number) (arrangement (cavity_of rect shape.border) (requests_of sizes (slaves shape.number))) given

-- the rectangle of each window, or none for one that isn't mapped, where each stands before its slaves
unfoldable pub placed : (ℕ → List Packed) → Sizes → Places → List Shape → List (Option Rect)
placed slaves sizes given [] = []
placed slaves sizes given (shape ∷ shapes) =
    lookup (nat_eq shape.number) given
    ∷ placed slaves sizes (given_after slaves sizes shape (lookup (nat_eq shape.number) given) given) shapes

-- the first window, which is the main window, fills the application's rectangle
abbrev pub whole_of : ℕ × ℕ → Rect
whole_of size = record { x = 0; y = 0; width = size.0; height = size.1 }

abbrev pub first_place : ℕ × ℕ → List Shape → Places
first_place size [] = []
first_place size (main ∷ shapes) = (main.number, whole_of size) ∷ []

abbrev pub layout_by : (ℕ → List Packed) → ℕ × ℕ → List Shape → List (Option Rect)
layout_by slaves size shapes = placed slaves (sizes_asked slaves shapes) (first_place size shapes) shapes

-- the layout of windows, of which each stands before those below it, with what is packed in them
abbrev pub layout : ℕ × ℕ → List Packed → List Shape → List (Option Rect)
layout size packs shapes = layout_by (λ master. slaves_of master packs) size shapes
