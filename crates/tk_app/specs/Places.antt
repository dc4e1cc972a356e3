-- Meaning. *Layout* as equations on the tree of windows (pack(n)): what a window asks for, by what is packed in it; and where it lies, by where its master
-- lies.
use Rattle.std.specs.Prelude.{◌≡◌, ◌≢◌, ℕ, suc, ◌<◌, ◌==◌, nat_eq, if◌then◌else◌, List, [], ◌∷◌, Option, None, Some, option_map, option_and_then, slice_get}
use Rattle.std.specs.Map.{lookup}
use Rattle.tk_base.specs.declared.rect.Rect.{Rect}
use Rattle.tk_packer.specs.declared.packed.Packed.{Packed}
use Rattle.tk_packer.specs.declared.request.Request.{Request}
use Rattle.tk_packer.specs.declared.shape.Shape.{Shape}
use Rattle.tk_packer.specs.Asked.{Sizes, requests_of, size_asked, sizes_asked}
use Rattle.tk_packer.specs.Layout.{cavity_of, layout, counted_outside, whole_of}
use Rattle.tk_packer.specs.Packs.{slaves_of}
use Rattle.tk_packer.specs.Parcels.{arrangement}

-- the place that a list of places has for the window with a number
abbrev pub place_by_number : List Shape → List (Option Rect) → ℕ → Option Rect
place_by_number [] places number = None
place_by_number (shape ∷ shapes) [] number = None
place_by_number (shape ∷ shapes) (place ∷ places) number = if shape.number == number then place else place_by_number shapes places number

-- Where a slave of a master lies, by its place among the slaves: where the arrangement of the room inside the master's border has it. It isn't mapped
-- where the master isn't.
abbrev pub place_by_master : Shape → List Request → ℕ → Option Rect → Option Rect
place_by_master master requests k None = None
place_by_master master requests k (Some rect) =
    option_map (counted_outside master.border) (option_and_then (λ place. place) (slice_get (arrangement (cavity_of rect master.border) requests) k))

module _ (slaves : ℕ → List Packed) (shapes : List Shape) where
  -- Each window stands once, before those that are packed in it, and is packed once at most.
  pub record StandInOrder : Type 0 where
    pub apart : (i j : ℕ) (one other : Shape) → slice_get shapes i ≡ Some one → slice_get shapes j ≡ Some other → one.number ≡ other.number → i ≡ j
    pub behind :
        (i j k : ℕ) (master slave : Shape) (packed : Packed) → slice_get shapes i ≡ Some master → slice_get shapes j ≡ Some slave
        → slice_get (slaves master.number) k ≡ Some packed → packed.number ≡ slave.number → i < j
    pub once :
        (i j k l : ℕ) (one other : Shape) (packed again : Packed) → slice_get shapes i ≡ Some one → slice_get shapes j ≡ Some other
        → slice_get (slaves one.number) k ≡ Some packed → slice_get (slaves other.number) l ≡ Some again → packed.number ≡ again.number → (i ≡ j) × (k ≡ l)

  -- What windows ask for and where they lie is this.
  pub record IsByMasters (size : ℕ × ℕ) (sizes : Sizes) (places : List (Option Rect)) : Type 0 where
    -- a window asks for the room of what is packed in it, each with what it asks for itself; or for what its widget asks for
    pub asks :
        (i : ℕ) (shape : Shape) → slice_get shapes i ≡ Some shape
        → lookup (nat_eq shape.number) sizes ≡ Some (size_asked shape (requests_of sizes (slaves shape.number)))
    -- the main window, the first, fills the application's rectangle
    pub main : (shape : Shape) → slice_get shapes 0 ≡ Some shape → place_by_number shapes places shape.number ≡ Some (whole_of size)
    -- one that is packed lies where its master has it
    pub packed :
        (i j k : ℕ) (master slave : Shape) (packed : Packed) → slice_get shapes i ≡ Some master → slice_get shapes j ≡ Some slave
        → slice_get (slaves master.number) k ≡ Some packed → packed.number ≡ slave.number
        → place_by_number shapes places slave.number ≡ place_by_master master (requests_of sizes (slaves master.number)) k (place_by_number shapes places master.number)
    -- any other isn't mapped
    pub loose :
        (j : ℕ) (shape : Shape) → slice_get shapes (suc j) ≡ Some shape
        → ((i k : ℕ) (master : Shape) (packed : Packed) → slice_get shapes i ≡ Some master → slice_get (slaves master.number) k ≡ Some packed
        → packed.number ≢ shape.number)
        → place_by_number shapes places shape.number ≡ None

-- the layout of windows, from nothing, is this
abbrev pub LiesByMasters : Type 0
LiesByMasters = (size : ℕ × ℕ) (packs : List Packed) (shapes : List Shape) → StandInOrder (λ master. slaves_of master packs) shapes
    → IsByMasters (λ master. slaves_of master packs) shapes size (sizes_asked (λ master. slaves_of master packs) shapes) (layout size packs shapes)
