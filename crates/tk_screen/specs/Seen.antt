-- Steps. What a mark says of an application.
use Rattle.std.specs.Prelude.{◌≡◌, ℕ, Bool, true, false, List, [], ◌∷◌, map, Option, None, Some}
use Rattle.std.specs.BTreeSet.{contains}
use Rattle.std.specs.Ordering.{nat_cmp}
use Rattle.tcl_vars.specs.Store.{Store}
use Rattle.tk_packer.specs.Changes.{changes_of}
use Rattle.tk_packer.specs.declared.packed.Packed.{Packed}
use Rattle.tk_packer.specs.declared.shape.Shape.{Shape}
use Rattle.tk_packer.specs.Packs.{slaves_of}
use Rattle.tk_packer.specs.Standing.{Inputs, places_by, with_shape}
use Rattle.tk_screen.specs.declared.screen.Screen.{Screen}
use Rattle.tk_screen.specs.Layout.{size_of}
use Rattle.tk_screen.specs.Own.{Windowing}
use Rattle.tk_screen.specs.Shapes.{shapes}
use Rattle.tk_screen.specs.Shared.{own_of}
use Rattle.tk_screen.specs.declared.marks.Mark.{Mark}
use Rattle.tk_screen.specs.declared.marks.Marks.{Marks}
use Rattle.tk_screen.specs.Marks.{mark_of}
use Rattle.tk_screen.specs.Reads.{IsKept, Reads}

-- Windows that are kept, and windows that are there: each has the number of the other. One that wasn't touched looks as it is kept, and holds.
unfoldable pub AreAlike : (ℕ → Bool) → (ℕ → Type 0) → List Shape → List Shape → Type 0
AreAlike touched Holds [] [] = Unit {0}
AreAlike touched Holds [] (shape ∷ shapes) = ⊥
AreAlike touched Holds (kept ∷ others) [] = ⊥
AreAlike touched Holds (kept ∷ others) (shape ∷ shapes) =
    (kept.number ≡ shape.number) × (touched shape.number ≡ false → (kept ≡ shape) × Holds shape.number) × AreAlike touched Holds others shapes

-- A layout was made from an application's windows as they look with these variables, but for those that were touched since, and with these packed in them.
pub record IsSeen (own : Windowing) (packed : List Packed) (store : Store) (touched : ℕ → Bool) (reads : Reads) (layout : Inputs) : Type 0 where
  pub size : layout.size ≡ size_of own
  pub packs : layout.packs ≡ map (λ shape. slaves_of shape.number packed) layout.shapes
  pub alike : AreAlike touched (IsKept own store reads) layout.shapes (shapes own store)

-- a layout by which no window lies elsewhere than where it was laid out last
abbrev pub IsSettled : Inputs → Type 0
IsSettled layout = changes_of layout.shapes (places_by layout) ≡ []

-- a mark's layout was made so, with the variables of then, and with those windows packed that are, unless others may be packed since; and it was laid out
abbrev pub IsMarked : Mark → Windowing → Type 0
IsMarked mark own =
    (store : Store) × ((packed : List Packed) × ((mark.repacked ≡ false → packed ≡ own.packs.packs)
    × IsSeen own packed store (contains nat_cmp mark.touched) mark.reads.entries mark.layout × IsSettled mark.layout))

-- a mark by which nothing is to be looked at, whatever the variables are
pub record Rests (mark : Mark) : Type 0 where
  pub repacked : mark.repacked ≡ false
  pub touched : (number : ℕ) → contains nat_cmp mark.touched number ≡ false
  pub reads : mark.reads.entries ≡ []

-- so it is for each application that has a mark
abbrev pub AllMarked : Marks → Screen → Type 0
AllMarked marks screen = (slot : ℕ) (mark : Mark) → mark_of slot marks ≡ Some mark → IsMarked mark (own_of slot screen)

-- a window in the place of the one that has its number, if there is one to see
abbrev pub with_seen : Option Shape → List Shape → List Shape
with_seen None shapes = shapes
with_seen (Some shape) shapes = with_shape shape shapes

-- a layout with these windows packed, if others may be packed than in it
abbrev pub IsWith : Bool → List Packed → Inputs → Inputs → Type 0
IsWith true packed old new = new ≡ record old { packs = map (λ shape. slaves_of shape.number packed) old.shapes }
IsWith false packed old new = new ≡ old
