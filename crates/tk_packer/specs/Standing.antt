-- Steps. The windows of one application in a layout that is kept, each by its place in pre-order.
use Rattle.std.specs.Prelude.{◌≡◌, ◌⊎◌, ◌<◌, ◌==◌, ℕ, zero, suc, Bool, true, false, nat_eq, if◌then◌else◌, List, [], ◌∷◌, length, map, set, take, Option, None, Some, option_map, slice_get}
use Rattle.std.specs.BTreeSet.{contains}
use Rattle.std.specs.Map.{lookup}
use Rattle.std.specs.Ordering.{nat_cmp}
use Rattle.tk_base.specs.declared.rect.Rect.{Rect}
use Rattle.tk_packer.specs.declared.ask.Axis.TheVariants.{Horizontal, Vertical}
use Rattle.tk_packer.specs.declared.packed.Packed.{Packed}
use Rattle.tk_packer.specs.declared.request.Request.{Request}
use Rattle.tk_packer.specs.declared.shape.Shape.{Shape}
use Rattle.tk_packer.specs.declared.standing.KeptWindows.{KeptWindows}
use Rattle.tk_packer.specs.declared.standing.Slave.{Slave}
use Rattle.tk_packer.specs.declared.standing.Slot.{Slot}
use Rattle.tk_packer.specs.Asked.{with_size, size_asked}
use Rattle.tk_packer.specs.Layout.{cavity_of, counted_outside, layout_by, whole_of}
use Rattle.tk_packer.specs.Parcels.{arrangement}
use Rattle.tk_packer.specs.Spread.{IsAlikeAlong}

-- ---- what a layout is made from

-- what is packed in the window with a number, where lists stand beside the windows
abbrev pub packed_in : List Shape → List (List Packed) → ℕ → List Packed
packed_in [] packs number = []
packed_in (shape ∷ shapes) [] number = []
packed_in (shape ∷ shapes) (slaves ∷ packs) number = if shape.number == number then slaves else packed_in shapes packs number

-- the size of the rectangle, the windows as they were laid out last, and what is packed in each of them
pub record Inputs : Type 0 where
  pub size : ℕ × ℕ
  pub shapes : List Shape
  pub packs : List (List Packed)

-- another window in the place of the one that has its number
abbrev pub with_shape : Shape → List Shape → List Shape
with_shape new shapes = map (λ shape. if shape.number == new.number then new else shape) shapes

abbrev pub places_by : Inputs → List (Option Rect)
places_by inputs = layout_by (packed_in inputs.shapes inputs.packs) inputs.size inputs.shapes

-- ---- what is kept

-- the slaves of a window without their places
abbrev pub packed_of : List Slave → List Packed
packed_of slaves = map (λ slave. slave.packed) slaves

-- their requests, each with the size that it asks for
abbrev pub sized_at : List (ℕ × ℕ) → Slave → Request
sized_at asked slave = with_size (slice_get asked slave.position) slave.packed.request

abbrev pub asks : List (ℕ × ℕ) → List Slave → List Request
asks asked slaves = map (sized_at asked) slaves

-- where they lie: nowhere where their master isn't mapped
abbrev pub places_for : Shape → List Request → Option Rect → List (Option Rect)
places_for shape requests None = map (λ request. None) requests
places_for shape requests (Some rect) = map (option_map (counted_outside shape.border)) (arrangement (cavity_of rect shape.border) requests)

-- where a window lies as it was laid out last
abbrev pub shown : Shape → Option Rect
shown shape = if shape.mapped then Some shape.rectangle else None

-- Each window at its place in pre-order: what it asks for, where it lies, where it is packed, and what is packed in it; and which windows are still to be looked
-- at: whose size, whose slaves' places, and whose place may be another.
pub record Standing : Type 0 where
  pub size : ℕ × ℕ
  pub shapes : List Shape
  pub asked : List (ℕ × ℕ)
  pub places : List (Option Rect)
  pub slots : List (Option Slot)
  pub slaves : List (List Slave)
  pub resize : ℕ → Bool
  pub rearrange : ℕ → Bool
  pub moved : ℕ → Bool

-- a master stands before its slaves, and each knows where it is packed
pub record IsForest (slots : List (Option Slot)) (slaves : List (List Slave)) : Type 0 where
  pub down :
      (i k : ℕ) (list : List Slave) (slave : Slave) → slice_get slaves i ≡ Some list → slice_get list k ≡ Some slave
      → (i < slave.position) × (slice_get slots slave.position ≡ Some (Some (record { master = i; place = k })))
  pub up :
      (j : ℕ) (slot : Slot) → slice_get slots j ≡ Some (Some slot)
      → (list : List Slave) × ((slave : Slave) × ((slice_get slaves slot.master ≡ Some list) × ((slice_get list slot.place ≡ Some slave) × (slave.position ≡ j))))

-- no two windows have one number
abbrev pub AreApart : List Shape → Type 0
AreApart shapes = (i j : ℕ) (one other : Shape) → slice_get shapes i ≡ Some one → slice_get shapes j ≡ Some other → one.number ≡ other.number → i ≡ j

-- a slave's number is that of the window at its place
abbrev pub AreNamed : List Shape → List (List Slave) → Type 0
AreNamed shapes slaves =
    (i k : ℕ) (list : List Slave) (slave : Slave) (shape : Shape) → slice_get slaves i ≡ Some list → slice_get list k ≡ Some slave
    → slice_get shapes slave.position ≡ Some shape → slave.packed.number ≡ shape.number

-- each list has a part for each window
pub record HaveLengths (shapes : List Shape) (sizes : List (ℕ × ℕ)) (rects : List (Option Rect)) (packed : List (Option Slot)) (lists : List (List Slave)) : Type 0 where
  pub asked : length sizes ≡ length shapes
  pub places : length rects ≡ length shapes
  pub slots : length packed ≡ length shapes
  pub slaves : length lists ≡ length shapes

module _ (s : Standing) where
  -- a window asks for what its slaves and its widget want; what the main window asks for, the first, decides nothing
  abbrev pub IsSized : ℕ → Type 0
  IsSized i = 0 < i → (shape : Shape) (list : List Slave) → slice_get s.shapes i ≡ Some shape → slice_get s.slaves i ≡ Some list
      → slice_get s.asked i ≡ Some (size_asked shape (asks s.asked list))

  -- its slaves lie where it has them
  abbrev pub IsArranged : ℕ → Type 0
  IsArranged i = (k : ℕ) (shape : Shape) (list : List Slave) (place : Option Rect) (slave : Slave) → slice_get s.shapes i ≡ Some shape → slice_get s.slaves i ≡ Some list
      → slice_get s.places i ≡ Some place → slice_get list k ≡ Some slave
      → slice_get s.places slave.position ≡ slice_get (places_for shape (asks s.asked list) place) k

  -- it lies where it was shown
  abbrev pub IsShown : ℕ → Type 0
  IsShown i = (shape : Shape) (place : Option Rect) → slice_get s.shapes i ≡ Some shape → slice_get s.places i ≡ Some place → place ≡ shown shape

  -- what is kept is right, but for what is still to be looked at
  pub record IsStanding : Type 0 where
    pub lengths : HaveLengths s.shapes s.asked s.places s.slots s.slaves
    pub forest : IsForest s.slots s.slaves
    pub apart : AreApart s.shapes
    pub named : AreNamed s.shapes s.slaves
    pub main : (place : Option Rect) → slice_get s.places 0 ≡ Some place → place ≡ Some (whole_of s.size)
    pub loose : (j : ℕ) → slice_get s.slots (suc j) ≡ Some None → slice_get s.places (suc j) ≡ Some None
    pub within : (i : ℕ) → s.rearrange i ≡ true → i < length s.shapes
    pub sized : (i : ℕ) → s.resize i ≡ false → IsSized i
    pub arranged : (i : ℕ) → s.rearrange i ≡ false → IsArranged i
    pub shown : (i : ℕ) → s.moved i ≡ false → IsShown i

-- ---- as the code has them

abbrev pub standing_of : KeptWindows → Standing
standing_of w = record {
  size = w.size;
  shapes = w.shapes.items;
  asked = w.asked.items;
  places = w.places.items;
  slots = w.slots.items;
  slaves = w.slaves.items;
  resize = contains nat_cmp w.resize;
  rearrange = contains nat_cmp w.rearrange;
  moved = contains nat_cmp w.moved;
}

abbrev pub inputs_of : KeptWindows → Inputs
inputs_of w = record { size = w.size; shapes = w.shapes.items; packs = map packed_of w.slaves.items }

-- the places of windows by their numbers
pub record IsIndex (entries : List (ℕ × ℕ)) (shapes : List Shape) : Type 0 where
  pub known : (i : ℕ) (shape : Shape) → slice_get shapes i ≡ Some shape → lookup (nat_eq shape.number) entries ≡ Some i
  pub found : (number i : ℕ) → lookup (nat_eq number) entries ≡ Some i → (shape : Shape) × ((slice_get shapes i ≡ Some shape) × (shape.number ≡ number))

module _ (s : Standing) where
  -- what a window has to ask for
  abbrev pub IsSizeNow : ℕ → ℕ × ℕ → Type 0
  IsSizeNow i size = (shape : Shape) (list : List Slave) → slice_get s.shapes i ≡ Some shape → slice_get s.slaves i ≡ Some list → size ≡ size_asked shape (asks s.asked list)

  -- where the slaves of a window have to lie
  abbrev pub ArePlacesNow : ℕ → List (Option Rect) → Type 0
  ArePlacesNow i places = (shape : Shape) (list : List Slave) (place : Option Rect) → slice_get s.shapes i ≡ Some shape → slice_get s.slaves i ≡ Some list
      → slice_get s.places i ≡ Some place → places ≡ places_for shape (asks s.asked list) place

  -- where the window at a place, which is packed so, asks for a size, its master's slaves lie as they did
  abbrev pub LiesAlike : Slot → ℕ → ℕ × ℕ → Type 0
  LiesAlike slot i size = (list : List Slave) → slice_get s.slaves slot.master ≡ Some list → (old : ℕ × ℕ) → slice_get s.asked i ≡ Some old
      → IsAlikeAlong Horizontal list slot.place old.0 size.0 × IsAlikeAlong Vertical list slot.place old.1 size.1

  -- the master of a window, if it has one, is still to be looked at, but not the size of the main window, and not the places of slaves that lie as they did once the window asks for a size
  abbrev pub MasterWaits : ℕ → ℕ × ℕ → Type 0
  MasterWaits i size = (slot : Slot) → slice_get s.slots i ≡ Some (Some slot) → (0 < slot.master → s.resize slot.master ≡ true) × ((s.rearrange slot.master ≡ true) ⊎ LiesAlike slot i size)

  -- a window has a master, whose slaves' places are still to be looked at
  abbrev pub IsToBePlaced : ℕ → Type 0
  IsToBePlaced i = (slot : Slot) × ((slice_get s.slots i ≡ Some (Some slot)) × (s.rearrange slot.master ≡ true))

-- what is laid out stays
pub record SameInputs (old new : Standing) : Type 0 where
  pub size : new.size ≡ old.size
  pub shapes : new.shapes ≡ old.shapes
  pub slaves : new.slaves ≡ old.slaves

-- rooms in which slaves lie alike: there is none, or they are of one size
abbrev pub SameRoom : Option Rect → Option Rect → Type 0
SameRoom None None = Unit {0}
SameRoom None (Some other) = ⊥
SameRoom (Some one) None = ⊥
SameRoom (Some one) (Some other) = (one.width ≡ other.width) × (one.height ≡ other.height)

-- ---- windows of which none is packed in another

abbrev pub first_at : ℕ × ℕ → ℕ → Option Rect
first_at size zero = Some (whole_of size)
first_at size (suc place) = None

-- in each window is packed what a function says
abbrev pub IsPackedAs : (ℕ → List Packed) → List Shape → List (List Slave) → Type 0
IsPackedAs packed shapes slaves = (q : ℕ) (shape : Shape) (list : List Slave) → slice_get shapes q ≡ Some shape → slice_get slaves q ≡ Some list → packed_of list ≡ packed shape.number

-- So it is in the first so many, but for some in which nothing is packed yet.
pub record ArePackedBut (waits : ℕ → Bool) (packed : ℕ → List Packed) (count : ℕ) (shapes : List Shape) (slaves : List (List Slave)) : Type 0 where
  pub empty : (q : ℕ) → waits q ≡ true → slice_get slaves q ≡ Some []
  pub others :
      (q : ℕ) (shape : Shape) (list : List Slave) → q < count → waits q ≡ false → slice_get shapes q ≡ Some shape → slice_get slaves q ≡ Some list
      → packed_of list ≡ packed shape.number

-- what is kept is right if in one window the first so many are packed of those that are
abbrev pub StandsWith : ℕ → ℕ → Standing → Type 0
StandsWith master count s = (list : List Slave) → slice_get s.slaves master ≡ Some list → IsStanding (record s { slaves = set s.slaves master (take count list) })
