-- A layout places each window within the size that it is given, as it is told from its parent's corner.
use Rattle.std.proofs.Common.{ℕ, ◌+◌, ◌-◌, ◌≤◌, Bool, true, false, cond, List, [], ◌∷◌, ◌++◌, Option, Some, None, arith}
use Rattle.std.specs.Prelude.{All, IfSome, nat_eq}
use Rattle.std.specs.List.{AllByRecursion}
use Rattle.std.specs.Map.{lookup}
use Rattle.std.proofs.lemmas.List.Elements.{All-head, All-tail}
use Rattle.tk_base.specs.declared.rect.Rect.{Rect}
use Rattle.tk_packer.specs.Asked.{Sizes, requests_of, sizes_asked}
use Rattle.tk_packer.specs.Changes.{changes_at, changes_of, configured, is_same_rect, mapped}
use Rattle.tk_packer.specs.declared.changes.PlaceChange.{PlaceChange}
use Rattle.tk_packer.specs.declared.changes.PlaceChange.TheVariants.{Unmap, Configure, Map}
use Rattle.tk_packer.specs.declared.packed.Packed.{Packed}
use Rattle.tk_packer.specs.declared.request.Request.{Request}
use Rattle.tk_packer.specs.declared.shape.Shape.{Shape}
use Rattle.tk_packer.specs.Layout.{Places, cavity_of, first_place, give, given_after, layout, placed, with_place}
use Rattle.tk_packer.specs.Packs.{slaves_of}
use Rattle.tk_packer.specs.Parcels.{LiesIn, arrangement}
use Rattle.tk_packer.proofs.Inside.{packed-lies}

-- a rectangle ends within a size
pub record EndsWithin (size : ℕ × ℕ) (rect : Rect) : Type 0 where
  pub right : rect.x + rect.width ≤ size.0
  pub bottom : rect.y + rect.height ≤ size.1

module _ (size : ℕ × ℕ) where
  abbrev Fits : Option Rect → Type 0
  Fits place = IfSome place (EndsWithin size)

  abbrev AllFit : Places → Type 0
  AllFit given = AllByRecursion (λ (given : ℕ × Rect). EndsWithin size given.1) given

  found_fits : (number : ℕ) (given : Places) → AllFit given → Fits (lookup (nat_eq number) given)
  found_fits number [] fit = tt
  found_fits number (first ∷ given) fit = by (nat_eq number first.0) (found_fits number given fit.1)
    where
      by : (b : Bool) → Fits (lookup (nat_eq number) given) → Fits (cond b (Some first.1) (lookup (nat_eq number) given))
      by true rest = fit.0
      by false rest = rest

  -- inside the border of a window that fits
  one_fits : (rect : Rect) (border number : ℕ) (place : Option Rect) (given : Places) → EndsWithin size rect → LiesIn (cavity_of rect border) place → AllFit given
      → AllFit (with_place border number place given)
  one_fits rect border number None given ends lies fit = fit
  one_fits rect border number (Some place) given ends lies fit =
      let right = lies.right in
      let bottom = lies.bottom in
      let width = lies.width in
      let height = lies.height in
      let end = ends.right in
      let foot = ends.bottom in
      (record { right = omega (arith, right, width, end); bottom = omega (arith, bottom, height, foot) }, fit)

  all_fit : (rect : Rect) (border : ℕ) (slaves : List Packed) (places : List (Option Rect)) (given : Places) → EndsWithin size rect → All (LiesIn (cavity_of rect border)) places → AllFit given
      → AllFit (give border slaves places given)
  unfolding give
  all_fit rect border [] places given ends lie fit = fit
  all_fit rect border (packed ∷ slaves) [] given ends lie fit = fit
  all_fit rect border (packed ∷ slaves) (place ∷ places) given ends lie fit =
      all_fit rect border slaves places (with_place border packed.number place given) ends (All-tail (LiesIn (cavity_of rect border)) place places lie)
      (one_fits rect border packed.number place given ends (All-head (LiesIn (cavity_of rect border)) place places lie) fit)

  after_fits : (slaves : ℕ → List Packed) (sizes : Sizes) (shape : Shape) (place : Option Rect) (given : Places) → Fits place → AllFit given → AllFit (given_after slaves sizes shape place given)
  unfolding given_after
  after_fits slaves sizes shape None given ends fit = fit
  after_fits slaves sizes shape (Some rect) given ends fit =
      let requests : List Request = requests_of sizes (slaves shape.number) in
      let room : ℕ × ℕ = cavity_of rect shape.border in
      all_fit rect shape.border (slaves shape.number) (arrangement room requests) given ends
      (packed-lies room (record { start = 0; length = room.0 }) (record { start = 0; length = room.1 }) requests (omega arith) (omega arith)) fit

  placed_fit : (slaves : ℕ → List Packed) (sizes : Sizes) (given : Places) (shapes : List Shape) → AllFit given → AllByRecursion Fits (placed slaves sizes given shapes)
  unfolding placed
  placed_fit slaves sizes given [] fit = tt
  placed_fit slaves sizes given (shape ∷ shapes) fit =
      let place : Option Rect = lookup (nat_eq shape.number) given in
      let ends : Fits place = found_fits shape.number given fit in
      (ends, placed_fit slaves sizes (given_after slaves sizes shape place given) shapes (after_fits slaves sizes shape place given ends fit))

  first_fits : (shapes : List Shape) → AllFit (first_place size shapes)
  first_fits [] = tt
  first_fits (main ∷ shapes) = (record { right = omega arith; bottom = omega arith }, tt)

  layout_fits : (packs : List Packed) (shapes : List Shape) → AllByRecursion Fits (layout size packs shapes)
  layout_fits packs shapes =
      placed_fit (λ master. slaves_of master packs) (sizes_asked (λ master. slaves_of master packs) shapes) (first_place size shapes) shapes (first_fits shapes)

  -- ── what it changes ──

  -- a window gets a rectangle that ends within the size
  abbrev pub PlacesWithin : PlaceChange → Type 0
  PlacesWithin (Unmap number) = Unit {0}
  PlacesWithin (Configure number rect) = EndsWithin size rect
  PlacesWithin (Map number) = Unit {0}

  abbrev pub AllPlace : List PlaceChange → Type 0
  AllPlace changes = AllByRecursion PlacesWithin changes

  both_place : (ones others : List PlaceChange) → AllPlace ones → AllPlace others → AllPlace (ones ++ others)
  both_place [] others place rest = rest
  both_place (one ∷ ones) others place rest = (place.0, both_place ones others place.1 rest)

  change_places : (shape : Shape) (place : Option Rect) → Fits place → AllPlace (changes_at shape place)
  change_places shape None ends = by shape.mapped
    where
      by : (b : Bool) → AllPlace (cond b (Unmap shape.number ∷ []) [])
      by true = (tt, tt)
      by false = tt
  change_places shape (Some rect) ends = both_place (configured shape rect) (mapped shape) (by (is_same_rect shape.rectangle rect)) (maps shape.mapped)
    where
      by : (b : Bool) → AllPlace (cond b [] (Configure shape.number rect ∷ []))
      by true = tt
      by false = (ends, tt)

      maps : (b : Bool) → AllPlace (cond b [] (Map shape.number ∷ []))
      maps true = tt
      maps false = (tt, tt)

  changes_place : (shapes : List Shape) (places : List (Option Rect)) → AllByRecursion Fits places → AllPlace (changes_of shapes places)
  unfolding changes_of
  changes_place [] places fit = tt
  changes_place (shape ∷ shapes) [] fit = tt
  changes_place (shape ∷ shapes) (place ∷ places) fit =
      both_place (changes_at shape place) (changes_of shapes places) (change_places shape place fit.0) (changes_place shapes places fit.1)

  pub layout_changes : (packs : List Packed) (shapes : List Shape) → AllPlace (changes_of shapes (layout size packs shapes))
  layout_changes packs shapes = changes_place shapes (layout size packs shapes) (layout_fits packs shapes)
