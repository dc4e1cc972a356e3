-- No window lies outside of the cavity, and there is a place for each.
use Rattle.std.proofs.Common.{◌≡◌, ◌≢◌, ℕ, ◌+◌, ◌-◌, ◌<◌, ◌≤◌, min, Bool, true, false, List, [], ◌∷◌, length, suc, Option, Some, None, refl, ap, arith}
use Rattle.std.specs.Prelude.{◌==◌, if◌then◌else◌, IfSome, All}
use Rattle.std.proofs.lemmas.Bool.{eqb-false}
use Rattle.std.proofs.lemmas.List.Elements.{All-nil, All-cons}
use Rattle.tk_packer.specs.declared.ask.Axis.TheVariants.{Horizontal, Vertical}
use Rattle.tk_packer.specs.declared.ask.Edge.{Edge}
use Rattle.tk_packer.specs.declared.ask.Edge.TheVariants.{Near, Far}
use Rattle.tk_packer.specs.declared.ask.Align.{Align}
use Rattle.tk_packer.specs.declared.ask.Align.TheVariants.{ToNear, Centered, ToFar}
use Rattle.tk_packer.specs.declared.ask.Ask.{Ask}
use Rattle.tk_packer.specs.declared.parcel.Extent.{Extent}
use Rattle.tk_packer.specs.declared.request.Request.{Request}
use Rattle.tk_packer.specs.Ask.{ask_of, inner_length}
use Rattle.tk_packer.specs.Parcels.{taken, parcel_at, cavity_after, spare_before, aligned, length_in, span_in, span_packed, remaining, asks_of, rect_of, packed, LiesIn}

-- a stretch that ends by a place, and has a pixel
pub record EndsBy (end : ℕ) (span : Extent) : Type 0 where
  pub by : span.start + span.length ≤ end
  pub pixel : 0 < span.length

length_in-le : (ask : Ask) (room : ℕ) → length_in ask room ≤ room
length_in-le ask room = pick ask.fills
  where
    pick : (b : Bool) → (if b then room else min (inner_length ask) room) ≤ room
    pick true = omega arith
    pick false = omega arith

spare_before-le : (align : Align) (spare : ℕ) → spare_before align spare ≤ spare
spare_before-le ToNear spare = omega arith
spare_before-le Centered spare = omega arith
spare_before-le ToFar spare = omega arith

-- a window between its pads, in a parcel of a size
place_of-ends : (ask : Ask) (start before after size n end : ℕ) → n ≤ size - (before + after) → start + size ≤ end → IfSome (aligned ask (start + before) (size - (before + after)) n) (EndsBy end)
place_of-ends ask start before after size n end within fits = pick (n == 0) refl (spare_before-le ask.align (size - (before + after) - n))
  where
    pick : (b : Bool) → (n == 0) ≡ b → spare_before ask.align (size - (before + after) - n) ≤ size - (before + after) - n →
        IfSome (if b then None else Some (record { start = start + before + spare_before ask.align (size - (before + after) - n); length = n })) (EndsBy end)
    pick true is spare = tt
    pick false is spare =
        let some : n ≢ 0 = eqb-false n 0 is in
        record { by = omega arith; pixel = omega arith }

place_in-ends : (ask : Ask) (parcel : Extent) (end : ℕ) → parcel.start + parcel.length ≤ end → IfSome (span_in ask parcel) (EndsBy end)
place_in-ends ask parcel end fits =
    let room = parcel.length - (ask.before + ask.after) in
    place_of-ends ask parcel.start ask.before ask.after parcel.length (length_in ask room) end (length_in-le ask room) fits

parcel_at-ends : (edge : Option Edge) (cavity : Extent) (n end : ℕ) → n ≤ cavity.length → cavity.start + cavity.length ≤ end → (parcel_at edge cavity n).start + (parcel_at edge cavity n).length ≤ end
parcel_at-ends None cavity n end within fits = fits
parcel_at-ends (Some Near) cavity n end within fits = omega arith
parcel_at-ends (Some Far) cavity n end within fits = omega arith

cavity_after-ends : (edge : Option Edge) (cavity : Extent) (n end : ℕ) → n ≤ cavity.length → cavity.start + cavity.length ≤ end → (cavity_after edge cavity n).start + (cavity_after edge cavity n).length ≤ end
cavity_after-ends None cavity n end within fits = fits
cavity_after-ends (Some Near) cavity n end within fits = omega arith
cavity_after-ends (Some Far) cavity n end within fits = omega arith

taken-le : (cavity : ℕ) (ask : Ask) (later : List Ask) → taken cavity ask later ≤ cavity
taken-le cavity ask later = omega arith

placed-ends : (cavity : Extent) (ask : Ask) (later : List Ask) (end : ℕ) → cavity.start + cavity.length ≤ end → IfSome (span_packed cavity ask later) (EndsBy end)
unfolding span_packed
placed-ends cavity ask later end fits =
    let n = taken cavity.length ask later in
    place_in-ends ask (parcel_at ask.edge cavity n) end (parcel_at-ends ask.edge cavity n end (taken-le cavity.length ask later) fits)

remaining-ends : (cavity : Extent) (ask : Ask) (later : List Ask) (end : ℕ) → cavity.start + cavity.length ≤ end → (remaining cavity ask later).start + (remaining cavity ask later).length ≤ end
unfolding remaining
remaining-ends cavity ask later end fits = cavity_after-ends ask.edge cavity (taken cavity.length ask later) end (taken-le cavity.length ask later) fits

rect_of-lies : (size : ℕ × ℕ) (across down : Option Extent) → IfSome across (EndsBy size.0) → IfSome down (EndsBy size.1) → LiesIn size (rect_of across down)
rect_of-lies size (Some across) (Some down) wide high = record { right = wide.by; bottom = high.by; width = wide.pixel; height = high.pixel }
rect_of-lies size (Some across) None wide high = tt
rect_of-lies size None down wide high = tt

pub packed-lies : (size : ℕ × ℕ) (columns rows : Extent) (requests : List Request) → columns.start + columns.length ≤ size.0 → rows.start + rows.length ≤ size.1 → All (LiesIn size) (packed columns rows requests)
unfolding packed
packed-lies size columns rows [] wide high = All-nil (LiesIn size)
packed-lies size columns rows (request ∷ later) wide high =
    let across = ask_of Horizontal request in
    let down = ask_of Vertical request in
    let beside = asks_of Horizontal later in
    let below = asks_of Vertical later in
    All-cons (LiesIn size) (rect_of (span_packed columns across beside) (span_packed rows down below)) (packed (remaining columns across beside) (remaining rows down below) later)
    (rect_of-lies size (span_packed columns across beside) (span_packed rows down below) (placed-ends columns across beside size.0 wide) (placed-ends rows down below size.1 high))
    (packed-lies size (remaining columns across beside) (remaining rows down below) later (remaining-ends columns across beside size.0 wide) (remaining-ends rows down below size.1 high))

pub length-packed : (columns rows : Extent) (requests : List Request) → length (packed columns rows requests) ≡ length requests
unfolding packed
length-packed columns rows [] = refl
length-packed columns rows (request ∷ later) =
    ap suc (length-packed (remaining columns (ask_of Horizontal request) (asks_of Horizontal later)) (remaining rows (ask_of Vertical request) (asks_of Vertical later)) later)
