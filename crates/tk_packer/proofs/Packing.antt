-- The layout in the middle of its loop.
use Rattle.std.proofs.Common.{◌≡◌, List, [], ◌∷◌, ◌++◌, length, Option, refl, ◌∙◌, append_assoc, append-nil, arith}
use Rattle.tk_base.specs.declared.rect.Rect.{Rect}
use Rattle.tk_packer.specs.declared.ask.Axis.TheVariants.{Horizontal, Vertical}
use Rattle.tk_packer.specs.declared.parcel.Extent.{Extent}
use Rattle.tk_packer.specs.declared.request.Request.{Request}
use Rattle.tk_packer.specs.Ask.{ask_of}
use Rattle.tk_packer.specs.Parcels.{asks_of, span_packed, remaining, rect_of, packed}

-- one window more
pub packed_more : (places : List (Option Rect)) (columns rows : Extent) (request : Request) (later : List Request) (rect : Option Rect) (columns_left rows_left : Extent) →
    rect ≡ rect_of (span_packed columns (ask_of Horizontal request) (asks_of Horizontal later)) (span_packed rows (ask_of Vertical request) (asks_of Vertical later)) →
    columns_left ≡ remaining columns (ask_of Horizontal request) (asks_of Horizontal later) →
    rows_left ≡ remaining rows (ask_of Vertical request) (asks_of Vertical later) →
    (places ++ rect ∷ []) ++ packed columns_left rows_left later ≡ places ++ packed columns rows (request ∷ later)
unfolding packed
packed_more places columns rows request later rect columns_left rows_left rect_is columns_is rows_is =
    append_assoc places (rect ∷ []) (packed columns_left rows_left later) ∙ rw (rect_is, columns_is, rows_is) refl

-- no window is left
pub packed_all : (places : List (Option Rect)) (columns rows : Extent) (rest : List Request) → length rest ≡ 0 → places ++ packed columns rows rest ≡ places
unfolding packed
packed_all places columns rows [] none = append-nil places
packed_all places columns rows (request ∷ later) none = absurd (omega arith)
