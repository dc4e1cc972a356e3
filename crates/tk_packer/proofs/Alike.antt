-- Where windows lay is no input of their layout, and a layout leaves nothing to do.
use Rattle.std.proofs.Common.{◌≡◌, ℕ, true, List, [], ◌∷◌, ◌++◌, Option, Some, None, refl, sym, ap, ◌∙◌, eq-eqb}
use Rattle.std.specs.Prelude.{map, nat_eq}
use Rattle.std.specs.Map.{lookup}
use Rattle.tk_base.specs.declared.rect.Rect.{Rect}
use Rattle.tk_packer.specs.Asked.{Sizes, requests_of, size_asked, with_asked, sizes_asked}
use Rattle.tk_packer.specs.Changes.{is_same_rect, changes_at, changes_of, laid, laid_out_shapes, unlaid}
use Rattle.tk_packer.specs.Layout.{Places, given_after, placed, first_place, layout}
use Rattle.tk_packer.specs.declared.shape.Shape.{Shape}
use Rattle.tk_packer.specs.declared.packed.Packed.{Packed}
use Rattle.tk_packer.specs.Packs.{slaves_of}
use Rattle.tk_packer.specs.declared.request.Request.{Request}

-- ── a layout leaves nothing to do ──
same_itself : (rect : Rect) → is_same_rect rect rect ≡ true
same_itself rect = rw (eq-eqb rect.x rect.x refl, eq-eqb rect.y rect.y refl, eq-eqb rect.width rect.width refl, eq-eqb rect.height rect.height refl) refl

settled : (shape : Shape) (place : Option Rect) → changes_at (laid shape place) place ≡ []
settled shape None = refl
settled shape (Some rect) = rw (same_itself rect) refl

nothing_left : (shapes : List Shape) (places : List (Option Rect)) → changes_of (laid_out_shapes shapes places) places ≡ []
unfolding changes_of laid_out_shapes
nothing_left [] places = refl
nothing_left (shape ∷ shapes) [] = refl
nothing_left (shape ∷ shapes) (place ∷ places) = ap (λ cs. cs ++ changes_of (laid_out_shapes shapes places) places) (settled shape place) ∙ nothing_left shapes places

-- ── where windows lay is no input ──
size_unlaid : (shape : Shape) (requests : List Request) → size_asked (unlaid shape) requests ≡ size_asked shape requests
unfolding size_asked
size_unlaid shape [] = refl
size_unlaid shape (request ∷ requests) = refl

asked_unlaid : (slaves : ℕ → List Packed) (shape : Shape) (sizes : Sizes) → with_asked slaves (unlaid shape) sizes ≡ with_asked slaves shape sizes
unfolding with_asked
asked_unlaid slaves shape sizes = ap (λ size. (shape.number, size) ∷ sizes) (size_unlaid shape (requests_of sizes (slaves shape.number)))

sizes_unlaid : (slaves : ℕ → List Packed) (shapes : List Shape) → sizes_asked slaves (map unlaid shapes) ≡ sizes_asked slaves shapes
unfolding sizes_asked
sizes_unlaid slaves [] = refl
sizes_unlaid slaves (shape ∷ shapes) = ap (with_asked slaves (unlaid shape)) (sizes_unlaid slaves shapes) ∙ asked_unlaid slaves shape (sizes_asked slaves shapes)

after_unlaid : (slaves : ℕ → List Packed) (sizes : Sizes) (shape : Shape) (place : Option Rect) (given : Places) → given_after slaves sizes (unlaid shape) place given ≡ given_after slaves sizes shape place given
unfolding given_after
after_unlaid slaves sizes shape None given = refl
after_unlaid slaves sizes shape (Some rect) given = refl

placed_unlaid : (slaves : ℕ → List Packed) (sizes : Sizes) (shapes : List Shape) (given : Places) → placed slaves sizes given (map unlaid shapes) ≡ placed slaves sizes given shapes
unfolding placed
placed_unlaid slaves sizes [] given = refl
placed_unlaid slaves sizes (shape ∷ shapes) given =
    let place = lookup (nat_eq shape.number) given in
    ap (λ ps. place ∷ ps)
    (ap (λ gs. placed slaves sizes gs (map unlaid shapes)) (after_unlaid slaves sizes shape place given)
    ∙ placed_unlaid slaves sizes shapes (given_after slaves sizes shape place given))

first_unlaid : (size : ℕ × ℕ) (shapes : List Shape) → first_place size (map unlaid shapes) ≡ first_place size shapes
first_unlaid size [] = refl
first_unlaid size (shape ∷ shapes) = refl

layout_unlaid : (size : ℕ × ℕ) (packs : List Packed) (shapes : List Shape) → layout size packs (map unlaid shapes) ≡ layout size packs shapes
layout_unlaid size packs shapes =
    let slaves : ℕ → List Packed = λ master. slaves_of master packs in
    ap (λ sizes. placed slaves sizes (first_place size (map unlaid shapes)) (map unlaid shapes)) (sizes_unlaid slaves shapes)
    ∙ ap (λ given. placed slaves (sizes_asked slaves shapes) given (map unlaid shapes)) (first_unlaid size shapes)
    ∙ placed_unlaid slaves (sizes_asked slaves shapes) shapes (first_place size shapes)

pub layout_alike : (size : ℕ × ℕ) (packs : List Packed) (ones others : List Shape) → map unlaid ones ≡ map unlaid others → layout size packs ones ≡ layout size packs others
layout_alike size packs ones others alike = sym (layout_unlaid size packs ones) ∙ ap (layout size packs) alike ∙ layout_unlaid size packs others

laid_unlaid : (shape : Shape) (place : Option Rect) → unlaid (laid shape place) ≡ unlaid shape
laid_unlaid shape None = refl
laid_unlaid shape (Some rect) = refl

still_alike : (shapes : List Shape) (places : List (Option Rect)) → map unlaid (laid_out_shapes shapes places) ≡ map unlaid shapes
unfolding laid_out_shapes
still_alike [] places = refl
still_alike (shape ∷ shapes) [] = refl
still_alike (shape ∷ shapes) (place ∷ places) = ap (λ s. s ∷ map unlaid (laid_out_shapes shapes places)) (laid_unlaid shape place) ∙ ap (λ ss. unlaid shape ∷ ss) (still_alike shapes places)

pub laid_out_twice : (size : ℕ × ℕ) (packs : List Packed) (shapes : List Shape)
    → changes_of (laid_out_shapes shapes (layout size packs shapes)) (layout size packs (laid_out_shapes shapes (layout size packs shapes))) ≡ []
laid_out_twice size packs shapes =
    let places = layout size packs shapes in
    ap (changes_of (laid_out_shapes shapes places)) (layout_alike size packs (laid_out_shapes shapes places) shapes (still_alike shapes places)) ∙ nothing_left shapes places
