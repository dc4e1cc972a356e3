-- What is told of windows that lie elsewhere, one after another, is what their layout changes.
use Rattle.std.proofs.Common.{◌≡◌, ℕ, zero, suc, ◌<◌, ◌≤◌, Bool, true, false, List, [], ◌∷◌, ◌++◌, length, set, Option, None, Some, refl, sym, ap, ◌∙◌, arith}
use Rattle.std.specs.Prelude.{if◌then◌else◌, slice_get}
use Rattle.std.proofs.lemmas.Bool.{eq-eqb}
use Rattle.tk_packer.specs.declared.changes.PlaceChange.{PlaceChange}
use Rattle.tk_packer.specs.declared.packed.Packed.{Packed}
use Rattle.tk_base.specs.declared.rect.Rect.{Rect}
use Rattle.tk_packer.specs.declared.shape.Shape.{Shape}
use Rattle.tk_packer.specs.Asked.{Sizes, requests_of, size_asked, sizes_asked, with_asked}
use Rattle.tk_packer.specs.Changes.{changes_at, changes_of, is_same_rect, laid, laid_out_shapes}
use Rattle.tk_packer.specs.Layout.{Places, cavity_of, first_place, give, given_after, layout_by, placed}
use Rattle.tk_packer.specs.Parcels.{arrangement}
use Rattle.tk_packer.specs.Standing.{IsStanding, Standing, shown}
use Rattle.std.specs.Prelude.{nat_eq}
use Rattle.std.specs.Map.{lookup}
use Rattle.tk_packer.proofs.Gets.{it_is}

same_itself : (rect : Rect) → is_same_rect rect rect ≡ true
same_itself rect = rw (eq-eqb rect.x rect.x refl, eq-eqb rect.y rect.y refl, eq-eqb rect.width rect.width refl, eq-eqb rect.height rect.height refl) refl

-- a window that lies where it is shown changes nothing
quiet : (shape : Shape) → changes_at shape (shown shape) ≡ []
quiet shape = by shape.mapped refl
  where
    by : (b : Bool) → shape.mapped ≡ b → changes_at shape (if b then Some shape.rectangle else None) ≡ []
    by true is = rw (same_itself shape.rectangle, is) refl
    by false is = rw is refl

settled : (shape : Shape) (place : Option Rect) → changes_at (laid shape place) place ≡ []
settled shape None = refl
settled shape (Some rect) = rw (same_itself rect) refl

laid_again : (shape : Shape) (place : Option Rect) → laid (laid shape place) place ≡ laid shape place
laid_again shape None = refl
laid_again shape (Some rect) = refl

laid_shown : (shape : Shape) → laid shape (shown shape) ≡ shape
laid_shown shape = by shape.mapped refl
  where
    by : (b : Bool) → shape.mapped ≡ b → laid shape (if b then Some shape.rectangle else None) ≡ shape
    by true is = ap (λ (m : Bool). record shape { mapped = m }) (sym is)
    by false is = ap (λ (m : Bool). record shape { mapped = m }) (sym is)

abbrev pub AreShown : ℕ → List Shape → List (Option Rect) → Type 0
AreShown n shapes places = (q : ℕ) (shape : Shape) (place : Option Rect) → q < n → slice_get shapes q ≡ Some shape → slice_get places q ≡ Some place → place ≡ shown shape

-- the windows before the first that may lie elsewhere do
pub shown_before : (s : Standing) → IsStanding s → (i : ℕ) → ((q : ℕ) → s.moved q ≡ true → i ≤ q) → AreShown i s.shapes s.places
shown_before s ok i first q shape place lt at_q at_p = ok.shown q (by (s.moved q) refl) shape place at_q at_p
  where
    by : (b : Bool) → s.moved q ≡ b → s.moved q ≡ false
    by true is = absurd (let le = first q is in omega (arith, le, lt))
    by false is = is

pub told_first : (shapes : List Shape) (places : List (Option Rect)) (i : ℕ) (shape : Shape) (place : Option Rect) → slice_get shapes i ≡ Some shape → slice_get places i ≡ Some place
    → AreShown i shapes places → changes_of shapes places ≡ changes_at shape place ++ changes_of (set shapes i (laid shape place)) places
unfolding changes_of
told_first [] places i shape place at_i at_place before = absurd (cc)
told_first (s ∷ shapes) [] i shape place at_i at_place before = absurd (cc)
told_first (s ∷ shapes) (p ∷ places) zero shape place at_i at_place before =
    ap (λ (x : Shape). changes_at x p ++ changes_of shapes places) (it_is s shape at_i)
    ∙ ap (λ (r : Option Rect). changes_at shape r ++ changes_of shapes places) (it_is p place at_place)
    ∙ ap (λ (cs : List PlaceChange). changes_at shape place ++ (cs ++ changes_of shapes places))
    (sym (ap (changes_at (laid shape place)) (it_is p place at_place) ∙ settled shape place))
told_first (s ∷ shapes) (p ∷ places) (suc i) shape place at_i at_place before =
    let none : changes_at s p ≡ [] = ap (changes_at s) (before zero s p (omega arith) refl refl) ∙ quiet s in
    ap (λ (cs : List PlaceChange). cs ++ changes_of shapes places) none
    ∙ told_first shapes places i shape place at_i at_place (λ q x r lt. before (suc q) x r (omega (arith, lt)))
    ∙ ap (λ (cs : List PlaceChange). changes_at shape place ++ (cs ++ changes_of (set shapes i (laid shape place)) places)) (sym none)

pub laid_first : (shapes : List Shape) (places : List (Option Rect)) (i : ℕ) (shape : Shape) (place : Option Rect) → slice_get shapes i ≡ Some shape → slice_get places i ≡ Some place
    → laid_out_shapes (set shapes i (laid shape place)) places ≡ laid_out_shapes shapes places
unfolding laid_out_shapes
laid_first [] places i shape place at_i at_place = absurd (cc)
laid_first (s ∷ shapes) [] i shape place at_i at_place = absurd (cc)
laid_first (s ∷ shapes) (p ∷ places) zero shape place at_i at_place =
    ap (λ (x : Shape). x ∷ laid_out_shapes shapes places)
    (ap (laid (laid shape place)) (it_is p place at_place) ∙ laid_again shape place ∙ ap (laid shape) (sym (it_is p place at_place)) ∙ ap (λ (x : Shape). laid x p) (sym (it_is s shape at_i)))
laid_first (s ∷ shapes) (p ∷ places) (suc i) shape place at_i at_place =
    ap (λ (xs : List Shape). laid s p ∷ xs) (laid_first shapes places i shape place at_i at_place)

pub none_told : (shapes : List Shape) (places : List (Option Rect)) → AreShown (length shapes) shapes places → changes_of shapes places ≡ []
unfolding changes_of
none_told [] places all = refl
none_told (s ∷ shapes) [] all = refl
none_told (s ∷ shapes) (p ∷ places) all =
    ap (λ (cs : List PlaceChange). cs ++ changes_of shapes places) (ap (changes_at s) (all zero s p (omega arith) refl refl) ∙ quiet s)
    ∙ none_told shapes places (λ q x r lt. all (suc q) x r (omega (arith, lt)))

pub none_laid : (shapes : List Shape) (places : List (Option Rect)) → AreShown (length shapes) shapes places → laid_out_shapes shapes places ≡ shapes
unfolding laid_out_shapes
none_laid [] places all = refl
none_laid (s ∷ shapes) [] all = refl
none_laid (s ∷ shapes) (p ∷ places) all =
    ap (λ (x : Shape). x ∷ laid_out_shapes shapes places) (ap (laid s) (all zero s p (omega arith) refl refl) ∙ laid_shown s)
    ∙ ap (λ (xs : List Shape). s ∷ xs) (none_laid shapes places (λ q x r lt. all (suc q) x r (omega (arith, lt))))

-- ── only what is packed in the windows counts ──

module _ (one other : ℕ → List Packed) where
  abbrev AgreeOn : List Shape → Type 0
  AgreeOn shapes = (i : ℕ) (shape : Shape) → slice_get shapes i ≡ Some shape → one shape.number ≡ other shape.number

  sizes_agree : (shapes : List Shape) → AgreeOn shapes → sizes_asked one shapes ≡ sizes_asked other shapes
  unfolding sizes_asked with_asked
  sizes_agree [] same = refl
  sizes_agree (s ∷ shapes) same =
      ap (λ (known : Sizes). (s.number, size_asked s (requests_of known (one s.number))) ∷ known) (sizes_agree shapes (λ i shape is. same (suc i) shape is))
      ∙ ap (λ (ps : List Packed). (s.number, size_asked s (requests_of (sizes_asked other shapes) ps)) ∷ sizes_asked other shapes) (same zero s refl)

  after_agrees : (sizes : Sizes) (s : Shape) (place : Option Rect) (given : Places) → one s.number ≡ other s.number → given_after one sizes s place given ≡ given_after other sizes s place given
  unfolding given_after
  after_agrees sizes s None given same = refl
  after_agrees sizes s (Some rect) given same =
      ap (λ (ps : List Packed). give s.border ps (arrangement (cavity_of rect s.border) (requests_of sizes ps)) given) same

  placed_agree : (sizes : Sizes) (shapes : List Shape) (given : Places) → AgreeOn shapes → placed one sizes given shapes ≡ placed other sizes given shapes
  unfolding placed
  placed_agree sizes [] given same = refl
  placed_agree sizes (s ∷ shapes) given same =
      let place : Option Rect = lookup (nat_eq s.number) given in
      ap (λ (ps : List (Option Rect)). place ∷ ps)
      (placed_agree sizes shapes (given_after one sizes s place given) (λ i shape is. same (suc i) shape is)
      ∙ ap (λ (gs : Places). placed other sizes gs shapes) (after_agrees sizes s place given (same zero s refl)))

  pub layouts_agree : (size : ℕ × ℕ) (shapes : List Shape) → AgreeOn shapes → layout_by one size shapes ≡ layout_by other size shapes
  layouts_agree size shapes same =
      placed_agree (sizes_asked one shapes) shapes (first_place size shapes) same
      ∙ ap (λ (sizes : Sizes). placed other sizes (first_place size shapes) shapes) (sizes_agree shapes same)
