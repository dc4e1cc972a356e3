-- Changes that are told one window after another.
use Rattle.std.proofs.Common.{◌≡◌, ℕ, zero, suc, ◌+◌, ◌<◌, ◌≤◌, min, List, [], ◌∷◌, ◌++◌, length, get_or, drop, Option, refl, sym, ap, ◌∙◌, append_assoc, arith}
use Rattle.std.proofs.lemmas.List.{drop_more}
use Rattle.tk_base.specs.declared.rect.Rect.{Rect}
use Rattle.tk_packer.specs.Changes.{changes_at, changes_of}
use Rattle.tk_packer.specs.declared.changes.PlaceChange.{PlaceChange}
use Rattle.tk_packer.specs.declared.shape.Shape.{Shape}

-- one window more
pub told_more : (i : ℕ) (shapes : List Shape) (places : List (Option Rect)) (d : Shape) (e : Option Rect) (changes more all : List PlaceChange)
    → i < length shapes → i < length places → more ≡ changes ++ changes_at (get_or shapes i d) (get_or places i e)
    → changes ++ changes_of (drop i shapes) (drop i places) ≡ all → more ++ changes_of (drop (i + 1) shapes) (drop (i + 1) places) ≡ all
unfolding changes_of
told_more i shapes places d e changes more all lt_shapes lt_places is so_far =
    let shape = get_or shapes i d in
    let place = get_or places i e in
    ap (λ cs. cs ++ changes_of (drop (i + 1) shapes) (drop (i + 1) places)) is
    ∙ append_assoc changes (changes_at shape place) (changes_of (drop (i + 1) shapes) (drop (i + 1) places))
    ∙ sym (ap (λ ss. changes ++ changes_of ss (drop i places)) (drop_more shapes i d lt_shapes)
    ∙ ap (λ ps. changes ++ changes_of (shape ∷ drop (i + 1) shapes) ps) (drop_more places i e lt_places))
    ∙ so_far

none_told : (shapes : List Shape) → changes_of shapes [] ≡ []
unfolding changes_of
none_told [] = refl
none_told (shape ∷ shapes) = refl

-- no window is left
pub told_all : (i : ℕ) (shapes : List Shape) (places : List (Option Rect)) → min (length shapes) (length places) ≤ i → changes_of (drop i shapes) (drop i places) ≡ []
unfolding changes_of
told_all zero [] places le = refl
told_all (suc i) [] places le = refl
told_all zero (shape ∷ shapes) [] le = refl
told_all (suc i) (shape ∷ shapes) [] le = none_told (drop i shapes)
told_all zero (shape ∷ shapes) (place ∷ places) le = absurd (omega arith)
told_all (suc i) (shape ∷ shapes) (place ∷ places) le = told_all i shapes places (omega arith)
