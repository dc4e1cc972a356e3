-- Places that are given from the front of the list.
use Rattle.std.proofs.Common.{◌≡◌, ℕ, zero, suc, ◌+◌, ◌<◌, ◌≤◌, min, List, [], ◌∷◌, ◌++◌, length, get_or, drop, false, Option, Some, None, refl, sym, ap, ◌∙◌, subst, arith}
use Rattle.std.proofs.lemmas.List.{append-nil, drop_all, drop_more}
use Rattle.std.specs.Prelude.{◌^◌, nat_eq, All}
use Rattle.std.specs.Map.{lookup}
use Rattle.tk_base.specs.declared.rect.Rect.{Rect}
use Rattle.tk_packer.specs.Asked.{Sizes, requests_of}
use Rattle.tk_packer.specs.Arrangements.{Fits}
use Rattle.tk_packer.specs.Layout.{Places, cavity_of, counted_outside, with_place, give, given_after, placed}
use Rattle.tk_packer.specs.declared.shape.Shape.{Shape}
use Rattle.tk_packer.proofs.SameInputs.{Same, joined, one_more}
use Rattle.tk_packer.proofs.Sizes.{requests_same}
use Rattle.tk_packer.specs.declared.packed.Packed.{Packed}
use Rattle.tk_packer.proofs.Inside.{packed-lies}
use Rattle.tk_packer.specs.Parcels.{arrangement, LiesIn}
use Rattle.tk_packer.specs.declared.request.Request.{Request}

pub place_same : (border number : ℕ) (place : Option Rect) (one other : Places) → Same one other → Same (with_place border number place one) (with_place border number place other)
place_same border number None one other same = same
place_same border number (Some rect) one other same = one_more number (counted_outside border rect) (counted_outside border rect) one other refl same

pub give_same : (border : ℕ) (slaves : List Packed) (places : List (Option Rect)) (one other : Places) → Same one other → Same (give border slaves places one) (give border slaves places other)
unfolding give
give_same border [] places one other same = same
give_same border (packed ∷ slaves) [] one other same = same
give_same border (packed ∷ slaves) (place ∷ places) one other same =
    give_same border slaves places (with_place border packed.number place one) (with_place border packed.number place other) (place_same border packed.number place one other same)

pub after_same : (slaves : ℕ → List Packed) (sizes : Sizes) (shape : Shape) (place : Option Rect) (one other : Places) → Same one other → Same (given_after slaves sizes shape place one) (given_after slaves sizes shape place other)
unfolding given_after
after_same slaves sizes shape None one other same = same
after_same slaves sizes shape (Some rect) one other same =
    give_same shape.border (slaves shape.number) (arrangement (cavity_of rect shape.border) (requests_of sizes (slaves shape.number))) one other same

-- only what is found under the numbers counts
pub placed_same : (slaves : ℕ → List Packed) (sizes : Sizes) (shapes : List Shape) (one other : Places) → Same one other → placed slaves sizes one shapes ≡ placed slaves sizes other shapes
unfolding placed
placed_same slaves sizes [] one other same = refl
placed_same slaves sizes (shape ∷ shapes) one other same =
    ap (λ place. place ∷ placed slaves sizes (given_after slaves sizes shape place one) shapes) (same.found shape.number)
    ∙ ap (λ ps. lookup (nat_eq shape.number) other ∷ ps)
    (placed_same slaves sizes shapes (given_after slaves sizes shape (lookup (nat_eq shape.number) other) one) (given_after slaves sizes shape (lookup (nat_eq shape.number) other) other)
    (after_same slaves sizes shape (lookup (nat_eq shape.number) other) one other same))

sizes_after : (slaves : ℕ → List Packed) (one other : Sizes) (shape : Shape) (place : Option Rect) (given : Places) → Same one other → given_after slaves one shape place given ≡ given_after slaves other shape place given
unfolding given_after
sizes_after slaves one other shape None given same = refl
sizes_after slaves one other shape (Some rect) given same =
    ap (λ requests. give shape.border (slaves shape.number) (arrangement (cavity_of rect shape.border) requests) given) (requests_same one other same (slaves shape.number))

pub placed_sizes : (slaves : ℕ → List Packed) (one other : Sizes) (shapes : List Shape) (given : Places) → Same one other → placed slaves one given shapes ≡ placed slaves other given shapes
unfolding placed
placed_sizes slaves one other [] given same = refl
placed_sizes slaves one other (shape ∷ shapes) given same =
    let place = lookup (nat_eq shape.number) given in
    ap (λ ps. place ∷ ps)
    (ap (λ gs. placed slaves one gs shapes) (sizes_after slaves one other shape place given same)
    ∙ placed_sizes slaves one other shapes (given_after slaves other shape place given) same)

-- one window more
pub placed_more : (slaves : ℕ → List Packed) (sizes : Sizes) (places : List (Option Rect)) (shape : Shape) (shapes : List Shape) (given after : Places) (place : Option Rect)
    → place ≡ lookup (nat_eq shape.number) given → Same after (given_after slaves sizes shape place given)
    → (places ++ place ∷ []) ++ placed slaves sizes after shapes ≡ places ++ placed slaves sizes given (shape ∷ shapes)
unfolding placed
placed_more slaves sizes places shape shapes given after place is same =
    append_one places place (placed slaves sizes after shapes)
    ∙ ap (λ ps. places ++ place ∷ ps) (placed_same slaves sizes shapes after (given_after slaves sizes shape place given) same)
    ∙ ap (λ p. places ++ p ∷ placed slaves sizes (given_after slaves sizes shape p given) shapes) is
  where
    append_one : (xs : List (Option Rect)) (x : Option Rect) (ys : List (Option Rect)) → (xs ++ x ∷ []) ++ ys ≡ xs ++ x ∷ ys
    append_one [] x ys = refl
    append_one (z ∷ xs) x ys = ap (λ zs. z ∷ zs) (append_one xs x ys)

-- ── one slave more ──
pub given_more : (border i : ℕ) (slaves : List Packed) (places : List (Option Rect)) (d : Packed) (e : Option Rect) (given after all : Places)
    → i < length slaves → i < length places
    → Same after (with_place border (get_or slaves i d).number (get_or places i e) given) → Same (give border (drop i slaves) (drop i places) given) all
    → Same (give border (drop (i + 1) slaves) (drop (i + 1) places) after) all
unfolding give
given_more border i slaves places d e given after all lt_slaves lt_places same so_far =
    let packed = get_or slaves i d in
    let place = get_or places i e in
    let opens : give border (drop i slaves) (drop i places) given ≡ give border (drop (i + 1) slaves) (drop (i + 1) places) (with_place border packed.number place given) =
    ap (λ ss. give border ss (drop i places) given) (drop_more slaves i d lt_slaves)
    ∙ ap (λ ps. give border (packed ∷ drop (i + 1) slaves) ps given) (drop_more places i e lt_places) in
    joined _ _ _ (give_same border (drop (i + 1) slaves) (drop (i + 1) places) after (with_place border packed.number place given) same)
    (subst (λ g. Same g all) opens so_far)

-- no place is left
none_given : (border : ℕ) (slaves : List Packed) (given : Places) → give border slaves [] given ≡ given
unfolding give
none_given border [] given = refl
none_given border (packed ∷ slaves) given = refl

pub given_all : (border i : ℕ) (slaves : List Packed) (places : List (Option Rect)) (given : Places) → min (length slaves) (length places) ≤ i → give border (drop i slaves) (drop i places) given ≡ given
unfolding give
given_all border zero [] places given le = refl
given_all border (suc i) [] places given le = refl
given_all border zero (packed ∷ slaves) [] given le = refl
given_all border (suc i) (packed ∷ slaves) [] given le = none_given border (drop i slaves) given
given_all border zero (packed ∷ slaves) (place ∷ places) given le = absurd (omega arith)
given_all border (suc i) (packed ∷ slaves) (place ∷ places) given le = given_all border i slaves places given (omega arith)

-- ── one window more ──
pub given_none : (slaves : ℕ → List Packed) (sizes : Sizes) (shape : Shape) (rect : Rect) (given : Places) (own : List Packed) → own ≡ slaves shape.number → length own ≡ 0
    → given_after slaves sizes shape (Some rect) given ≡ given
unfolding given_after give
given_none slaves sizes shape rect given own is none =
    ap (λ ps. give shape.border ps (arrangement (cavity_of rect shape.border) (requests_of sizes ps)) given) (sym is) ∙ nothing own none
  where
    nothing : (ps : List Packed) → length ps ≡ 0 → give shape.border ps (arrangement (cavity_of rect shape.border) (requests_of sizes ps)) given ≡ given
    nothing [] none = refl
    nothing (packed ∷ ps) none = absurd (omega arith)

pub given_some : (slaves : ℕ → List Packed) (sizes : Sizes) (shape : Shape) (rect : Rect) (given after : Places) (own : List Packed) (places : List (Option Rect))
    → own ≡ slaves shape.number → places ≡ arrangement (cavity_of rect shape.border) (requests_of sizes own)
    → ((n : ℕ) → lookup (nat_eq n) after ≡ lookup (nat_eq n) (give shape.border own places given))
    → (n : ℕ) → lookup (nat_eq n) after ≡ lookup (nat_eq n) (given_after slaves sizes shape (Some rect) given)
unfolding given_after
given_some slaves sizes shape rect given after own places is places_is found = λ n.
    found n ∙ ap (λ qs. lookup (nat_eq n) (give shape.border own qs given)) places_is
    ∙ ap (λ ps. lookup (nat_eq n) (give shape.border ps (arrangement (cavity_of rect shape.border) (requests_of sizes ps)) given)) is

-- ── rectangles inside a border can be counted from outside it ──
lies_fits : (rect : Rect) (border : ℕ) (place : Option Rect) → rect.width < 2 ^ 32 → rect.height < 2 ^ 32 → LiesIn (cavity_of rect border) place → Fits border place
lies_fits rect border None wide high lies = tt
lies_fits rect border (Some inner) wide high lies = (omega (arith, lies.right, lies.width), omega (arith, lies.bottom, lies.height))

pub all_fit : (rect : Rect) (border : ℕ) (requests : List Request) (places : List (Option Rect)) → rect.width < 2 ^ 32 → rect.height < 2 ^ 32
    → places ≡ arrangement (cavity_of rect border) requests → All (Fits border) places
all_fit rect border requests places wide high is = λ k d lt.
    let size = cavity_of rect border in
    let lies = packed-lies size (record { start = 0; length = size.0 }) (record { start = 0; length = size.1 }) requests (omega arith) (omega arith) in
    lies_fits rect border (get_or places k d) wide high (subst (λ ps. k < length ps → LiesIn size (get_or ps k d)) (sym is) (lies k d) lt)

-- ── the steps of the walk from the front ──

-- what stands past a list's end
abbrev pub no_shape : Shape
no_shape = record { number = 0; width = 0; height = 0; border = 0; propagates = false; rectangle = record { x = 0; y = 0; width = 0; height = 0 }; mapped = false }

pub places_begin : (slaves : ℕ → List Packed) (sizes : Sizes) (shapes : List Shape) (first given : Places) (places : List (Option Rect)) → places ≡ []
    → ((n : ℕ) → lookup (nat_eq n) given ≡ lookup (nat_eq n) first) → places ++ placed slaves sizes given shapes ≡ placed slaves sizes first shapes
places_begin slaves sizes shapes first given places none found =
    ap (λ ps. ps ++ placed slaves sizes given shapes) none ∙ placed_same slaves sizes shapes given first (record { found = found })

pub places_more : (slaves : ℕ → List Packed) (sizes : Sizes) (shapes : List Shape) (i : ℕ) (d shape : Shape) (place : Option Rect) (given after : Places) (places more all : List (Option Rect))
    → i < length shapes → shape ≡ get_or shapes i d → place ≡ lookup (nat_eq shape.number) given → more ≡ places ++ place ∷ []
    → ((n : ℕ) → lookup (nat_eq n) after ≡ lookup (nat_eq n) (given_after slaves sizes shape place given))
    → places ++ placed slaves sizes given (drop i shapes) ≡ all → more ++ placed slaves sizes after (drop (i + 1) shapes) ≡ all
places_more slaves sizes shapes i d shape place given after places more all lt shape_is place_is more_is found so_far =
    ap (λ ps. ps ++ placed slaves sizes after (drop (i + 1) shapes)) more_is
    ∙ placed_more slaves sizes places shape (drop (i + 1) shapes) given after place place_is (record { found = found })
    ∙ ap (λ ss. places ++ placed slaves sizes given ss) (ap (λ s. s ∷ drop (i + 1) shapes) shape_is ∙ sym (drop_more shapes i d lt))
    ∙ so_far

pub places_end : (slaves : ℕ → List Packed) (sizes : Sizes) (shapes : List Shape) (i : ℕ) (given : Places) (places all : List (Option Rect)) → length shapes ≤ i
    → places ++ placed slaves sizes given (drop i shapes) ≡ all → places ≡ all
unfolding placed
places_end slaves sizes shapes i given places all le so_far =
    sym (append-nil places) ∙ sym (ap (λ ss. places ++ placed slaves sizes given ss) (drop_all i shapes le)) ∙ so_far
