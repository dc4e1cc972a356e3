-- Rectangles that are apart, and one more; and whether names repeat.
use Rattle.std.proofs.Common.{◌≡◌, suc, ◌+◌, ◌<◌, Bool, true, false, ◌&&◌, ◌||◌, not, List, [], ◌∷◌, ◌++◌, length, refl, sym, ap, ◌∙◌, arith}
use Rattle.std.specs.Prelude.{Any}
use Rattle.std.specs.List.{list_any}
use Rattle.tk_base.specs.declared.rect.Rect.{Rect}
use Rattle.tk_base.specs.Rect.{SharePixel}
use Rattle.tk_route.specs.Screen.{are_apart, shares_pixel}
use Rattle.tk_route.proofs.ScreenLemmas.{SharePixel-shares_pixel}
use Rattle.tk_route.specs.Values.{Values}
use Rattle.tk_app.specs.Part.{Part}
use Rattle.tk_host.specs.declared.phase.Phase.{Phase}
use Rattle.tk_host.specs.declared.phase.Phase.TheVariants.{Adding, Reached}
use Rattle.tk_host.specs.Ready.{IsRouted}

any_first : {X : Type 0} (P : X → Type 0) (x : X) (xs : List X) → P x → Any P (x ∷ xs)
any_first P x xs holds = (0, x, omega arith, refl, holds)

any_later : {X : Type 0} (P : X → Type 0) (x : X) (xs : List X) → Any P xs → Any P (x ∷ xs)
any_later P x xs (k, y, within, is, holds) = (suc k, y, omega (arith, within), is, holds)

-- a rectangle that shares no pixel with those before
list_any_more : (rect other : Rect) (rects : List Rect) → shares_pixel rect other ≡ false → list_any (λ r. shares_pixel rect r) rects ≡ false
    → list_any (λ r. shares_pixel rect r) (rects ++ other ∷ []) ≡ false
list_any_more rect other [] apart none = ap (λ b. b || false) apart
list_any_more rect other (r ∷ rects) apart none = by (shares_pixel rect r) none (list_any_more rect other rects apart)
  where
    by : (b : Bool) → (b || list_any (λ r. shares_pixel rect r) rects) ≡ false
        → (list_any (λ r. shares_pixel rect r) rects ≡ false → list_any (λ r. shares_pixel rect r) (rects ++ other ∷ []) ≡ false)
        → (b || list_any (λ r. shares_pixel rect r) (rects ++ other ∷ [])) ≡ false
    by true is more = cc
    by false is more = more is

pub apart_more : (rects : List Rect) (other : Rect) → are_apart rects ≡ true → ¬ Any (λ rect. SharePixel rect other) rects → are_apart (rects ++ other ∷ []) ≡ true
apart_more [] other apart free = refl
apart_more (rect ∷ rects) other apart free =
    by (list_any (λ r. shares_pixel rect r) rects) refl (are_apart rects) refl apart (shares_pixel rect other) refl
    (λ rest. apart_more rects other rest (λ any. free (any_later (λ r. SharePixel r other) rect rects any)))
  where
    by : (b : Bool) → list_any (λ r. shares_pixel rect r) rects ≡ b → (c : Bool) → are_apart rects ≡ c → (not b && c) ≡ true → (d : Bool) → shares_pixel rect other ≡ d
        → (are_apart rects ≡ true → are_apart (rects ++ other ∷ []) ≡ true)
        → (not (list_any (λ r. shares_pixel rect r) (rects ++ other ∷ [])) && are_apart (rects ++ other ∷ [])) ≡ true
    by true any c rest all d shares more = cc
    by false none false rest all d shares more = cc
    by false none true rest all true shares more = absurd (free (any_first (λ r. SharePixel r other) rect rects (SharePixel-shares_pixel rect other shares)))
    by false none true rest all false shares more = ap (λ x. not x && are_apart (rects ++ other ∷ [])) (list_any_more rect other rects shares none) ∙ more rest

one_more : {X : Type 0} (xs : List X) (x : X) → length (xs ++ x ∷ []) ≡ length xs + 1
one_more [] x = refl
one_more (y ∷ ys) x = let rest = one_more ys x in omega (arith, rest)

-- while applications are added
pub routed_more : {M : Type 0} (phase : Phase) (rects more : List Rect) (rect : Rect) (known : Values) (parts after : List (Part M)) (part : Part M) → phase ≡ Adding → IsRouted phase rects known parts
    → more ≡ rects ++ rect ∷ [] → after ≡ parts ++ part ∷ [] → length parts < 16 → ¬ Any (λ other. SharePixel other rect) rects → IsRouted phase more known after
routed_more phase rects more rect known parts after part is routed longer all few free =
    let was = routed.adding is in
    let rects_more : length more ≡ length rects + 1 = ap (λ rs. length rs) longer ∙ one_more rects rect in
    let parts_more : length after ≡ length parts + 1 = ap (λ ps. length ps) all ∙ one_more parts part in
    record {
      adding = λ e. (ap are_apart longer ∙ apart_more rects rect was.0 free, omega (arith, rects_more, few, was.2), omega (arith, rects_more, parts_more, was.2));
      reached = λ last e. let wrong : Adding ≡ Reached last = sym is ∙ e in cc;
    }
