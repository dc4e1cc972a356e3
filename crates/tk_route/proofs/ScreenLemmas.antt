-- Which rectangle the pointer is in.
use Rattle.std.proofs.Common.{◌≡◌, ℕ, ◌+◌, ◌<◌, ◌≤◌, ◌↔◌, max, min, Bool, true, false, ◌&&◌, IsTrue, List, [], ◌∷◌, Option, Some, slice_get, slice_set, ◌⊎◌, inl, inr, zero, suc, ap, sym, ◌∙◌, refl, arith}
use Rattle.std.proofs.lemmas.Bool.Decides.{nat_tests}
use Rattle.std.proofs.lemmas.List.Quantifiers.{position-Some}
use Rattle.std.proofs.lemmas.Option.{get_or_from_slice_get}
use Rattle.tk_base.specs.Rect.{Meet, SharePixel}
use Rattle.tk_base.specs.declared.rect.Rect.{Rect}
use Rattle.tk_route.specs.Screen.{BeginsOnScreen, IsOnScreen, do_meet, holds, shares_pixel, slot_at}
use Rattle.tk_route.specs.declared.place.Point.{Point}

-- a rectangle that holds a point begins before it
begins_before : (rect : Rect) (point : Point) → holds rect point ≡ true → (rect.x ≤ point.x) × (rect.y ≤ point.y)
begins_before rect point held = (grind (arith, nat_tests), grind (arith, nat_tests))

pub BeginsOnScreen-slot_at : (rects : List Rect) (point : Point) → point.x < 65536 → point.y < 65536 → BeginsOnScreen rects (slot_at rects point)
BeginsOnScreen-slot_at rects point x_fits y_fits slot found rect stands =
    let held = (position-Some (λ other. holds other point) rects slot rect found).1 in
    let begins = begins_before rect point (sym (ap (λ other. holds other point) (get_or_from_slice_get rects slot rect rect stands)) ∙ held) in
    (omega arith, omega arith)

-- ---- pixels

cong_and : {a b : Bool} → a ≡ true → b ≡ true → (a && b) ≡ true
cong_and {a} {b} p q = cc

and_first : (a b : Bool) → (a && b) ≡ true → a ≡ true
and_first true b h = refl
and_first false b h = h

and_second : (a b : Bool) → (a && b) ≡ true → b ≡ true
and_second true b h = h
and_second false b h = cc

-- two tests of one fact
same_test : {P : Type 0} (a b : Bool) → (IsTrue a ↔ P) → (P → b ≡ true) → (b ≡ true → P) → a ≡ b
same_test true b fact to from = sym (to (fact.0 refl))
same_test false true fact to from = fact.1 (from refl)
same_test false false fact to from = refl

meet_at : (start length other_start other_length : ℕ) → do_meet start length other_start other_length ≡ true → Meet start length other_start other_length
meet_at start length other_start other_length h =
    (max start other_start, (grind (arith, nat_tests), grind (arith, nat_tests)), (grind (arith, nat_tests), grind (arith, nat_tests)))

meet_true : (start length other_start other_length : ℕ) → Meet start length other_start other_length → do_meet start length other_start other_length ≡ true
meet_true start length other_start other_length met =
    let a = met.1.0 in let b = met.1.1 in let c = met.2.0 in let d = met.2.1 in
    let below : max start other_start < min (start + length) (other_start + other_length) = omega arith in
    grind (arith, nat_tests)

pub shares_pixel-true : (rect other : Rect) → SharePixel rect other → shares_pixel rect other ≡ true
shares_pixel-true rect other shared =
    cong_and (meet_true rect.x rect.width other.x other.width (shared.0, shared.2.0, shared.3.0))
    (meet_true rect.y rect.height other.y other.height (shared.1, shared.2.1, shared.3.1))

pub SharePixel-shares_pixel : (rect other : Rect) → shares_pixel rect other ≡ true → SharePixel rect other
SharePixel-shares_pixel rect other h =
    let x = meet_at rect.x rect.width other.x other.width (and_first _ _ h) in
    let y = meet_at rect.y rect.height other.y other.height (and_second _ _ h) in
    (x.0, y.0, (x.1, y.1), (x.2, y.2))

pub same_as_shares_pixel : (answer : Bool) (rect other : Rect) → (IsTrue answer ↔ SharePixel rect other) → answer ≡ shares_pixel rect other
same_as_shares_pixel answer rect other fact =
    same_test answer (shares_pixel rect other) fact (shares_pixel-true rect other) (SharePixel-shares_pixel rect other)

-- ---- a rectangle moved

-- what stands in a list after a write is what was written, or it stood there before
stands_after : (rects : List Rect) (slot place : ℕ) (new rect : Rect) → slice_get (slice_set rects slot new) place ≡ Some rect
    → (rect ≡ new) ⊎ (slice_get rects place ≡ Some rect)
stands_after [] slot place new rect h = inr h
stands_after (x ∷ xs) zero zero new rect h = inl (cc)
stands_after (x ∷ xs) zero (suc place) new rect h = inr h
stands_after (x ∷ xs) (suc slot) zero new rect h = inr h
stands_after (x ∷ xs) (suc slot) (suc place) new rect h = stands_after xs slot place new rect h

pub BeginsOnScreen_set : (rects : List Rect) (slot : ℕ) (new : Rect) (holder : Option ℕ) → IsOnScreen new → BeginsOnScreen rects holder
    → BeginsOnScreen (slice_set rects slot new) holder
BeginsOnScreen_set rects slot new holder on_screen begins place holds_it rect stands =
    elim (stands_after rects slot place new rect stands) [
      | inl same ↦ rw same (omega arith, omega arith)
      | inr before ↦ begins place holds_it rect before
    ]
