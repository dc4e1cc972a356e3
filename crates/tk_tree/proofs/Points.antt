-- The windows below one at a point are those of its newest child that has the point.
use Rattle.std.proofs.Common.{◌≡◌, ℕ, ◌-◌, ◌≤◌, Bool, true, false, if◌then◌else◌, List, [], ◌∷◌, ◌++◌, Option, Some, None, refl, sym, ap, ◌∙◌, arith}
use Rattle.std.specs.Prelude.{reverse}
use Rattle.std.proofs.lemmas.Bool.{eq-eqb, ne_eqb}
use Rattle.std.proofs.lemmas.List.{reverse-append}
use Rattle.tk_base.specs.Numbered.{numbered, AllAbove, IsRising}
use Rattle.tk_tree.specs.declared.window.Window.{Window}
use Rattle.tk_tree.specs.Own.{HasOlderParent, HaveOlderParents, IsSound, Tree, child_numbers, is_child_of}
use Rattle.tk_tree.specs.Ways.{at_point, has_point, or_other}
use Rattle.tk_tree.specs.Window.{number_of}
use Rattle.tk_tree.proofs.Orders.{not_child}

skip_point : (window : Window) (windows : List Window) (number x y : ℕ) → HasOlderParent window → window.number ≤ number → at_point number x y (window ∷ windows) ≡ at_point number x y windows
unfolding at_point
skip_point window windows number x y older le = rw (not_child window number older le) refl

-- Of each of these windows: it is the one that has its number, and those below it stand behind it.
abbrev Stand : List Window → List Window → Type 0
Stand whole [] = Unit {0}
Stand whole (window ∷ windows) =
    (numbered number_of window.number whole ≡ Some window) × ((x y : ℕ) → at_point window.number x y whole ≡ at_point window.number x y windows) × Stand whole windows

stand_behind : (first : Window) (whole windows : List Window) → Stand whole windows → AllAbove number_of first.number windows → HasOlderParent first → Stand (first ∷ whole) windows
stand_behind first whole [] stand above older = tt
stand_behind first whole (window ∷ windows) stand above older = (
  rw (ne_eqb first.number window.number (λ e. omega (arith, e, above.0))) stand.0,
  λ x y. skip_point first whole window.number x y older (omega (arith, above.0)) ∙ stand.1 x y,
  stand_behind first whole windows stand.2 above.1 older,
)

stand_all : (windows : List Window) → IsRising number_of windows → HaveOlderParents windows → Stand windows windows
stand_all [] rising older = tt
stand_all (window ∷ windows) rising older = (
  rw (eq-eqb window.number window.number refl) refl,
  λ x y. skip_point window windows window.number x y older.0 (omega arith),
  stand_behind window windows windows (stand_all windows rising.1 older.1) rising.0 older.0,
)

-- ── children from the newest on ──
abbrev or_on : ℕ → ℕ → List Window → Option Window → List ℕ → List ℕ
or_on x y whole None other = other
or_on x y whole (Some child) other = if has_point x y child then child.number ∷ at_point child.number (x - child.rectangle.x) (y - child.rectangle.y) whole else other

-- the first of these children that has the point, and on from it
abbrev pub at_children : ℕ → ℕ → List Window → List ℕ → List ℕ
at_children x y whole [] = []
at_children x y whole (number ∷ numbers) = or_on x y whole (numbered number_of number whole) (at_children x y whole numbers)

or_on_other : (x y : ℕ) (whole : List Window) (child : Option Window) (a b : List ℕ) → or_on x y whole child (or_other a b) ≡ or_other (or_on x y whole child a) b
or_on_other x y whole None a b = refl
or_on_other x y whole (Some child) a b = by (has_point x y child) refl
  where
    by : (t : Bool) → has_point x y child ≡ t → or_on x y whole (Some child) (or_other a b) ≡ or_other (or_on x y whole (Some child) a) b
    by true is = rw is refl
    by false is = rw is refl

children_more : (x y : ℕ) (whole : List Window) (numbers : List ℕ) (number : ℕ) → at_children x y whole (numbers ++ number ∷ []) ≡ or_other (at_children x y whole numbers) (at_children x y whole (number ∷ []))
children_more x y whole [] number = refl
children_more x y whole (n ∷ numbers) number =
    ap (or_on x y whole (numbered number_of n whole)) (children_more x y whole numbers number) ∙ or_on_other x y whole (numbered number_of n whole) (at_children x y whole numbers) (at_children x y whole (number ∷ []))

or_nothing : (a : List ℕ) → or_other a [] ≡ a
or_nothing [] = refl
or_nothing (n ∷ a) = refl

by_children : (whole : List Window) (number x y : ℕ) (windows : List Window) → Stand whole windows → at_point number x y windows ≡ at_children x y whole (reverse (child_numbers number windows))
unfolding at_point
by_children whole number x y [] stand = refl
by_children whole number x y (window ∷ windows) stand = by (is_child_of number window) refl (by_children whole number x y windows stand.2)
  where
    one : at_children x y whole (window.number ∷ []) ≡ or_on x y whole (Some window) []
    one = ap (λ found. or_on x y whole found []) stand.0

    point : (t : Bool) → has_point x y window ≡ t → at_point number x y windows ≡ at_children x y whole (reverse (child_numbers number windows))
        → (if has_point x y window then or_other (at_point number x y windows) (window.number ∷ at_point window.number (x - window.rectangle.x) (y - window.rectangle.y) windows) else at_point number x y windows)
        ≡ or_other (at_children x y whole (reverse (child_numbers number windows))) (or_on x y whole (Some window) [])
    point true has rest =
        rw has (ap (λ found. or_other found (window.number ∷ at_point window.number (x - window.rectangle.x) (y - window.rectangle.y) windows)) rest
        ∙ ap (λ on. or_other (at_children x y whole (reverse (child_numbers number windows))) (window.number ∷ on)) (sym (stand.1 (x - window.rectangle.x) (y - window.rectangle.y))))
    point false has rest = rw has (rest ∙ sym (or_nothing (at_children x y whole (reverse (child_numbers number windows)))))

    by : (b : Bool) → is_child_of number window ≡ b → at_point number x y windows ≡ at_children x y whole (reverse (child_numbers number windows))
        → at_point number x y (window ∷ windows) ≡ at_children x y whole (reverse (child_numbers number (window ∷ windows)))
    by true is rest =
        rw is (point (has_point x y window) refl rest ∙ sym (ap (at_children x y whole) (reverse-append (window.number ∷ []) (child_numbers number windows)) ∙ children_more x y whole (reverse (child_numbers number windows)) window.number
        ∙ ap (or_other (at_children x y whole (reverse (child_numbers number windows)))) one))
    by false is rest = rw is rest

pub from_children : (own : Tree) → IsSound own → (number x y : ℕ) → at_point number x y own.windows ≡ at_children x y own.windows (reverse (child_numbers number own.windows))
from_children own sound number x y = by_children own.windows number x y own.windows (stand_all own.windows sound.rising sound.parents)

-- ── one child after another ──
pub newest_first : (x y : ℕ) (whole : List Window) (older : List ℕ) (newest : ℕ) → at_children x y whole (reverse (older ++ newest ∷ [])) ≡ or_on x y whole (numbered number_of newest whole) (at_children x y whole (reverse older))
newest_first x y whole older newest = ap (at_children x y whole) (reverse-append older (newest ∷ []))

pub has_it : (x y : ℕ) (child : Window) → has_point x y child ≡ true → (child.rectangle.x ≤ x) × (child.rectangle.y ≤ y)
has_it x y child has = grind (arith, has)
