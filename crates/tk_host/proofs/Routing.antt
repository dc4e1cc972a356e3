-- What a line gives is of its moment.
use Rattle.std.proofs.Common.{ℕ, ℤ, Bool, true, false, List, [], ◌∷◌, ◌++◌, Option, Some, None, refl}
use Rattle.std.specs.Prelude.{if◌then◌else◌, slice_get, ◌&&◌, ◌||◌, ◌==◌, not}
use Rattle.tk_base.specs.declared.rect.Rect.{Rect}
use Rattle.tk_base.specs.declared.local_event.LocalKind.{LocalKind}
use Rattle.tk_base.specs.declared.local_event.LocalKind.TheVariants.{Position, FocusIn, FocusOut, Press as PressAt, Release as ReleaseAt, Keydown as KeydownOf, Keyup as KeyupOf}
use Rattle.tk_route.specs.Lines.{Line, values}
use Rattle.tk_route.specs.Routes.{is_same, routes, stamp_of, to, to_place, to_pointer, told, told_size, under_in}
use Rattle.tk_route.specs.Buttons.{has, is_any_held}
use Rattle.tk_route.specs.Values.{Values, local}
use Rattle.tk_route.specs.declared.delivery.Delivery.{Delivery}
use Rattle.tk_route.specs.declared.line.HostLine.{HostLine}
use Rattle.tk_route.specs.declared.line.HostLine.TheVariants.{Move, Press, Release, Keydown, Keyup, Focus, Rect as Placed}
use Rattle.tk_host.specs.Slots.{AreAt}

both_at : (moment : ℕ) (given more : List Delivery) → AreAt moment given → AreAt moment more → AreAt moment (given ++ more)
both_at moment [] more all others = others
both_at moment (delivery ∷ given) more all others = (all.0, both_at moment given more all.1 others)

if_at : (b : Bool) (moment : ℕ) (given other : List Delivery) → AreAt moment given → AreAt moment other → AreAt moment (if b then given else other)
if_at true moment given other all others = all
if_at false moment given other all others = others

-- a line of this moment, by what is known before it
module _ (moment : ℕ) (before : Values) where
  to_at : (slot : Option ℕ) (kind : LocalKind) → AreAt moment (to (stamp_of moment before) slot kind)
  to_at None kind = tt
  to_at (Some slot) kind = (refl, tt)

  pointer_at : (after : Values) (slot : Option ℕ) (kind : ℤ → ℤ → LocalKind) → AreAt moment (to_pointer (stamp_of moment before) after slot kind)
  pointer_at after slot kind =
      elim (local after.rects after.pointer slot) as (λ place. AreAt moment (to_place (stamp_of moment before) place kind)) [ None ↦ tt | Some place ↦ (refl, tt) ]

  size_at : (slot : ℕ) (rect : Rect) (old : Option Rect) → AreAt moment (told_size slot rect (stamp_of moment before) old)
  size_at slot rect None = tt
  size_at slot rect (Some old) = if_at (old.width == rect.width && old.height == rect.height) moment _ _ tt (refl, tt)

  told_at : (line : HostLine) (after : Values) → AreAt moment (told line (stamp_of moment before) before after)
  told_at (Move x y) after =
      if_at (is_any_held before.buttons) moment _ _ (pointer_at after before.holder Position)
      (both_at moment _ _ (if_at (is_same (under_in before) (under_in after)) moment _ _ tt (pointer_at after (under_in before) Position)) (pointer_at after (under_in after) Position))
  told_at (Press button) after = if_at (has button before.buttons) moment _ _ tt (pointer_at after after.holder (PressAt button))
  told_at (Release button) after =
      if_at (not (has button before.buttons)) moment _ _ tt
      (both_at moment _ _ (pointer_at after before.holder (ReleaseAt button))
      (if_at (is_any_held after.buttons || is_same before.holder (under_in after)) moment _ _ tt (pointer_at after (under_in after) Position)))
  told_at (Keydown key) after = to_at before.focus (KeydownOf key)
  told_at (Keyup key) after = to_at before.focus (KeyupOf key)
  told_at (Focus slot) after = if_at (is_same before.focus slot) moment _ _ tt (both_at moment _ _ (to_at before.focus FocusOut) (to_at slot FocusIn))
  told_at (Placed slot rect) after =
      both_at moment _ _ (size_at slot rect (slice_get before.rects slot))
      (if_at (is_any_held before.buttons || is_same (under_in before) (under_in after)) moment _ _ tt (pointer_at after (Some slot) Position))

pub routes_at : (first : List Rect) (earlier : List Line) (line : Line) → AreAt line.moment (routes first earlier line)
routes_at first earlier line = told_at line.moment (values first earlier) line.line (values first (line ∷ earlier))
