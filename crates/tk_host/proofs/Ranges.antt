-- Lines in range route events in range; so an application by itself has windows that lie near one another, and what is routed to it is told whole.
use Rattle.std.proofs.Common.{◌≡◌, ℕ, ℤ, pos, ◌-ℤ◌, zero, suc, ◌≤◌, Bool, true, false, cond, not, ◌&&◌, ◌||◌, ◌==◌, List, [], ◌∷◌, ◌++◌, Option, Some, None, refl, sym, subst, arith}
use Rattle.std.specs.Prelude.{filter, map, nat_eq, reverse, slice_get, slice_set, if◌then◌else◌}
use Rattle.std.specs.List.{AllByRecursion}
use Rattle.std.proofs.lemmas.Int.{ints}
use Rattle.std.proofs.lemmas.List.{reverse-append}
use Rattle.tk_base.specs.Rect.{last_place, most_pixels}
use Rattle.tk_base.specs.declared.local_event.LocalEvent.{LocalEvent}
use Rattle.tk_base.specs.declared.local_event.LocalKind.{LocalKind}
use Rattle.tk_base.specs.declared.local_event.LocalKind.TheVariants.{Position, FocusIn, FocusOut, Size, Press as PressAt, Release as ReleaseAt, Keydown as KeydownOf, Keyup as KeyupOf}
use Rattle.tk_base.specs.declared.rect.Rect.{Rect}
use Rattle.tk_route.specs.Buttons.{has, is_any_held}
use Rattle.tk_route.specs.Lines.{Line, pointer_after, pointer_by, rects_after, rects_by, values}
use Rattle.tk_route.specs.Refusals.{IsInRange}
use Rattle.tk_route.specs.Routes.{delivery, events_of, is_same, routed, routes, stamp_of, to, to_place, to_pointer, told, told_focus, told_move, told_press, told_rect, told_release, told_size, under_in}
use Rattle.tk_route.specs.Screen.{IsOnScreen}
use Rattle.tk_route.specs.Values.{Values, local, local_in}
use Rattle.tk_route.specs.declared.delivery.Delivery.{Delivery}
use Rattle.tk_route.specs.declared.line.HostLine.{HostLine}
use Rattle.tk_route.specs.declared.line.HostLine.TheVariants.{Move, Press, Release, Keydown, Keyup, Focus, Rect as Placed}
use Rattle.tk_route.specs.declared.place.Point.{Point}
use Rattle.tk_app.specs.Application.{Application, fresh, next_due, panel_at}
use Rattle.tk_app.specs.Commands.{Update}
use Rattle.tk_app.specs.Dispatch.{Action}
use Rattle.tk_app.specs.Due.{settled_if}
use Rattle.tk_app.specs.Moments.{delivered, settled_by}
use Rattle.tk_app.specs.Near.{RunsNear}
use Rattle.tk_app.specs.Ranges.{IsEventInRange, IsKindInRange, IsPlace, IsSize}
use Rattle.tk_app.specs.Seen.{Meaning}
use Rattle.tk_app.specs.Settle.{IsSettle, IsUpdate}
use Rattle.tk_app.specs.Spec.{Spec}
use Rattle.tk_app.proofs.Near.{near_stays}
use Rattle.tk_app.proofs.Told.{tells_whole}
use Rattle.tk_host.specs.Alone.{after_events_by, alone_by, at_moment_by, passed_by}
use Rattle.tk_host.specs.Ranges.{AloneInRange, AreEventsInRange, AreLinesInRange, AreOnScreen, RoutesInRange}

-- ── of lists ──

pub all_both : {X : Type 0} (P : X → Type 0) (xs ys : List X) → AllByRecursion P xs → AllByRecursion P ys → AllByRecursion P (xs ++ ys)
all_both P [] ys one other = other
all_both P (x ∷ xs) ys one other = (one.0, all_both P xs ys one.1 other)

pub all_reversed : {X : Type 0} (P : X → Type 0) (xs : List X) → AllByRecursion P xs → AllByRecursion P (reverse xs)
all_reversed P [] all = tt
all_reversed P (x ∷ xs) all =
    subst (AllByRecursion P) (sym (reverse-append (x ∷ []) xs)) (all_both P (reverse xs) (x ∷ []) (all_reversed P xs all.1) (all.0, tt))

-- ── rectangles, and the pointer ──

rects_set : (rects : List Rect) (slot : ℕ) (rect : Rect) → AreOnScreen rects → IsOnScreen rect → AreOnScreen (slice_set rects slot rect)
rects_set [] slot rect are is = tt
rects_set (first ∷ rects) zero rect are is = (is, are.1)
rects_set (first ∷ rects) (suc slot) rect are is = (are.0, rects_set rects slot rect are.1 is)

rect_lies : (rects : List Rect) (slot : ℕ) (rect : Rect) → AreOnScreen rects → slice_get rects slot ≡ Some rect → IsOnScreen rect
rect_lies [] slot rect are at = absurd (cc)
rect_lies (first ∷ rects) zero rect are at = subst IsFound at are.0
  where
    IsFound : Option Rect → Type 0
    IsFound None = Unit {0}
    IsFound (Some found) = IsOnScreen found
rect_lies (first ∷ rects) (suc slot) rect are at = rect_lies rects slot rect are.1 at

abbrev IsThere : Option Point → Type 0
IsThere None = Unit {0}
IsThere (Some point) = (point.x ≤ last_place) × (point.y ≤ last_place)

line_stays : (line : HostLine) (rects : List Rect) (pointer : Option Point) → AreOnScreen rects → IsThere pointer → IsInRange line → AreOnScreen (rects_by line rects) × IsThere (pointer_by line pointer)
line_stays (Move x y) rects pointer are there is = (are, is)
line_stays (Press button) rects pointer are there is = (are, there)
line_stays (Release button) rects pointer are there is = (are, there)
line_stays (Keydown key) rects pointer are there is = (are, there)
line_stays (Keyup key) rects pointer are there is = (are, there)
line_stays (Focus slot) rects pointer are there is = (are, there)
line_stays (Placed slot rect) rects pointer are there is = (rects_set rects slot rect are is, there)

lines_stay : (first : List Rect) (lines : List Line) → AreOnScreen first → AreLinesInRange lines → AreOnScreen (rects_after first lines) × IsThere (pointer_after lines)
lines_stay first [] are in_range = (are, tt)
lines_stay first (last ∷ earlier) are in_range =
    let before = lines_stay first earlier are in_range.1 in
    line_stays last.line (rects_after first earlier) (pointer_after earlier) before.0 before.1 in_range.0

-- a point, from where a rectangle begins
is_place : (place start : ℕ) → place ≤ last_place → start ≤ most_pixels → IsPlace (pos place -ℤ pos start)
is_place place start on begins = (omega (arith, ints), omega (arith, ints))

-- ── what is given ──

abbrev IsGiven : Delivery → Type 0
IsGiven given = IsEventInRange given.event

abbrev AreGiven : List Delivery → Type 0
AreGiven given = AllByRecursion IsGiven given

either : (b : Bool) (one other : List Delivery) → AreGiven one → AreGiven other → AreGiven (if b then one else other)
either true one other is rest = is
either false one other is rest = rest

to_in_range : (moment : ℕ) (held : Values) (slot : Option ℕ) (kind : LocalKind) → IsKindInRange kind → AreGiven (to (stamp_of moment held) slot kind)
to_in_range moment held None kind is = tt
to_in_range moment held (Some slot) kind is = (is, tt)

-- a kind of event that tells where the pointer is
abbrev TellsPlace : (ℤ → ℤ → LocalKind) → Type 0
TellsPlace kind = (x y : ℤ) → IsPlace x → IsPlace y → IsKindInRange (kind x y)

module _ (known : Values) (on : AreOnScreen known.rects) (there : IsThere known.pointer) (moment : ℕ) (held : Values) where
  pointer_in_range : (slot : Option ℕ) (kind : ℤ → ℤ → LocalKind) → TellsPlace kind → AreGiven (to_pointer (stamp_of moment held) known slot kind)
  pointer_in_range slot kind tells = by known.pointer slot there
    where
      placed : (point : Point) (slot : ℕ) → IsThere (Some point) → (rect : Option Rect) → slice_get known.rects slot ≡ rect → AreGiven (to_place (stamp_of moment held) (local_in point slot rect) kind)
      placed point slot is None at = tt
      placed point slot is (Some rect) at =
          let lies = rect_lies known.rects slot rect on at in
          (tells (pos point.x -ℤ pos rect.x) (pos point.y -ℤ pos rect.y) (is_place point.x rect.x is.0 lies.0) (is_place point.y rect.y is.1 lies.1), tt)

      by : (pointer : Option Point) (slot : Option ℕ) → IsThere pointer → AreGiven (to_place (stamp_of moment held) (local known.rects pointer slot) kind)
      by None None is = tt
      by None (Some slot) is = tt
      by (Some point) None is = tt
      by (Some point) (Some slot) is = placed point slot is (slice_get known.rects slot) refl

module _ (before after : Values) (on : AreOnScreen after.rects) (there : IsThere after.pointer) (moment : ℕ) where
  abbrev given : Option ℕ → (ℤ → ℤ → LocalKind) → List Delivery
  given slot kind = to_pointer (stamp_of moment before) after slot kind

  given_in_range : (slot : Option ℕ) (kind : ℤ → ℤ → LocalKind) → TellsPlace kind → AreGiven (given slot kind)
  given_in_range = pointer_in_range after on there moment before

  position_in_range : (slot : Option ℕ) → AreGiven (given slot Position)
  position_in_range slot = given_in_range slot Position (λ x y is_x is_y. (is_x, is_y))

  move_in_range : AreGiven (told_move (stamp_of moment before) before after)
  move_in_range =
      let first : List Delivery = if is_same (under_in before) (under_in after) then [] else given (under_in before) Position in
      either (is_any_held before.buttons) (given before.holder Position) (first ++ given (under_in after) Position) (position_in_range before.holder)
      (all_both IsGiven first (given (under_in after) Position)
      (either (is_same (under_in before) (under_in after)) [] (given (under_in before) Position) tt (position_in_range (under_in before))) (position_in_range (under_in after)))

  press_in_range : (button : ℕ) → (1 ≤ button) × (button ≤ 5) → AreGiven (told_press button (stamp_of moment before) before after)
  press_in_range button is =
      either (has button before.buttons) [] (given after.holder (PressAt button)) tt (given_in_range after.holder (PressAt button) (λ x y is_x is_y. (is, is_x, is_y)))

  release_in_range : (button : ℕ) → (1 ≤ button) × (button ≤ 5) → AreGiven (told_release button (stamp_of moment before) before after)
  release_in_range button is =
      let free : Bool = is_any_held after.buttons || is_same before.holder (under_in after) in
      let last : List Delivery = if free then [] else given (under_in after) Position in
      either (not (has button before.buttons)) [] (given before.holder (ReleaseAt button) ++ last) tt
      (all_both IsGiven (given before.holder (ReleaseAt button)) last (given_in_range before.holder (ReleaseAt button) (λ x y is_x is_y. (is, is_x, is_y)))
      (either free [] (given (under_in after) Position) tt (position_in_range (under_in after))))

  focus_in_range : (slot last : Option ℕ) → AreGiven (told_focus slot (stamp_of moment before) last)
  focus_in_range slot last =
      either (is_same last slot) [] (to (stamp_of moment before) last FocusOut ++ to (stamp_of moment before) slot FocusIn) tt
      (all_both IsGiven (to (stamp_of moment before) last FocusOut) (to (stamp_of moment before) slot FocusIn) (to_in_range moment before last FocusOut tt)
      (to_in_range moment before slot FocusIn tt))

  size_in_range : (slot : ℕ) (rect : Rect) (old : Option Rect) → IsOnScreen rect → AreGiven (told_size slot rect (stamp_of moment before) old)
  size_in_range slot rect None is = tt
  size_in_range slot rect (Some old) is =
      either (old.width == rect.width && old.height == rect.height) [] (delivery (stamp_of moment before) slot (Size rect.width rect.height) ∷ []) tt ((is.3, is.5), tt)

  rect_in_range : (slot : ℕ) (rect : Rect) → IsOnScreen rect → AreGiven (told_rect slot rect (stamp_of moment before) before after)
  rect_in_range slot rect is =
      let still : Bool = is_any_held before.buttons || is_same (under_in before) (under_in after) in
      let size : List Delivery = told_size slot rect (stamp_of moment before) (slice_get before.rects slot) in
      let last : List Delivery = if still then [] else given (Some slot) Position in
      all_both IsGiven size last (size_in_range slot rect (slice_get before.rects slot) is) (either still [] (given (Some slot) Position) tt (position_in_range (Some slot)))

  told_in_range : (line : HostLine) → IsInRange line → AreGiven (told line (stamp_of moment before) before after)
  told_in_range (Move x y) is = move_in_range
  told_in_range (Press button) is = press_in_range button is
  told_in_range (Release button) is = release_in_range button is
  told_in_range (Keydown key) is = to_in_range moment before before.focus (KeydownOf key) tt
  told_in_range (Keyup key) is = to_in_range moment before before.focus (KeyupOf key) tt
  told_in_range (Focus slot) is = focus_in_range slot before.focus
  told_in_range (Placed slot rect) is = rect_in_range slot rect is

-- ── what one application gets ──

events_in_range : (slot : ℕ) (given : List Delivery) → AreGiven given → AreEventsInRange (events_of slot given)
events_in_range slot [] are = tt
events_in_range slot (first ∷ given) are = by (first.slot == slot) (events_in_range slot given are.1)
  where
    by : (b : Bool) → AreEventsInRange (events_of slot given)
        → AreEventsInRange (map (λ (given : Delivery). given.event) (cond b (first ∷ filter (λ (given : Delivery). given.slot == slot) given) (filter (λ (given : Delivery). given.slot == slot) given)))
    by true rest = (are.0, rest)
    by false rest = rest

pub routes_in_range : RoutesInRange
routes_in_range first [] slot on in_range = tt
routes_in_range first (line ∷ earlier) slot on in_range =
    let before : Values = values first earlier in
    let after : Values = values first (line ∷ earlier) in
    let given : List Delivery = routes first earlier line in
    let there = lines_stay first (line ∷ earlier) on in_range in
    all_both IsEventInRange (reverse (events_of slot given)) (routed first earlier slot)
    (all_reversed IsEventInRange (events_of slot given)
    (events_in_range slot given
    (told_in_range before after there.0 there.1 line.moment line.line in_range.0)))
    (routes_in_range first earlier slot on in_range.1)

-- ── an application by itself ──

module _ {M : Type 0} (answer : M → Meaning) (update : Update) (is_update : IsUpdate update) (settle : Action) (meets : IsSettle update settle) where
  at_near : (moment : ℕ) (application : Application M) → RunsNear application → RunsNear (at_moment_by answer settle moment application)
  at_near moment application held = by (next_due application)
    where
      by_test : (b : Bool) → RunsNear (if b then settled_by answer settle moment application else application)
      by_test true = (near_stays answer update is_update settle meets).settled moment application held
      by_test false = held

      by : (o : Option ℕ) → RunsNear (settled_if next_due (settled_by answer settle) o moment application)
      by None = held
      by (Some due) = by_test (nat_eq due moment)

  passed_near : (last : ℕ) (application : Application M) → RunsNear application → RunsNear (passed_by answer settle last application)
  unfolding passed_by
  passed_near zero application held = at_near 0 application held
  passed_near (suc last) application held = at_near (suc last) (passed_by answer settle last application) (passed_near last application held)

  events_near : (spec : Spec M) (routed : List LocalEvent) → IsSize spec.width spec.height → AreEventsInRange routed → RunsNear (after_events_by answer update settle spec routed)
  events_near spec [] fits in_range =
      let stays = near_stays answer update is_update settle meets in
      stays.started 0 spec.script (fresh spec) (stays.fresh spec fits refl)
  events_near spec (event ∷ earlier) fits in_range =
      let stays = near_stays answer update is_update settle meets in
      let before : Application M = after_events_by answer update settle spec earlier in
      let there : Application M = passed_by answer settle event.moment before in
      stays.settled event.moment (delivered event there) (stays.delivered event there in_range.0 (passed_near event.moment before (events_near spec earlier fits in_range.1)))

  alone_near : (spec : Spec M) (routed : List LocalEvent) (last : ℕ) → IsSize spec.width spec.height → AreEventsInRange routed → RunsNear (alone_by answer update settle spec routed last)
  alone_near spec routed last fits in_range = passed_near last (after_events_by answer update settle spec routed) (events_near spec routed fits in_range)

pub alone_in_range : {M : Type 0} (answer : M → Meaning) → AloneInRange answer
alone_in_range answer = record {
  near = alone_near answer;
  whole = λ update is_update settle meets spec event earlier fits in_range runs.
      tells_whole event (panel_at event.moment (alone_by answer update settle spec earlier event.moment)) in_range.0
      (alone_near answer update is_update settle meets spec earlier event.moment fits in_range.1 runs);
}
