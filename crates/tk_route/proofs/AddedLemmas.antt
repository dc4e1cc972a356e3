-- One application more, at the end of the slots, to which no line leads.
use Rattle.std.proofs.Common.{◌≡◌, ◌≢◌, ℕ, ◌+◌, ◌<◌, zero, suc, Bool, true, false, not, cond, if◌then◌else◌, List, [], ◌∷◌, ◌++◌, ◌||◌, length, reverse, Option, Some, None, slice_get, slice_set, refl, ap, sym, ◌∙◌, subst, arith}
use Rattle.std.proofs.lemmas.Iterator.Adapters.{position_from-zero}
use Rattle.std.proofs.lemmas.List.{length-set}
use Rattle.std.proofs.lemmas.List.Quantifiers.{position-Some}
use Rattle.std.specs.List.{position_from}
use Rattle.tk_base.specs.declared.rect.Rect.{Rect}
use Rattle.tk_base.specs.declared.local_event.LocalEvent.{LocalEvent}
use Rattle.tk_base.specs.declared.local_event.LocalKind.TheVariants.{Position, Press as PressAt, Release as ReleaseAt}
use Rattle.tk_route.specs.Added.{AllPassBy, PassesBy}
use Rattle.tk_route.specs.Lines.{Line, holder_after, is_any_held_after, pointer_after, pointer_by, rects_after, rects_by, under_after, values}
use Rattle.tk_route.specs.Routes.{events_of, is_same, routed, routes, stamp_of, to_place, told, told_size, under_in}
use Rattle.tk_route.specs.Screen.{holds, slot_at}
use Rattle.tk_route.specs.Buttons.{has, is_any_held}
use Rattle.tk_route.specs.Values.{Values, local, local_in, under}
use Rattle.tk_route.specs.declared.delivery.Delivery.{Delivery}
use Rattle.tk_route.specs.declared.delivery.Stamp.{Stamp}
use Rattle.tk_route.specs.declared.line.HostLine.{HostLine}
use Rattle.tk_route.specs.declared.line.HostLine.TheVariants.{Move, Press, Release, Keydown, Keyup, Focus, Rect as Placed}
use Rattle.tk_route.specs.declared.place.Place.{Place}
use Rattle.tk_route.specs.declared.place.Point.{Point}

-- ---- lists with one rectangle more

set-beside : (xs : List Rect) (r : Rect) (slot : ℕ) (new : Rect) → slot ≢ length xs → slice_set (xs ++ r ∷ []) slot new ≡ slice_set xs slot new ++ r ∷ []
set-beside [] r zero new ne = absurd (ne refl)
set-beside [] r (suc slot) new ne = refl
set-beside (x ∷ xs) r zero new ne = refl
set-beside (x ∷ xs) r (suc slot) new ne =
    let ne_below : slot ≢ length xs = λ e. ne (ap suc e) in
    ap (λ (l : List Rect). x ∷ l) (set-beside xs r slot new ne_below)

get-beside : (xs : List Rect) (r : Rect) (slot : ℕ) → slot ≢ length xs → slice_get (xs ++ r ∷ []) slot ≡ slice_get xs slot
get-beside [] r zero ne = absurd (ne refl)
get-beside [] r (suc slot) ne = refl
get-beside (x ∷ xs) r zero ne = refl
get-beside (x ∷ xs) r (suc slot) ne =
    let ne_below : slot ≢ length xs = λ e. ne (ap suc e) in
    get-beside xs r slot ne_below

from-beside : (test : Rect → Bool) (place : ℕ) (xs : List Rect) (r : Rect) → test r ≡ false → position_from test place (xs ++ r ∷ []) ≡ position_from test place xs
from-beside test place [] r miss = rw miss
from-beside test place (x ∷ xs) r miss =
    ap (λ (o : Option ℕ). cond (test x) (Some place) o) (from-beside test (place + 1) xs r miss)

slot_at-beside : (xs : List Rect) (r : Rect) (point : Point) → holds r point ≡ false → slot_at (xs ++ r ∷ []) point ≡ slot_at xs point
slot_at-beside xs r point miss =
    let test : Rect → Bool = λ rect. holds rect point in
    position_from-zero test (xs ++ r ∷ []) ∙ from-beside test 0 xs r miss ∙ sym (position_from-zero test xs)

under-beside : (xs : List Rect) (r : Rect) (pointer : Option Point) → ((point : Point) → pointer ≡ Some point → holds r point ≡ false)
    → under (xs ++ r ∷ []) pointer ≡ under xs pointer
under-beside xs r None miss = refl
under-beside xs r (Some point) miss = slot_at-beside xs r point (miss point refl)

-- the slot under the pointer is one of those that are there
under-within : (xs : List Rect) (pointer : Option Point) (slot : ℕ) → under xs pointer ≡ Some slot → slot < length xs
under-within xs None slot e = cc
under-within xs (Some point) slot e = (position-Some (λ rect. holds rect point) xs slot (record { x = 0; y = 0; width = 0; height = 0 }) e).0

local-beside : (xs : List Rect) (r : Rect) (pointer : Option Point) (slot : Option ℕ) → ((at : ℕ) → slot ≡ Some at → at ≢ length xs)
    → local (xs ++ r ∷ []) pointer slot ≡ local xs pointer slot
local-beside xs r None None other = refl
local-beside xs r (Some point) None other = refl
local-beside xs r None (Some slot) other = refl
local-beside xs r (Some point) (Some slot) other = ap (local_in point slot) (get-beside xs r slot (other slot refl))

-- ---- what the lines say

length-rects_by : (line : HostLine) (xs : List Rect) → length (rects_by line xs) ≡ length xs
length-rects_by (Move x y) xs = refl
length-rects_by (Press button) xs = refl
length-rects_by (Release button) xs = refl
length-rects_by (Keydown key) xs = refl
length-rects_by (Keyup key) xs = refl
length-rects_by (Focus slot) xs = refl
length-rects_by (Placed slot rect) xs = length-set xs slot rect

pub length-rects_after : (first : List Rect) (lines : List Line) → length (rects_after first lines) ≡ length first
length-rects_after first [] = refl
length-rects_after first (last ∷ earlier) = length-rects_by last.line (rects_after first earlier) ∙ length-rects_after first earlier

rects_by-beside : (line : HostLine) (xs : List Rect) (r : Rect) (added : ℕ) → added ≡ length xs → PassesBy added r line
    → rects_by line (xs ++ r ∷ []) ≡ rects_by line xs ++ r ∷ []
rects_by-beside (Move x y) xs r added is passes = refl
rects_by-beside (Press button) xs r added is passes = refl
rects_by-beside (Release button) xs r added is passes = refl
rects_by-beside (Keydown key) xs r added is passes = refl
rects_by-beside (Keyup key) xs r added is passes = refl
rects_by-beside (Focus slot) xs r added is passes = refl
rects_by-beside (Placed slot rect) xs r added is passes = set-beside xs r slot rect (λ e. passes (e ∙ sym is))

rects_after-beside : (first : List Rect) (r : Rect) (lines : List Line) → AllPassBy (length first) r lines
    → rects_after (first ++ r ∷ []) lines ≡ rects_after first lines ++ r ∷ []
rects_after-beside first r [] pass = refl
rects_after-beside first r (last ∷ earlier) pass =
    ap (rects_by last.line) (rects_after-beside first r earlier pass.1)
    ∙ rects_by-beside last.line (rects_after first earlier) r (length first) (sym (length-rects_after first earlier)) pass.0

missed_by : (line : HostLine) (before : Option Point) (added : ℕ) (r : Rect) → PassesBy added r line
    → ((point : Point) → before ≡ Some point → holds r point ≡ false) → (point : Point) → pointer_by line before ≡ Some point → holds r point ≡ false
missed_by (Move x y) before added r passes earlier point e =
    let here : Point = record { x = x; y = y } in
    let same : here ≡ point = cc in
    sym (ap (holds r) same) ∙ passes
missed_by (Press button) before added r passes earlier point e = earlier point e
missed_by (Release button) before added r passes earlier point e = earlier point e
missed_by (Keydown key) before added r passes earlier point e = earlier point e
missed_by (Keyup key) before added r passes earlier point e = earlier point e
missed_by (Focus slot) before added r passes earlier point e = earlier point e
missed_by (Placed slot rect) before added r passes earlier point e = earlier point e

missed : (added : ℕ) (r : Rect) (lines : List Line) → AllPassBy added r lines → (point : Point) → pointer_after lines ≡ Some point → holds r point ≡ false
missed added r [] pass point e = cc
missed added r (last ∷ earlier) pass point e =
    missed_by last.line (pointer_after earlier) added r pass.0 (missed added r earlier pass.1) point e

under_after-beside : (first : List Rect) (r : Rect) (lines : List Line) → AllPassBy (length first) r lines
    → under_after (first ++ r ∷ []) lines ≡ under_after first lines
under_after-beside first r lines pass =
    ap (λ (rects : List Rect). under rects (pointer_after lines)) (rects_after-beside first r lines pass)
    ∙ under-beside (rects_after first lines) r (pointer_after lines) (missed (length first) r lines pass)

same_choice : (a b : Bool) (h k u w : Option ℕ) → h ≡ k → u ≡ w
    → (if not a then None else (if b then h else u)) ≡ (if not a then None else (if b then k else w))
same_choice a b h k u w p q = cc

holder_after-beside : (first : List Rect) (r : Rect) (lines : List Line) → AllPassBy (length first) r lines
    → holder_after (first ++ r ∷ []) lines ≡ holder_after first lines
holder_after-beside first r [] pass = refl
holder_after-beside first r (last ∷ earlier) pass =
    same_choice (is_any_held_after (last ∷ earlier)) (is_any_held_after earlier) _ _ _ _
    (holder_after-beside first r earlier pass.1) (under_after-beside first r earlier pass.1)

chosen_within : (n : ℕ) (a b : Bool) (h u : Option ℕ) → ((slot : ℕ) → h ≡ Some slot → slot < n) → ((slot : ℕ) → u ≡ Some slot → slot < n)
    → (slot : ℕ) → (if not a then None else (if b then h else u)) ≡ Some slot → slot < n
chosen_within n false b h u p q slot e = cc
chosen_within n true true h u p q slot e = p slot e
chosen_within n true false h u p q slot e = q slot e

holder_after-within : (first : List Rect) (lines : List Line) (slot : ℕ) → holder_after first lines ≡ Some slot → slot < length first
holder_after-within first [] slot e = cc
holder_after-within first (last ∷ earlier) slot e =
    chosen_within (length first) (is_any_held_after (last ∷ earlier)) (is_any_held_after earlier) (holder_after first earlier) (under_after first earlier)
    (holder_after-within first earlier)
    (λ at found. subst (λ (n : ℕ). at < n) (length-rects_after first earlier) (under-within (rects_after first earlier) (pointer_after earlier) at found))
    slot e

-- ---- who gets a line

-- what is known with one rectangle more
abbrev widened : Values → Rect → Values
widened known r = record known { rects = known.rects ++ r ∷ [] }

values-beside : (first : List Rect) (r : Rect) (lines : List Line) → AllPassBy (length first) r lines
    → values (first ++ r ∷ []) lines ≡ widened (values first lines) r
values-beside first r lines pass =
    ap (λ (holder : Option ℕ). record (values (first ++ r ∷ []) lines) { holder = holder }) (holder_after-beside first r lines pass)
    ∙ ap (λ (rects : List Rect). record (values first lines) { rects = rects }) (rects_after-beside first r lines pass)

-- the shapes of the answers, over what goes into them
move_by : Bool → Bool → Option Place → Option Place → Option Place → Stamp → List Delivery
move_by any same held left entered stamp =
    if any then to_place stamp held Position else (if same then [] else to_place stamp left Position) ++ to_place stamp entered Position

release_by : ℕ → Bool → Bool → Bool → Option Place → Option Place → Stamp → List Delivery
release_by button was_held any same held entered stamp =
    if not was_held then [] else to_place stamp held (ReleaseAt button) ++ (if any || same then [] else to_place stamp entered Position)

rect_by : ℕ → Rect → Option Rect → Bool → Bool → Option Place → Stamp → List Delivery
rect_by slot rect before any same entered stamp =
    told_size slot rect stamp before ++ (if any || same then [] else to_place stamp entered Position)

move-cong : (any s t : Bool) (h k l m e f : Option Place) (stamp : Stamp) → s ≡ t → h ≡ k → l ≡ m → e ≡ f → move_by any s h l e stamp ≡ move_by any t k m f stamp
move-cong any s t h k l m e f stamp p q v w = cc

release-cong : (button : ℕ) (was any s t : Bool) (h k e f : Option Place) (stamp : Stamp) → s ≡ t → h ≡ k → e ≡ f
    → release_by button was any s h e stamp ≡ release_by button was any t k f stamp
release-cong button was any s t h k e f stamp p q v = cc

rect-cong : (slot : ℕ) (rect : Rect) (b c : Option Rect) (any s t : Bool) (e f : Option Place) (stamp : Stamp) → b ≡ c → s ≡ t → e ≡ f
    → rect_by slot rect b any s e stamp ≡ rect_by slot rect c any t f stamp
rect-cong slot rect b c any s t e f stamp p q v = cc

-- what a line leaves alone: no point in the rectangle, and no slot that would be its
record Beside (before after : Values) (r : Rect) : Type 0 where
  was_missed : (point : Point) → before.pointer ≡ Some point → holds r point ≡ false
  is_missed : (point : Point) → after.pointer ≡ Some point → holds r point ≡ false
  had : (at : ℕ) → before.holder ≡ Some at → at < length after.rects
  has_it : (at : ℕ) → after.holder ≡ Some at → at < length after.rects
  same_length : length after.rects ≡ length before.rects

told-beside : (line : HostLine) (stamp : Stamp) (before after : Values) (r : Rect) → Beside before after r → PassesBy (length before.rects) r line
    → told line stamp (widened before r) (widened after r) ≡ told line stamp before after
unfolding move_by release_by rect_by
told-beside (Move x y) stamp before after r beside passes =
    let was = under-beside before.rects r before.pointer beside.was_missed in
    let is = under-beside after.rects r after.pointer beside.is_missed in
    let same = beside.same_length in
    move-cong (is_any_held before.buttons) _ _ _ _ _ _ _ _ stamp
    (ap (λ (o : Option ℕ). is_same o (under_in (widened after r))) was ∙ ap (λ (o : Option ℕ). is_same (under_in before) o) is)
    (local-beside after.rects r after.pointer before.holder (λ at e. let below : at < length after.rects = beside.had at e in omega arith))
    (ap (local (after.rects ++ r ∷ []) after.pointer) was
    ∙ local-beside after.rects r after.pointer (under_in before) (λ at e. let below : at < length before.rects = under-within before.rects before.pointer at e in omega arith))
    (ap (local (after.rects ++ r ∷ []) after.pointer) is
    ∙ local-beside after.rects r after.pointer (under_in after) (λ at e. let below : at < length after.rects = under-within after.rects after.pointer at e in omega arith))
told-beside (Press button) stamp before after r beside passes =
    ap (λ (place : Option Place). if has button before.buttons then [] else to_place stamp place (PressAt button))
    (local-beside after.rects r after.pointer after.holder (λ at e. let below : at < length after.rects = beside.has_it at e in omega arith))
told-beside (Release button) stamp before after r beside passes =
    let is = under-beside after.rects r after.pointer beside.is_missed in
    release-cong button (has button before.buttons) (is_any_held after.buttons) _ _ _ _ _ _ stamp
    (ap (λ (o : Option ℕ). is_same before.holder o) is)
    (local-beside after.rects r after.pointer before.holder (λ at e. let below : at < length after.rects = beside.had at e in omega arith))
    (ap (local (after.rects ++ r ∷ []) after.pointer) is
    ∙ local-beside after.rects r after.pointer (under_in after) (λ at e. let below : at < length after.rects = under-within after.rects after.pointer at e in omega arith))
told-beside (Keydown key) stamp before after r beside passes = refl
told-beside (Keyup key) stamp before after r beside passes = refl
told-beside (Focus slot) stamp before after r beside passes = refl
told-beside (Placed slot rect) stamp before after r beside passes =
    let was = under-beside before.rects r before.pointer beside.was_missed in
    let is = under-beside after.rects r after.pointer beside.is_missed in
    rect-cong slot rect _ _ (is_any_held before.buttons) _ _ _ _ stamp (get-beside before.rects r slot passes)
    (ap (λ (o : Option ℕ). is_same o (under_in (widened after r))) was ∙ ap (λ (o : Option ℕ). is_same (under_in before) o) is)
    (local-beside after.rects r after.pointer (Some slot) (λ at e q. let same : slot ≡ at = cc in passes (same ∙ q ∙ beside.same_length)))

beside_of : (first : List Rect) (r : Rect) (earlier : List Line) (line : Line) → AllPassBy (length first) r (line ∷ earlier)
    → Beside (values first earlier) (values first (line ∷ earlier)) r
beside_of first r earlier line pass =
    let all = length-rects_after first (line ∷ earlier) in
    record {
      was_missed = missed (length first) r earlier pass.1;
      is_missed = missed (length first) r (line ∷ earlier) pass;
      had = λ at e. subst (λ (n : ℕ). at < n) (sym all) (holder_after-within first earlier at e);
      has_it = λ at e. subst (λ (n : ℕ). at < n) (sym all) (holder_after-within first (line ∷ earlier) at e);
      same_length = all ∙ sym (length-rects_after first earlier);
    }

routes-beside : (first : List Rect) (r : Rect) (earlier : List Line) (line : Line) → AllPassBy (length first) r (line ∷ earlier)
    → routes (first ++ r ∷ []) earlier line ≡ routes first earlier line
routes-beside first r earlier line pass =
    let before : Values = values first earlier in
    let after : Values = values first (line ∷ earlier) in
    ap (λ (v : Values). told line.line (stamp_of line.moment v) v (values (first ++ r ∷ []) (line ∷ earlier))) (values-beside first r earlier pass.1)
    ∙ ap (λ (v : Values). told line.line (stamp_of line.moment before) (widened before r) v) (values-beside first r (line ∷ earlier) pass)
    ∙ told-beside line.line (stamp_of line.moment before) before after r (beside_of first r earlier line pass)
    (subst (λ (n : ℕ). PassesBy n r line.line) (sym (length-rects_after first earlier)) pass.0)

pub routed-beside : (first : List Rect) (r : Rect) (lines : List Line) → AllPassBy (length first) r lines
    → (slot : ℕ) → routed (first ++ r ∷ []) lines slot ≡ routed first lines slot
routed-beside first r [] pass slot = refl
routed-beside first r (line ∷ earlier) pass slot =
    ap (λ (given : List Delivery). reverse (events_of slot given) ++ routed (first ++ r ∷ []) earlier slot) (routes-beside first r earlier line pass)
    ∙ ap (λ (rest : List LocalEvent). reverse (events_of slot (routes first earlier line)) ++ rest) (routed-beside first r earlier pass.1 slot)
