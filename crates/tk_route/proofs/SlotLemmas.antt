-- One application more, at a place among the slots, into whose rectangle no line leads.
use Rattle.std.proofs.Common.{◌≡◌, ℕ, ◌+◌, ◌≤◌, zero, suc, Bool, true, false, not, cond, eqb, if◌then◌else◌, List, [], ◌∷◌, ◌++◌, ◌||◌, length, map, reverse, Option, Some, None, option_map, slice_get, slice_set, inl, inr, refl, ap, sym, ◌∙◌, subst, arith, add-one, length-append}
use Rattle.std.proofs.lemmas.Bool.{cases_Bool, eq-eqb, eqb-true, ne_eqb, eqb-false}
use Rattle.std.proofs.lemmas.Iterator.Adapters.{position_from-zero}
use Rattle.std.proofs.lemmas.List.{map-append}
use Rattle.std.specs.List.{position_from}
use Rattle.tk_base.specs.declared.rect.Rect.{Rect}
use Rattle.tk_base.specs.declared.local_event.LocalEvent.{LocalEvent}
use Rattle.tk_base.specs.declared.local_event.LocalKind.{LocalKind}
use Rattle.tk_base.specs.declared.local_event.LocalKind.TheVariants.{Position, FocusIn, FocusOut, Press as PressAt, Release as ReleaseAt, Keydown as KeydownOf, Keyup as KeyupOf}
use Rattle.tk_base.specs.Names as names
use Rattle.tk_route.specs.Added.{AllMiss, Misses, line_up, lines_up, up}
use Rattle.tk_route.specs.Lines.{Line, focus_after, focus_by, holder_after, is_any_held_after, is_down, is_down_by, is_held, is_held_by, is_locked, is_locked_by, moment_after, pointer_after, pointer_by, rects_after, rects_by, under_after, values}
use Rattle.tk_route.specs.Routes.{delivery, events_of, is_same, routed, routes, stamp_of, to, to_place, told, told_size, under_in}
use Rattle.tk_route.specs.Screen.{holds}
use Rattle.tk_route.specs.Buttons.{has, is_any_held}
use Rattle.tk_route.specs.Values.{Values, local, local_in, under}
use Rattle.tk_route.specs.declared.buttons.Buttons.{Buttons}
use Rattle.tk_route.specs.declared.delivery.Delivery.{Delivery}
use Rattle.tk_route.specs.declared.delivery.Stamp.{Stamp}
use Rattle.tk_route.specs.declared.keys.ModifierKeys.{ModifierKeys}
use Rattle.tk_route.specs.declared.line.HostLine.{HostLine}
use Rattle.tk_route.specs.declared.line.HostLine.TheVariants.{Move, Press, Release, Keydown, Keyup, Focus, Rect as Placed}
use Rattle.tk_route.specs.declared.place.Place.{Place}
use Rattle.tk_route.specs.declared.place.Point.{Point}
use Rattle.tk_route.proofs.AddedLemmas.{length-rects_after}

-- ---- slots and rectangles with one more

-- the rectangles with one more at a place
abbrev with_rect : ℕ → Rect → List Rect → List Rect
with_rect zero r xs = r ∷ xs
with_rect (suc place) r [] = r ∷ []
with_rect (suc place) r (x ∷ xs) = x ∷ with_rect place r xs

with_rect-append : (front back : List Rect) (r : Rect) → with_rect (length front) r (front ++ back) ≡ front ++ r ∷ back
with_rect-append [] back r = refl
with_rect-append (x ∷ front) back r = ap (λ (l : List Rect). x ∷ l) (with_rect-append front back r)

up_apart : (place a b : ℕ) → up place a ≡ up place b → a ≡ b
up_apart zero a b e = omega arith
up_apart (suc place) zero zero e = refl
up_apart (suc place) zero (suc b) e = absurd (omega arith)
up_apart (suc place) (suc a) zero e = absurd (omega arith)
up_apart (suc place) (suc a) (suc b) e = ap suc (up_apart place a b (omega arith))

eqb-up : (place a b : ℕ) → eqb (up place a) (up place b) ≡ eqb a b
eqb-up place a b =
    elim (cases_Bool (eqb a b)) [
      | inl same ↦ eq-eqb _ _ (ap (up place) (eqb-true a b same)) ∙ sym same
      | inr other ↦ ne_eqb _ _ (λ e. eqb-false a b other (up_apart place a b e)) ∙ sym other
    ]

get-with_rect : (place : ℕ) (xs : List Rect) (r : Rect) (slot : ℕ) → place ≤ length xs → slice_get (with_rect place r xs) (up place slot) ≡ slice_get xs slot
get-with_rect zero xs r slot h = refl
get-with_rect (suc place) [] r slot h = absurd (omega arith)
get-with_rect (suc place) (x ∷ xs) r zero h = refl
get-with_rect (suc place) (x ∷ xs) r (suc slot) h = get-with_rect place xs r slot (omega arith)

set-with_rect : (place : ℕ) (xs : List Rect) (r : Rect) (slot : ℕ) (new : Rect) → place ≤ length xs
    → slice_set (with_rect place r xs) (up place slot) new ≡ with_rect place r (slice_set xs slot new)
set-with_rect zero xs r slot new h = refl
set-with_rect (suc place) [] r slot new h = absurd (omega arith)
set-with_rect (suc place) (x ∷ xs) r zero new h = refl
set-with_rect (suc place) (x ∷ xs) r (suc slot) new h = ap (λ (l : List Rect). x ∷ l) (set-with_rect place xs r slot new (omega arith))

next_place : (b : Bool) (k : ℕ) (o p : Option ℕ) → p ≡ option_map (λ n. n + 1) o → cond b (Some (k + 1)) p ≡ option_map (λ n. n + 1) (cond b (Some k) o)
next_place true k o p e = refl
next_place false k o p e = e

position_from-next : (test : Rect → Bool) (k : ℕ) (xs : List Rect) → position_from test (k + 1) xs ≡ option_map (λ n. n + 1) (position_from test k xs)
position_from-next test k [] = refl
position_from-next test k (x ∷ xs) = next_place (test x) k _ _ (position_from-next test (k + 1) xs)

next_is_up : (o : Option ℕ) → option_map (λ n. n + 1) o ≡ option_map (up zero) o
next_is_up None = refl
next_is_up (Some n) = ap Some (add-one n)

passed : (b : Bool) (place : ℕ) (o p : Option ℕ) → p ≡ option_map (up place) o
    → cond b (Some 0) (option_map (λ n. n + 1) p) ≡ option_map (up (suc place)) (cond b (Some 0) (option_map (λ n. n + 1) o))
passed true place o p e = refl
passed false place None p e = ap (option_map (λ n. n + 1)) e
passed false place (Some n) p e = ap (option_map (λ n. n + 1)) e ∙ ap Some (add-one (up place n) ∙ sym (ap (up (suc place)) (add-one n)))

position_from-with_rect : (test : Rect → Bool) (place : ℕ) (xs : List Rect) (r : Rect) → place ≤ length xs → test r ≡ false
    → position_from test 0 (with_rect place r xs) ≡ option_map (up place) (position_from test 0 xs)
position_from-with_rect test zero xs r h miss = rw miss (position_from-next test 0 xs ∙ next_is_up (position_from test 0 xs))
position_from-with_rect test (suc place) [] r h miss = absurd (omega arith)
position_from-with_rect test (suc place) (x ∷ xs) r h miss =
    ap (λ (o : Option ℕ). cond (test x) (Some 0) o) (position_from-next test 0 (with_rect place r xs))
    ∙ passed (test x) place (position_from test 0 xs) (position_from test 0 (with_rect place r xs)) (position_from-with_rect test place xs r (omega arith) miss)
    ∙ ap (λ (o : Option ℕ). option_map (up (suc place)) (cond (test x) (Some 0) o)) (sym (position_from-next test 0 xs))

under-with_rect : (place : ℕ) (xs : List Rect) (r : Rect) (pointer : Option Point) → place ≤ length xs → ((point : Point) → pointer ≡ Some point → holds r point ≡ false)
    → under (with_rect place r xs) pointer ≡ option_map (up place) (under xs pointer)
under-with_rect place xs r None h miss = refl
under-with_rect place xs r (Some point) h miss =
    let test : Rect → Bool = λ rect. holds rect point in
    position_from-zero test (with_rect place r xs)
    ∙ position_from-with_rect test place xs r h (miss point refl)
    ∙ ap (option_map (up place)) (sym (position_from-zero test xs))

-- a place of the pointer for an application that has moved up
abbrev place_up : ℕ → Place → Place
place_up by place = record place { slot = up by place.slot }

local_in-up : (by : ℕ) (point : Point) (slot : ℕ) (rect : Option Rect) → local_in point (up by slot) rect ≡ option_map (place_up by) (local_in point slot rect)
local_in-up by point slot None = refl
local_in-up by point slot (Some rect) = refl

local-with_rect : (place : ℕ) (xs : List Rect) (r : Rect) (pointer : Option Point) (slot : Option ℕ) → place ≤ length xs
    → local (with_rect place r xs) pointer (option_map (up place) slot) ≡ option_map (place_up place) (local xs pointer slot)
local-with_rect place xs r None None h = refl
local-with_rect place xs r (Some point) None h = refl
local-with_rect place xs r None (Some slot) h = refl
local-with_rect place xs r (Some point) (Some slot) h =
    ap (local_in point (up place slot)) (get-with_rect place xs r slot h) ∙ local_in-up place point slot (slice_get xs slot)

is_same-up : (place : ℕ) (a b : Option ℕ) → is_same (option_map (up place) a) (option_map (up place) b) ≡ is_same a b
is_same-up place None None = refl
is_same-up place None (Some b) = refl
is_same-up place (Some a) None = refl
is_same-up place (Some a) (Some b) = eqb-up place a b

-- ---- what the lines say

-- what names no slot is said of a line where the slots have moved up, too
pub record SaysSame (line other : HostLine) : Type 0 where
  pub pointer : (before : Option Point) → pointer_by other before ≡ pointer_by line before
  pub held : (button : ℕ) (before : Bool) → is_held_by button other before ≡ is_held_by button line before
  pub down : (key : ℕ) (before : Bool) → is_down_by key other before ≡ is_down_by key line before
  pub locked : (before : Bool) → is_locked_by other before ≡ is_locked_by line before

line_says-up : (place : ℕ) (line : HostLine) → SaysSame line (line_up place line)
line_says-up place (Move x y) = record { pointer = λ before. refl; held = λ button before. refl; down = λ key before. refl; locked = λ before. refl }
line_says-up place (Press pressed) = record { pointer = λ before. refl; held = λ button before. refl; down = λ key before. refl; locked = λ before. refl }
line_says-up place (Release released) = record { pointer = λ before. refl; held = λ button before. refl; down = λ key before. refl; locked = λ before. refl }
line_says-up place (Keydown pressed) = record { pointer = λ before. refl; held = λ button before. refl; down = λ key before. refl; locked = λ before. refl }
line_says-up place (Keyup released) = record { pointer = λ before. refl; held = λ button before. refl; down = λ key before. refl; locked = λ before. refl }
line_says-up place (Focus None) = record { pointer = λ before. refl; held = λ button before. refl; down = λ key before. refl; locked = λ before. refl }
line_says-up place (Focus (Some slot)) = record { pointer = λ before. refl; held = λ button before. refl; down = λ key before. refl; locked = λ before. refl }
line_says-up place (Placed slot rect) = record { pointer = λ before. refl; held = λ button before. refl; down = λ key before. refl; locked = λ before. refl }

focus_by-up : (place : ℕ) (line : HostLine) (before : Option ℕ) → focus_by (line_up place line) (option_map (up place) before) ≡ option_map (up place) (focus_by line before)
focus_by-up place (Move x y) before = refl
focus_by-up place (Press button) before = refl
focus_by-up place (Release button) before = refl
focus_by-up place (Keydown key) before = refl
focus_by-up place (Keyup key) before = refl
focus_by-up place (Focus None) before = refl
focus_by-up place (Focus (Some slot)) before = refl
focus_by-up place (Placed slot rect) before = refl

rects_by-up : (place : ℕ) (line : HostLine) (xs : List Rect) (r : Rect) → place ≤ length xs → rects_by (line_up place line) (with_rect place r xs) ≡ with_rect place r (rects_by line xs)
rects_by-up place (Move x y) xs r h = refl
rects_by-up place (Press button) xs r h = refl
rects_by-up place (Release button) xs r h = refl
rects_by-up place (Keydown key) xs r h = refl
rects_by-up place (Keyup key) xs r h = refl
rects_by-up place (Focus None) xs r h = refl
rects_by-up place (Focus (Some slot)) xs r h = refl
rects_by-up place (Placed slot rect) xs r h = set-with_rect place xs r slot rect h

pointer_after-up : (place : ℕ) (lines : List Line) → pointer_after (lines_up place lines) ≡ pointer_after lines
pointer_after-up place [] = refl
pointer_after-up place (last ∷ earlier) =
    (line_says-up place last.line).pointer (pointer_after (lines_up place earlier)) ∙ ap (pointer_by last.line) (pointer_after-up place earlier)

is_held-up : (place button : ℕ) (lines : List Line) → is_held button (lines_up place lines) ≡ is_held button lines
is_held-up place button [] = refl
is_held-up place button (last ∷ earlier) =
    (line_says-up place last.line).held button (is_held button (lines_up place earlier)) ∙ ap (is_held_by button last.line) (is_held-up place button earlier)

is_down-up : (place key : ℕ) (lines : List Line) → is_down key (lines_up place lines) ≡ is_down key lines
is_down-up place key [] = refl
is_down-up place key (last ∷ earlier) =
    (line_says-up place last.line).down key (is_down key (lines_up place earlier)) ∙ ap (is_down_by key last.line) (is_down-up place key earlier)

is_locked-up : (place : ℕ) (lines : List Line) → is_locked (lines_up place lines) ≡ is_locked lines
is_locked-up place [] = refl
is_locked-up place (last ∷ earlier) =
    (line_says-up place last.line).locked (is_locked (lines_up place earlier)) ∙ ap (is_locked_by last.line) (is_locked-up place earlier)

focus_after-up : (place : ℕ) (lines : List Line) → focus_after (lines_up place lines) ≡ option_map (up place) (focus_after lines)
focus_after-up place [] = refl
focus_after-up place (last ∷ earlier) =
    ap (focus_by (line_up place last.line)) (focus_after-up place earlier) ∙ focus_by-up place last.line (focus_after earlier)

rects_after-up : (place : ℕ) (first : List Rect) (r : Rect) (lines : List Line) → place ≤ length first
    → rects_after (with_rect place r first) (lines_up place lines) ≡ with_rect place r (rects_after first lines)
rects_after-up place first r [] h = refl
rects_after-up place first r (last ∷ earlier) h =
    ap (rects_by (line_up place last.line)) (rects_after-up place first r earlier h)
    ∙ rects_by-up place last.line (rects_after first earlier) r (subst (λ (n : ℕ). place ≤ n) (sym (length-rects_after first earlier)) h)

any_of : (a b c d e p q s t u : Bool) → a ≡ p → b ≡ q → c ≡ s → d ≡ t → e ≡ u → (a || b || c || d || e) ≡ (p || q || s || t || u)
any_of a b c d e p q s t u f g h i j = cc

any_held-up : (place : ℕ) (lines : List Line) → is_any_held_after (lines_up place lines) ≡ is_any_held_after lines
any_held-up place lines =
    any_of _ _ _ _ _ _ _ _ _ _ (is_held-up place 1 lines) (is_held-up place 2 lines) (is_held-up place 3 lines) (is_held-up place 4 lines) (is_held-up place 5 lines)

missed_by : (line : HostLine) (before : Option Point) (r : Rect) → Misses r line → ((point : Point) → before ≡ Some point → holds r point ≡ false)
    → (point : Point) → pointer_by line before ≡ Some point → holds r point ≡ false
missed_by (Move x y) before r misses earlier point e =
    let here : Point = record { x = x; y = y } in
    let same : here ≡ point = cc in
    sym (ap (holds r) same) ∙ misses
missed_by (Press button) before r misses earlier point e = earlier point e
missed_by (Release button) before r misses earlier point e = earlier point e
missed_by (Keydown key) before r misses earlier point e = earlier point e
missed_by (Keyup key) before r misses earlier point e = earlier point e
missed_by (Focus slot) before r misses earlier point e = earlier point e
missed_by (Placed slot rect) before r misses earlier point e = earlier point e

missed : (r : Rect) (lines : List Line) → AllMiss r lines → (point : Point) → pointer_after lines ≡ Some point → holds r point ≡ false
missed r [] miss point e = cc
missed r (last ∷ earlier) miss point e = missed_by last.line (pointer_after earlier) r miss.0 (missed r earlier miss.1) point e

under_after-up : (place : ℕ) (first : List Rect) (r : Rect) (lines : List Line) → place ≤ length first → AllMiss r lines
    → under_after (with_rect place r first) (lines_up place lines) ≡ option_map (up place) (under_after first lines)
under_after-up place first r lines h miss =
    ap (λ (rects : List Rect). under rects (pointer_after (lines_up place lines))) (rects_after-up place first r lines h)
    ∙ ap (under (with_rect place r (rects_after first lines))) (pointer_after-up place lines)
    ∙ under-with_rect place (rects_after first lines) r (pointer_after lines) (subst (λ (n : ℕ). place ≤ n) (sym (length-rects_after first lines)) h) (missed r lines miss)

held_choice : (f : ℕ → ℕ) (a b p q : Bool) (h u k w : Option ℕ) → a ≡ p → b ≡ q → h ≡ option_map f k → u ≡ option_map f w
    → (if not a then None else (if b then h else u)) ≡ option_map f (if not p then None else (if q then k else w))
held_choice f a b false q h u k w d e i j = rw d refl
held_choice f a b true true h u k w d e i j = rw (d, e) i
held_choice f a b true false h u k w d e i j = rw (d, e) j

holder_after-up : (place : ℕ) (first : List Rect) (r : Rect) (lines : List Line) → place ≤ length first → AllMiss r lines
    → holder_after (with_rect place r first) (lines_up place lines) ≡ option_map (up place) (holder_after first lines)
holder_after-up place first r [] h miss = refl
holder_after-up place first r (last ∷ earlier) h miss =
    held_choice (up place) _ _ (is_any_held_after (last ∷ earlier)) (is_any_held_after earlier) _ _ (holder_after first earlier) (under_after first earlier)
    (any_held-up place (last ∷ earlier)) (any_held-up place earlier)
    (holder_after-up place first r earlier h miss.1) (under_after-up place first r earlier h miss.1)

-- what is known with one application more
abbrev values_up : ℕ → Rect → Values → Values
values_up place r known = record known { rects = with_rect place r known.rects; holder = option_map (up place) known.holder; focus = option_map (up place) known.focus }

moment_after-up : (place : ℕ) (lines : List Line) → moment_after (lines_up place lines) ≡ moment_after lines
moment_after-up place [] = refl
moment_after-up place (last ∷ earlier) = refl

made : List Rect → ℕ → Option Point → Buttons → Option ℕ → Option ℕ → ModifierKeys → Values
made rects moment pointer buttons holder focus keys = record { rects = rects; moment = moment; pointer = pointer; buttons = buttons; holder = holder; focus = focus; keys = keys }

made-cong : (a b : List Rect) (m n : ℕ) (p q : Option Point) (f g : Buttons) (h i j k : Option ℕ) (s t : ModifierKeys)
    → a ≡ b → m ≡ n → p ≡ q → f ≡ g → h ≡ i → j ≡ k → s ≡ t → made a m p f h j s ≡ made b n q g i k t
made-cong a b m n p q f g h i j k s t u v w x y z c = cc

buttons_of : Bool → Bool → Bool → Bool → Bool → Buttons
buttons_of a b c d e = record { first = a; second = b; third = c; fourth = d; fifth = e }

buttons-cong : (a b c d e p q s t u : Bool) → a ≡ p → b ≡ q → c ≡ s → d ≡ t → e ≡ u → buttons_of a b c d e ≡ buttons_of p q s t u
buttons-cong a b c d e p q s t u f g h i j = cc

keys_of : Bool → Bool → Bool → Bool → Bool → Bool → Bool → ModifierKeys
keys_of a b c d e f l = record { shift_left = a; shift_right = b; control_left = c; control_right = d; alt_left = e; alt_right = f; lock = l }

keys-cong : (a b c d e f l p q s t u v m : Bool) → a ≡ p → b ≡ q → c ≡ s → d ≡ t → e ≡ u → f ≡ v → l ≡ m → keys_of a b c d e f l ≡ keys_of p q s t u v m
keys-cong a b c d e f l p q s t u v m g h i j k n o = cc

values-up : (place : ℕ) (first : List Rect) (r : Rect) (lines : List Line) → place ≤ length first → AllMiss r lines
    → values (with_rect place r first) (lines_up place lines) ≡ values_up place r (values first lines)
unfolding made buttons_of keys_of
values-up place first r lines h miss =
    made-cong _ _ _ _ _ _ _ _ _ _ _ _ _ _
    (rects_after-up place first r lines h)
    (moment_after-up place lines)
    (pointer_after-up place lines)
    (buttons-cong _ _ _ _ _ _ _ _ _ _ (is_held-up place 1 lines) (is_held-up place 2 lines) (is_held-up place 3 lines) (is_held-up place 4 lines) (is_held-up place 5 lines))
    (holder_after-up place first r lines h miss)
    (focus_after-up place lines)
    (keys-cong _ _ _ _ _ _ _ _ _ _ _ _ _ _ (is_down-up place names.shift_left lines) (is_down-up place names.shift_right lines) (is_down-up place names.control_left lines) (is_down-up place names.control_right lines) (is_down-up place names.alt_left lines) (is_down-up place names.alt_right lines) (is_locked-up place lines))

-- ---- who gets a line

abbrev delivery_up : ℕ → Delivery → Delivery
delivery_up place given = record given { slot = up place given.slot }

to-up : (place : ℕ) (stamp : Stamp) (slot : Option ℕ) (kind : LocalKind) → to stamp (option_map (up place) slot) kind ≡ map (delivery_up place) (to stamp slot kind)
to-up place stamp None kind = refl
to-up place stamp (Some slot) kind = refl

-- the pointer's place for an application, and so what it is told
told_at : (place : ℕ) (stamp : Stamp) (given own : Option Place) (kind : _) → given ≡ option_map (place_up place) own → to_place stamp given kind ≡ map (delivery_up place) (to_place stamp own kind)
told_at place stamp given None kind e = ap (λ (o : Option Place). to_place stamp o kind) e
told_at place stamp given (Some own) kind e = ap (λ (o : Option Place). to_place stamp o kind) e

-- what is known before and after a line, as far as it matters
record Above (place : ℕ) (before after : Values) (r : Rect) : Type 0 where
  was_missed : (point : Point) → before.pointer ≡ Some point → holds r point ≡ false
  is_missed : (point : Point) → after.pointer ≡ Some point → holds r point ≡ false
  room_before : place ≤ length before.rects
  room : place ≤ length after.rects

place_in : (place : ℕ) (after : Values) (r : Rect) (slot own : Option ℕ) → place ≤ length after.rects → slot ≡ option_map (up place) own
    → local (with_rect place r after.rects) after.pointer slot ≡ option_map (place_up place) (local after.rects after.pointer own)
place_in place after r slot own h e = ap (local (with_rect place r after.rects) after.pointer) e ∙ local-with_rect place after.rects r after.pointer own h

same_in : (place : ℕ) (a b c d : Option ℕ) → a ≡ option_map (up place) c → b ≡ option_map (up place) d → is_same a b ≡ is_same c d
same_in place a b c d e f = ap (λ (o : Option ℕ). is_same o b) e ∙ ap (is_same (option_map (up place) c)) f ∙ is_same-up place c d

move_up : (f : Delivery → Delivery) (any s t : Bool) (h k l m e n : List Delivery) → s ≡ t → h ≡ map f k → l ≡ map f m → e ≡ map f n
    → (if any then h else (if s then [] else l) ++ e) ≡ map f (if any then k else (if t then [] else m) ++ n)
move_up f true s t h k l m e n p q u v = q
move_up f false s true h k l m e n p q u v = rw p v
move_up f false s false h k l m e n p q u v = rw (p, u, v) (sym (map-append f m n))

press_up : (f : Delivery → Delivery) (held : Bool) (h k : List Delivery) → h ≡ map f k → (if held then [] else h) ≡ map f (if held then [] else k)
press_up f true h k p = refl
press_up f false h k p = p

release_up : (f : Delivery → Delivery) (was any s t : Bool) (h k e n : List Delivery) → s ≡ t → h ≡ map f k → e ≡ map f n
    → (if not was then [] else h ++ (if any || s then [] else e)) ≡ map f (if not was then [] else k ++ (if any || t then [] else n))
release_up f false any s t h k e n p q u = refl
release_up f true true s t h k e n p q u = rw q (sym (map-append f k []))
release_up f true false s true h k e n p q u = rw (p, q) (sym (map-append f k []))
release_up f true false s false h k e n p q u = rw (p, q, u) (sym (map-append f k n))

rect_up : (f : Delivery → Delivery) (any s t : Bool) (h k e n : List Delivery) → s ≡ t → h ≡ map f k → e ≡ map f n
    → h ++ (if any || s then [] else e) ≡ map f (k ++ (if any || t then [] else n))
rect_up f true s t h k e n p q u = rw q (sym (map-append f k []))
rect_up f false s true h k e n p q u = rw (p, q) (sym (map-append f k []))
rect_up f false s false h k e n p q u = rw (p, q, u) (sym (map-append f k n))

focus_up : (place : ℕ) (s t : Bool) (stamp : Stamp) (before slot : Option ℕ) → s ≡ t
    → (if s then [] else to stamp (option_map (up place) before) FocusOut ++ to stamp (option_map (up place) slot) FocusIn)
    ≡ map (delivery_up place) (if t then [] else to stamp before FocusOut ++ to stamp slot FocusIn)
focus_up place s true stamp before slot p = rw p refl
focus_up place s false stamp before slot p =
    rw (p, to-up place stamp before FocusOut, to-up place stamp slot FocusIn) (sym (map-append (delivery_up place) (to stamp before FocusOut) (to stamp slot FocusIn)))

size_choice : (place slot : ℕ) (b : Bool) (stamp : Stamp) (kind : LocalKind)
    → (if b then [] else delivery stamp (up place slot) kind ∷ []) ≡ map (delivery_up place) (if b then [] else delivery stamp slot kind ∷ [])
size_choice place slot true stamp kind = refl
size_choice place slot false stamp kind = refl

size_up : (place slot : ℕ) (rect : Rect) (stamp : Stamp) (before : Option Rect) → told_size (up place slot) rect stamp before ≡ map (delivery_up place) (told_size slot rect stamp before)
size_up place slot rect stamp None = refl
size_up place slot rect stamp (Some before) = size_choice place slot _ stamp _

told-up : (place : ℕ) (line : HostLine) (stamp : Stamp) (before after : Values) (r : Rect) → Above place before after r
    → told (line_up place line) stamp (values_up place r before) (values_up place r after) ≡ map (delivery_up place) (told line stamp before after)
told-up place (Move x y) stamp before after r above =
    let was = under-with_rect place before.rects r before.pointer above.room_before above.was_missed in
    let is = under-with_rect place after.rects r after.pointer above.room above.is_missed in
    move_up (delivery_up place) (is_any_held before.buttons) _ _ _ _ _ _ _ _
    (same_in place _ _ (under_in before) (under_in after) was is)
    (told_at place stamp _ _ Position (place_in place after r _ before.holder above.room refl))
    (told_at place stamp _ _ Position (place_in place after r _ (under_in before) above.room was))
    (told_at place stamp _ _ Position (place_in place after r _ (under_in after) above.room is))
told-up place (Press button) stamp before after r above =
    press_up (delivery_up place) (has button before.buttons) _ _ (told_at place stamp _ _ (PressAt button) (place_in place after r _ after.holder above.room refl))
told-up place (Release button) stamp before after r above =
    let is = under-with_rect place after.rects r after.pointer above.room above.is_missed in
    release_up (delivery_up place) (has button before.buttons) (is_any_held after.buttons) _ _ _ _ _ _
    (same_in place _ _ before.holder (under_in after) refl is)
    (told_at place stamp _ _ (ReleaseAt button) (place_in place after r _ before.holder above.room refl))
    (told_at place stamp _ _ Position (place_in place after r _ (under_in after) above.room is))
told-up place (Keydown key) stamp before after r above = to-up place stamp before.focus (KeydownOf key)
told-up place (Keyup key) stamp before after r above = to-up place stamp before.focus (KeyupOf key)
told-up place (Focus None) stamp before after r above = focus_up place _ _ stamp before.focus None (is_same-up place before.focus None)
told-up place (Focus (Some slot)) stamp before after r above = focus_up place _ _ stamp before.focus (Some slot) (is_same-up place before.focus (Some slot))
told-up place (Placed slot rect) stamp before after r above =
    let was = under-with_rect place before.rects r before.pointer above.room_before above.was_missed in
    let is = under-with_rect place after.rects r after.pointer above.room above.is_missed in
    rect_up (delivery_up place) (is_any_held before.buttons) _ _ _ _ _ _
    (same_in place _ _ (under_in before) (under_in after) was is)
    (ap (told_size (up place slot) rect stamp) (get-with_rect place before.rects r slot above.room_before) ∙ size_up place slot rect stamp (slice_get before.rects slot))
    (told_at place stamp _ _ Position (place_in place after r _ (Some slot) above.room refl))

routes-up : (place : ℕ) (first : List Rect) (r : Rect) (earlier : List Line) (line : Line) → place ≤ length first → AllMiss r (line ∷ earlier)
    → routes (with_rect place r first) (lines_up place earlier) (record { moment = line.moment; line = line_up place line.line }) ≡ map (delivery_up place) (routes first earlier line)
routes-up place first r earlier line h miss =
    let before : Values = values first earlier in
    let after : Values = values first (line ∷ earlier) in
    let l : HostLine = line_up place line.line in
    ap (λ (v : Values). told l (stamp_of line.moment v) v (values (with_rect place r first) (lines_up place (line ∷ earlier)))) (values-up place first r earlier h miss.1)
    ∙ ap (λ (v : Values). told l (stamp_of line.moment before) (values_up place r before) v) (values-up place first r (line ∷ earlier) h miss)
    ∙ told-up place line.line (stamp_of line.moment before) before after r record {
      was_missed = missed r earlier miss.1;
      is_missed = missed r (line ∷ earlier) miss;
      room_before = subst (λ (n : ℕ). place ≤ n) (sym (length-rects_after first earlier)) h;
      room = subst (λ (n : ℕ). place ≤ n) (sym (length-rects_after first (line ∷ earlier))) h;
    }

events_step : (b c : Bool) (event : LocalEvent) (given : Delivery) (rest : List Delivery) (own : Delivery) (others : List Delivery) → b ≡ c → given.event ≡ event → own.event ≡ event
    → map (λ (d : Delivery). d.event) rest ≡ map (λ (d : Delivery). d.event) others
    → map (λ (d : Delivery). d.event) (cond b (given ∷ rest) rest) ≡ map (λ (d : Delivery). d.event) (cond c (own ∷ others) others)
events_step b true event given rest own others p q s t = rw p (rw (q, s, t) refl)
events_step b false event given rest own others p q s t = rw p t

events_of-up : (place slot : ℕ) (given : List Delivery) → events_of (up place slot) (map (delivery_up place) given) ≡ events_of slot given
events_of-up place slot [] = refl
events_of-up place slot (first ∷ given) =
    events_step _ _ first.event _ _ first _ (eqb-up place first.slot slot) refl refl (events_of-up place slot given)

pub routed-up : (place : ℕ) (first : List Rect) (r : Rect) (lines : List Line) → place ≤ length first → AllMiss r lines
    → (slot : ℕ) → routed (with_rect place r first) (lines_up place lines) (up place slot) ≡ routed first lines slot
routed-up place first r [] h miss slot = refl
routed-up place first r (line ∷ earlier) h miss slot =
    ap (λ (given : List Delivery). reverse (events_of (up place slot) given) ++ routed (with_rect place r first) (lines_up place earlier) (up place slot)) (routes-up place first r earlier line h miss)
    ∙ ap (λ (told : List LocalEvent). reverse told ++ routed (with_rect place r first) (lines_up place earlier) (up place slot)) (events_of-up place slot (routes first earlier line))
    ∙ ap (λ (rest : List LocalEvent). reverse (events_of slot (routes first earlier line)) ++ rest) (routed-up place first r earlier h miss.1 slot)

within : (front back : List Rect) → length front ≤ length (front ++ back)
within front back = omega (arith, length-append front back)

pub routed-among : (front back : List Rect) (r : Rect) (lines : List Line) → AllMiss r lines
    → (slot : ℕ) → routed (front ++ r ∷ back) (lines_up (length front) lines) (up (length front) slot) ≡ routed (front ++ back) lines slot
routed-among front back r lines miss slot =
    ap (λ (rects : List Rect). routed rects (lines_up (length front) lines) (up (length front) slot)) (sym (with_rect-append front back r))
    ∙ routed-up (length front) (front ++ back) r lines (within front back) miss slot
