-- Where windows lie near one another, events of the pointer and of layout tell their places and buttons, whatever they are.
use Rattle.std.proofs.Common.{◌≡◌, ℕ, ℤ, pos, negsuc, neg_ℤ, ◌-ℤ◌, ◌^◌, ◌*◌, ◌≤◌, Bool, true, false, cond, List, [], ◌∷◌, ◌++◌, length, not, Option, Some, None, refl, sym, ap, ◌∙◌, subst, arith}
use Rattle.std.specs.Prelude.{◌==◌, ◌-◌, ◌≤ℤ◌, drop, filter, flat_map, if◌then◌else◌, map, reverse, take}
use Rattle.std.specs.List.{AllByRecursion}
use Rattle.std.proofs.lemmas.Bool.{le-leb, lt-ltb}
use Rattle.std.proofs.lemmas.Int.{ints}
use Rattle.std.proofs.lemmas.List.{reverse-append}
use Rattle.std.proofs.lemmas.List.Concat.{flat_map-cons}
use Rattle.tk_base.specs.declared.local_event.LocalEvent.{LocalEvent}
use Rattle.tk_base.specs.declared.local_event.LocalKind.{LocalKind}
use Rattle.tk_base.specs.declared.local_event.LocalKind.TheVariants as kinds
use Rattle.tk_base.specs.Rect.{most_pixels}
use Rattle.tk_route.specs.Buttons.{is_any_held, with_released}
use Rattle.tk_inputs.specs.declared.events.PointerLine.{PointerLine}
use Rattle.tk_inputs.specs.declared.pointer.Pointer.{Pointer}
use Rattle.tk_inputs.specs.declared.pointer_event.CrossingDetail.{CrossingDetail}
use Rattle.tk_inputs.specs.declared.pointer_event.CrossingDetail.TheVariants.{Ancestor, Virtual, Nonlinear, NonlinearVirtual}
use Rattle.tk_inputs.specs.declared.pointer_event.CrossingKind.{CrossingKind}
use Rattle.tk_inputs.specs.declared.pointer_event.CrossingKind.TheVariants.{Enter, Leave}
use Rattle.tk_inputs.specs.declared.pointer_event.PointerEvent.{PointerEvent}
use Rattle.tk_inputs.specs.declared.pointer_event.PointerKind.{PointerKind}
use Rattle.tk_inputs.specs.declared.pointer_event.PointerKind.TheVariants.{Crossing, Motion, Press, Release}
use Rattle.tk_inputs.specs.Crossings.{crossed, crossing, crossings_between, crossings_of, enter_events, leave_events}
use Rattle.tk_inputs.specs.Deliver.{Arrivals, arrived, arrived_as, of_window, pointed, pointer_line, told_events, way_of, way_under}
use Rattle.tk_inputs.specs.Events.{button_in, button_of, detail_of, in_32_bits, place_in, plain_event, pointer_event, type_of}
use Rattle.tk_route.specs.Routes.{is_same}
use Rattle.tk_inputs.specs.Pointer.{border_of, end_of, freed_told, is_leave_of, moved, moved_free, moved_held, moved_told, pressed, pressed_told, released, released_told, to}
use Rattle.tk_packer.specs.declared.changes.PlaceChange.{PlaceChange}
use Rattle.tk_packer.specs.declared.changes.PlaceChange.TheVariants.{Unmap, Configure, Map}
use Rattle.tk_panel.specs.Changes.{event_of, in_pixels, laid_out, number_of, queued_at, with_events_of}
use Rattle.tk_panel.specs.Deliver.{arrivals_in, delivered_panel, with_arrivals, with_rectangle}
use Rattle.tk_panel.specs.Panel.{Panel}
use Rattle.tk_screen.specs.Layout.{changes_due, laid_out_windowing, size_of}
use Rattle.tk_screen.specs.Own.{Windowing}
use Rattle.tk_screen.specs.Shapes.{shapes}
use Rattle.tk_sequences.specs.declared.event.Event.{Event}
use Rattle.tk_tree.specs.Corners.{corner}
use Rattle.tk_tree.specs.declared.corner.Corner.{Corner}
use Rattle.tk_tree.specs.declared.window.Window.{Window}
use Rattle.tk_tree.specs.Own.{most_windows, window_at}
use Rattle.tk_app.specs.Near.{AreNear}
use Rattle.tk_app.specs.Ranges.{IsButton, IsKindInRange, IsPlace, IsSize}
use Rattle.tk_app.specs.Told.{LaysOutWhole, TellsWhole, arrived_whole, button_told, pointed_whole, queued_whole, whole_configure, whole_event, whole_events, whole_of, with_whole_events}
use Rattle.tk_app.proofs.Near.{corners_near}
use Rattle.tk_app.proofs.Within.{AllPlace, PlacesWithin, layout_changes}

-- ── places ──

told_in_32_bits : (place : ℤ) → neg_ℤ (pos 2147483647) ≤ℤ place → place ≤ℤ pos 2147483647 → in_32_bits place ≡ Some place
told_in_32_bits (pos n) low high = ap (λ (b : Bool). cond b (Some (pos n)) None) (le-leb n 2147483647 (omega (arith, ints)))
told_in_32_bits (negsuc n) low high = ap (λ (b : Bool). cond b (Some (negsuc n)) None) (le-leb n 2147483647 (omega (arith, ints)))

place_told : (place : ℤ) (corner : ℕ) → IsPlace place → corner ≤ most_pixels * most_windows → place_in place corner ≡ Some (place -ℤ pos corner)
place_told place corner is near =
    let low = is.0 in
    let high = is.1 in
    told_in_32_bits (place -ℤ pos corner) (omega (arith, ints)) (omega (arith, ints))

-- ── buttons ──

button_whole : (button : ℕ) → IsButton button → button_in button ≡ Some button
button_whole button is = ap (λ (b : Bool). cond b (Some button) None) (le-leb button 5 is.1)

abbrev TellsButton : PointerEvent → Type 0
TellsButton told = button_of told.kind ≡ button_told told.kind

abbrev AllTell : List PointerEvent → Type 0
AllTell told = AllByRecursion TellsButton told

both_tell : (ones others : List PointerEvent) → AllTell ones → AllTell others → AllTell (ones ++ others)
both_tell [] others tell rest = rest
both_tell (one ∷ ones) others tell rest = (tell.0, both_tell ones others tell.1 rest)

reversed_tell : (told : List PointerEvent) → AllTell told → AllTell (reverse told)
reversed_tell [] tell = tt
reversed_tell (one ∷ told) tell =
    subst AllTell (sym (reverse-append (one ∷ []) told)) (both_tell (reverse told) (one ∷ []) (reversed_tell told tell.1) (tell.0, tt))

filtered_tell : (test : PointerEvent → Bool) (told : List PointerEvent) → AllTell told → AllTell (filter test told)
filtered_tell test [] tell = tt
filtered_tell test (one ∷ told) tell = by (test one) (filtered_tell test told tell.1)
  where
    by : (b : Bool) → AllTell (filter test told) → AllTell (cond b (one ∷ filter test told) (filter test told))
    by true rest = (tell.0, rest)
    by false rest = rest

either_tells : (b : Bool) (one other : List PointerEvent) → AllTell one → AllTell other → AllTell (if b then one else other)
either_tells true one other is rest = is
either_tells false one other is rest = rest

to_tells : (kind : PointerKind) (window : Option ℕ) → button_of kind ≡ button_told kind → AllTell (to kind window)
to_tells kind None is = tt
to_tells kind (Some window) is = (is, tt)

crossings_tell : (kind : CrossingKind) (detail : CrossingDetail) (windows : List ℕ) → AllTell (map (crossing kind detail) windows)
crossings_tell kind detail [] = tt
crossings_tell kind detail (window ∷ windows) = (refl, crossings_tell kind detail windows)

crossed_tell : (kind : CrossingKind) (between at : CrossingDetail) (windows : List ℕ) → AllTell (crossed kind between at windows)
crossed_tell kind between at windows =
    let others : ℕ = length windows - 1 in
    both_tell (map (crossing kind between) (take others windows)) (map (crossing kind at) (drop others windows)) (crossings_tell kind between (take others windows))
    (crossings_tell kind at (drop others windows))

enter_tell : (between at : CrossingDetail) (windows : List ℕ) → AllTell (enter_events between at windows)
enter_tell between at windows = crossed_tell Enter between at windows

leave_tell : (between at : CrossingDetail) (windows : List ℕ) → AllTell (leave_events between at windows)
leave_tell between at windows = reversed_tell (crossed Leave between at windows) (crossed_tell Leave between at windows)

between_tell : (from to : List ℕ) → AllTell (crossings_between from to)
between_tell [] [] = tt
between_tell [] (window ∷ down) = enter_tell Virtual Ancestor (window ∷ down)
between_tell (window ∷ up) [] = leave_tell Virtual Ancestor (window ∷ up)
between_tell (outer ∷ up) (window ∷ down) =
    both_tell (leave_events NonlinearVirtual Nonlinear (outer ∷ up)) (enter_events NonlinearVirtual Nonlinear (window ∷ down)) (leave_tell NonlinearVirtual Nonlinear (outer ∷ up))
    (enter_tell NonlinearVirtual Nonlinear (window ∷ down))

crossing_tells : (from to : List ℕ) → AllTell (crossings_of from to)
crossing_tells [] [] = tt
crossing_tells [] (other ∷ to) = between_tell [] (other ∷ to)
crossing_tells (window ∷ from) [] = between_tell (window ∷ from) []
crossing_tells (window ∷ from) (other ∷ to) =
    either_tells (window == other) (crossings_of from to) (crossings_between (window ∷ from) (other ∷ to)) (crossing_tells from to) (between_tell (window ∷ from) (other ∷ to))

border_tells : (is_left is_in : Bool) (window : ℕ) → AllTell (border_of is_left is_in window)
border_tells true is_in window = either_tells is_in (crossing Enter Ancestor window ∷ []) [] (refl, tt) tt
border_tells false is_in window = either_tells is_in [] (crossing Leave Ancestor window ∷ []) tt (refl, tt)

held_tells : (is_left : Bool) (window under : Option ℕ) → AllTell (moved_held is_left window under)
held_tells is_left None under = tt
held_tells is_left (Some window) under =
    both_tell (border_of is_left (is_same (Some window) under) window) (to Motion (Some window)) (border_tells is_left (is_same (Some window) under) window) (refl, tt)

move_tells : (way under : List ℕ) (pointer : Pointer) → AllTell (moved_told way under pointer)
move_tells way under pointer =
    either_tells (is_any_held pointer.buttons) (moved_held pointer.is_left (end_of way) (end_of under)) (moved_free way under) (held_tells pointer.is_left (end_of way) (end_of under))
    (either_tells (is_same (end_of way) (end_of under)) (to Motion (end_of under)) (crossings_of way under) (to_tells Motion (end_of under) refl) (crossing_tells way under))

press_tells : (button : ℕ) → IsButton button → (way under : List ℕ) (pointer : Pointer) → AllTell (pressed_told button way under pointer)
press_tells button is way under pointer =
    either_tells (is_any_held pointer.buttons) (to (Press button) (end_of way)) (crossings_of way under ++ to (Press button) (end_of under))
    (to_tells (Press button) (end_of way) (button_whole button is))
    (both_tell (crossings_of way under) (to (Press button) (end_of under)) (crossing_tells way under) (to_tells (Press button) (end_of under) (button_whole button is)))

freed_tells : (is_left : Bool) (way under : List ℕ) → AllTell (freed_told is_left way under)
freed_tells false way under = crossing_tells way under
freed_tells true way under =
    let others : List PointerEvent = filter (λ (event : PointerEvent). not (is_leave_of (end_of way) event)) (crossings_of way under) in
    either_tells (is_same (end_of way) (end_of under)) (to (Crossing Enter Ancestor) (end_of under)) others (to_tells (Crossing Enter Ancestor) (end_of under) refl)
    (filtered_tell (λ (event : PointerEvent). not (is_leave_of (end_of way) event)) (crossings_of way under) (crossing_tells way under))

release_tells : (button : ℕ) → IsButton button → (way under : List ℕ) (pointer : Pointer) → AllTell (released_told button way under pointer)
release_tells button is way under pointer =
    let still : Bool = is_any_held (with_released button pointer.buttons) in
    let freed : List PointerEvent = freed_told pointer.is_left way under in
    both_tell (to (Release button) (end_of way)) (if still then [] else freed) (to_tells (Release button) (end_of way) (button_whole button is))
    (either_tells still [] freed tt (freed_tells pointer.is_left way under))

-- ── events of the pointer ──

-- with these places and this button
abbrev event_with : PointerLine → PointerKind → Window → Option ℤ → Option ℤ → Option ℕ → Event
event_with line kind window x y button = record (plain_event (type_of kind) window line.moment) {
  state = Some line.state;
  x = x;
  y = y;
  root_x = Some line.x;
  root_y = Some line.y;
  button = button;
  detail = detail_of kind;
}

module _ (own : Windowing) (held : AreNear own) where
  module _ (line : PointerLine) (is_x : IsPlace line.x) (is_y : IsPlace line.y) where
    one_whole : (told : PointerEvent) → TellsButton told → told_events line own.tree told ≡ whole_events line own.tree told
    one_whole told tells = by (window_at told.window own.tree)
      where
        same : (window : Window) → pointer_event line told.kind window (corner told.window own.tree) ≡ whole_event line told.kind window (corner told.window own.tree)
        same window =
            let there : Corner = corner told.window own.tree in
            let near = corners_near own told.window held in
            ap (λ (x : Option ℤ). event_with line told.kind window x (place_in line.y there.y) (button_of told.kind)) (place_told line.x there.x is_x near.0)
            ∙ ap (λ (y : Option ℤ). event_with line told.kind window (Some (line.x -ℤ pos there.x)) y (button_of told.kind)) (place_told line.y there.y is_y near.1)
            ∙ ap (λ (button : Option ℕ). event_with line told.kind window (Some (line.x -ℤ pos there.x)) (Some (line.y -ℤ pos there.y)) button) tells

        by : (window : Option Window)
            → of_window (λ (window : Window). pointer_event line told.kind window (corner told.window own.tree)) window
            ≡ of_window (λ (window : Window). whole_event line told.kind window (corner told.window own.tree)) window
        by None = refl
        by (Some window) = ap (λ (event : Event). event ∷ []) (same window)

    all_whole : (told : List PointerEvent) → AllTell told → flat_map (told_events line own.tree) told ≡ flat_map (whole_events line own.tree) told
    all_whole [] tell = refl
    all_whole (one ∷ told) tell =
        flat_map-cons (told_events line own.tree) one told
        ∙ ap (λ (events : List Event). events ++ flat_map (told_events line own.tree) told) (one_whole one tell.0)
        ∙ ap (λ (events : List Event). whole_events line own.tree one ++ events) (all_whole told tell.1)
        ∙ sym (flat_map-cons (whole_events line own.tree) one told)

    pointed_same : (told : List PointerEvent) (pointer : Pointer) (arrivals : Arrivals) → AllTell told → pointed line told pointer own.tree arrivals ≡ pointed_whole line told pointer own.tree arrivals
    pointed_same told pointer arrivals tell =
        ap (λ (events : List Event). record arrivals { input = record arrivals.input { pointer = pointer }; queue = arrivals.queue ++ events }) (all_whole told tell)

  arrived_same : (kind : LocalKind) (event : LocalEvent) (arrivals : Arrivals) → IsKindInRange kind → arrived_as kind event own.tree arrivals ≡ arrived_whole kind event own.tree arrivals
  arrived_same (kinds.Position x y) event arrivals is =
      let pointer : Pointer = arrivals.input.pointer in
      let way : List ℕ = way_of pointer.window own.tree in
      let under : List ℕ = way_under x y own.tree in
      pointed_same (pointer_line event x y) is.0 is.1 (moved_told way under pointer) (moved way under pointer) arrivals (move_tells way under pointer)
  arrived_same (kinds.Press button x y) event arrivals is =
      let pointer : Pointer = arrivals.input.pointer in
      let way : List ℕ = way_of pointer.window own.tree in
      let under : List ℕ = way_under x y own.tree in
      pointed_same (pointer_line event x y) is.1 is.2 (pressed_told button way under pointer) (pressed button under pointer) arrivals (press_tells button is.0 way under pointer)
  arrived_same (kinds.Release button x y) event arrivals is =
      let pointer : Pointer = arrivals.input.pointer in
      let way : List ℕ = way_of pointer.window own.tree in
      let under : List ℕ = way_under x y own.tree in
      pointed_same (pointer_line event x y) is.1 is.2 (released_told button way under pointer) (released button under pointer) arrivals (release_tells button is.0 way under pointer)
  arrived_same (kinds.Keydown key) event arrivals is = refl
  arrived_same (kinds.Keyup key) event arrivals is = refl
  arrived_same kinds.FocusIn event arrivals is = refl
  arrived_same kinds.FocusOut event arrivals is = refl
  arrived_same (kinds.Size width height) event arrivals is = refl

pub tells_whole : TellsWhole
unfolding delivered_panel arrived
tells_whole event panel in_range held =
    ap (λ (arrivals : Arrivals). with_rectangle event.kind (with_arrivals arrivals panel)) (arrived_same panel.windowing held event.kind event (arrivals_in panel) in_range)

-- ── events of layout ──

pixels_told : (x : ℕ) → x ≤ most_pixels → in_pixels x ≡ Some (pos x)
pixels_told x few = ap (λ (b : Bool). cond b (Some (pos x)) None) (lt-ltb x (2 ^ 31) (omega arith))

module _ (size : ℕ × ℕ) (fits : IsSize size.0 size.1) where
  event_whole : (change : PlaceChange) (window : Window) (moment : ℕ) → PlacesWithin size change → event_of change window moment ≡ whole_of change window moment
  event_whole (Unmap number) window moment places = refl
  event_whole (Configure number rect) window moment places =
      let right = places.right in
      let bottom = places.bottom in
      let wide = fits.0 in
      let high = fits.1 in
      ap (λ (x : Option ℤ). record (whole_configure window rect moment) { x = x; y = in_pixels rect.y }) (pixels_told rect.x (omega (arith, right, wide)))
      ∙ ap (λ (y : Option ℤ). record (whole_configure window rect moment) { y = y }) (pixels_told rect.y (omega (arith, bottom, high)))
  event_whole (Map number) window moment places = refl

  queued_same : (change : PlaceChange) (panel : Panel) (window : Option Window) → PlacesWithin size change → queued_at change panel window ≡ queued_whole change panel window
  queued_same change panel None places = refl
  queued_same change panel (Some window) places = ap (λ (event : Event). record panel { queue = panel.queue ++ event ∷ [] }) (event_whole change window panel.moment places)

  events_same : (changes : List PlaceChange) (panel : Panel) → AllPlace size changes → with_events_of changes panel ≡ with_whole_events changes panel
  unfolding with_events_of with_whole_events
  events_same [] panel place = refl
  events_same (change ∷ changes) panel place =
      let found : Option Window = window_at (number_of change) panel.windowing.tree in
      events_same changes (queued_at change panel found) place.1 ∙ ap (with_whole_events changes) (queued_same change panel found place.0)

pub lays_out_whole : LaysOutWhole
unfolding laid_out changes_due
lays_out_whole store panel held =
    let own : Windowing = panel.windowing in
    events_same (size_of own) held.size_fits (changes_due own store) (record panel { windowing = laid_out_windowing own store })
    (layout_changes (size_of own) own.packs.packs (shapes own store))
