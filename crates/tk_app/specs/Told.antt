-- Meaning. What events of the pointer and of layout tell, with no range: each tells its places and its button, whatever they are. Where windows lie near one
-- another (*Near*), and an event is in range (*Ranges*), nothing else is told. So no range of a field decides what a script is told.
use Rattle.std.specs.Prelude.{◌≡◌, ℕ, pos, ◌-ℤ◌, List, [], ◌∷◌, ◌++◌, flat_map, Option, Some, None}
use Rattle.tcl_vars.specs.Store.{Store}
use Rattle.tk_base.specs.declared.local_event.LocalEvent.{LocalEvent}
use Rattle.tk_base.specs.declared.local_event.LocalKind.{LocalKind}
use Rattle.tk_base.specs.declared.local_event.LocalKind.TheVariants as kinds
use Rattle.tk_base.specs.declared.rect.Rect.{Rect}
use Rattle.tk_inputs.specs.declared.events.PointerLine.{PointerLine}
use Rattle.tk_inputs.specs.declared.pointer.Pointer.{Pointer}
use Rattle.tk_inputs.specs.declared.pointer_event.PointerEvent.{PointerEvent}
use Rattle.tk_inputs.specs.declared.pointer_event.PointerKind.{PointerKind}
use Rattle.tk_inputs.specs.declared.pointer_event.PointerKind.TheVariants.{Press, Release}
use Rattle.tk_inputs.specs.Deliver.{Arrivals, arrived_as, of_window, pointed_with, pointer_line, way_of, way_under}
use Rattle.tk_inputs.specs.Events.{detail_of, plain_event, type_of}
use Rattle.tk_inputs.specs.Pointer.{moved, moved_told, pressed, pressed_told, released, released_told}
use Rattle.tk_packer.specs.declared.changes.PlaceChange.{PlaceChange}
use Rattle.tk_packer.specs.declared.changes.PlaceChange.TheVariants.{Configure}
use Rattle.tk_panel.specs.Changes.{event_of, laid_out, number_of, window_event}
use Rattle.tk_panel.specs.Deliver.{arrivals_in, delivered_panel, with_arrivals, with_rectangle}
use Rattle.tk_panel.specs.Panel.{Panel}
use Rattle.tk_screen.specs.Layout.{changes_due, laid_out_windowing}
use Rattle.tk_sequences.specs.declared.event.Event.{Event}
use Rattle.tk_sequences.specs.declared.event_type.EventType.TheVariants as types
use Rattle.tk_tree.specs.Corners.{corner}
use Rattle.tk_tree.specs.declared.corner.Corner.{Corner}
use Rattle.tk_tree.specs.declared.window.Window.{Window}
use Rattle.tk_tree.specs.Own.{Tree, window_at}
use Rattle.tk_app.specs.Near.{AreNear}
use Rattle.tk_app.specs.Ranges.{IsEventInRange}

-- ── the pointer ──

-- a press and a release tell their button
abbrev pub button_told : PointerKind → Option ℕ
button_told (Press button) = Some button
button_told (Release button) = Some button
button_told kind = None

-- where the pointer is, from the corner of the window and from that of the application's rectangle
abbrev pub whole_event : PointerLine → PointerKind → Window → Corner → Event
whole_event line kind window corner = record (plain_event (type_of kind) window line.moment) {
  state = Some line.state;
  x = Some (line.x -ℤ pos corner.x);
  y = Some (line.y -ℤ pos corner.y);
  root_x = Some line.x;
  root_y = Some line.y;
  button = button_told kind;
  detail = detail_of kind;
}

-- what a window is told, as an event
abbrev pub whole_events : PointerLine → Tree → PointerEvent → List Event
whole_events line own told = of_window (λ window. whole_event line told.kind window (corner told.window own)) (window_at told.window own)

-- windows are told this, and the pointer is there
abbrev pub pointed_whole : PointerLine → List PointerEvent → Pointer → Tree → Arrivals → Arrivals
pointed_whole line told pointer own arrivals = pointed_with (flat_map (whole_events line own) told) pointer arrivals

-- what a line gives: a move, a press or a release tells these, and another line what it tells anyhow
abbrev pub arrived_whole : LocalKind → LocalEvent → Tree → Arrivals → Arrivals
arrived_whole (kinds.Position x y) event own arrivals =
    let way = way_of arrivals.input.pointer.window own in
    let under = way_under x y own in
    pointed_whole (pointer_line event x y) (moved_told way under arrivals.input.pointer) (moved way under arrivals.input.pointer) own arrivals
arrived_whole (kinds.Press button x y) event own arrivals =
    let way = way_of arrivals.input.pointer.window own in
    let under = way_under x y own in
    pointed_whole (pointer_line event x y) (pressed_told button way under arrivals.input.pointer) (pressed button under arrivals.input.pointer) own arrivals
arrived_whole (kinds.Release button x y) event own arrivals =
    let way = way_of arrivals.input.pointer.window own in
    let under = way_under x y own in
    pointed_whole (pointer_line event x y) (released_told button way under arrivals.input.pointer) (released button under arrivals.input.pointer) own arrivals
arrived_whole kind event own arrivals = arrived_as kind event own arrivals

abbrev pub delivered_whole : LocalEvent → Panel → Panel
delivered_whole event panel = with_rectangle event.kind (with_arrivals (arrived_whole event.kind event panel.windowing.tree (arrivals_in panel)) panel)

-- ── layout ──

-- Configure tells the window's rectangle of then
abbrev pub whole_configure : Window → Rect → ℕ → Event
whole_configure window rect moment =
    record (window_event types.Configure window moment) { x = Some (pos rect.x); y = Some (pos rect.y); width = Some rect.width; height = Some rect.height }

abbrev pub whole_of : PlaceChange → Window → ℕ → Event
whole_of (Configure number rect) window moment = whole_configure window rect moment
whole_of change window moment = event_of change window moment

abbrev pub queued_whole : PlaceChange → Panel → Option Window → Panel
queued_whole change panel None = panel
queued_whole change panel (Some window) = record panel { queue = panel.queue ++ whole_of change window panel.moment ∷ [] }

unfoldable pub with_whole_events : List PlaceChange → Panel → Panel
with_whole_events [] panel = panel
with_whole_events (change ∷ changes) panel = with_whole_events changes (queued_whole change panel (window_at (number_of change) panel.windowing.tree))

abbrev pub laid_out_whole : Store → Panel → Panel
laid_out_whole store panel = with_whole_events (changes_due panel.windowing store) (record panel { windowing = laid_out_windowing panel.windowing store })

-- ── nothing else is told ──

abbrev pub TellsWhole : Type 0
TellsWhole = (event : LocalEvent) (panel : Panel) → IsEventInRange event → AreNear panel.windowing → delivered_panel event panel ≡ delivered_whole event panel

abbrev pub LaysOutWhole : Type 0
LaysOutWhole = (store : Store) (panel : Panel) → AreNear panel.windowing → laid_out store panel ≡ laid_out_whole store panel
