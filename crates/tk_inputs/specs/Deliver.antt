-- Meaning. What lines of a session give an application: what becomes of what it keeps of its input, and the events that are queued.
use Rattle.std.specs.Prelude.{ℕ, ℤ, pos, Bool, true, false, List, [], ◌∷◌, ◌++◌, Option, Some, None, if◌then◌else◌}
use Rattle.std.specs.List.{flat_map}
use Rattle.tk_sequences.specs.declared.event.Event.{Event}
use Rattle.tk_base.specs.declared.local_event.LocalEvent.{LocalEvent}
use Rattle.tk_base.specs.declared.local_event.LocalKind.{LocalKind}
use Rattle.tk_base.specs.declared.local_event.LocalKind.TheVariants as kinds
use Rattle.tk_inputs.specs.declared.delivery.KeyLine.{KeyLine}
use Rattle.tk_inputs.specs.declared.events.PointerLine.{PointerLine}
use Rattle.tk_inputs.specs.declared.inputs.Input.{Input}
use Rattle.tk_inputs.specs.Events.{key_event, plain_event, pointer_event}
use Rattle.tk_inputs.specs.declared.pointer_event.PointerEvent.{PointerEvent}
use Rattle.tk_inputs.specs.declared.pointer.Pointer.{Pointer}
use Rattle.tk_inputs.specs.Pointer.{moved, moved_told, pressed, pressed_told, released, released_told}
use Rattle.tk_sequences.specs.declared.event_type.EventType.{EventType}
use Rattle.tk_sequences.specs.declared.event_type.EventType.TheVariants as types
use Rattle.tk_tree.specs.declared.window.Window.{Window}
use Rattle.tk_tree.specs.Corners.{corner}
use Rattle.tk_tree.specs.Own.{Tree, window_at}
use Rattle.tk_tree.specs.Ways.{way_at, way_to}

-- what an application keeps of its input, and the events that wait for it, the next one first
pub record Arrivals : Type 0 where
  pub input : Input
  pub queue : List Event

-- ---- keys, and the host's focus

-- the event of a window, if it is there
abbrev pub of_window : (Window → Event) → Option Window → List Event
of_window event None = []
of_window event (Some window) = event window ∷ []

abbrev pub key_events : EventType → KeyLine → ℕ → Tree → List Event
key_events type line number own = of_window (λ window. key_event type line.key window line.moment line.state) (window_at number own)

abbrev pub plain_events : EventType → ℕ → ℕ → Tree → List Event
plain_events type moment number own = of_window (λ window. plain_event type window moment) (window_at number own)

-- a key is pressed or released: the focus window gets it
abbrev pub keyed : EventType → KeyLine → Tree → Arrivals → Arrivals
keyed type line own arrivals = record arrivals { queue = arrivals.queue ++ key_events type line arrivals.input.focus own }

-- the host's focus comes, or goes: the focus window is told
abbrev pub focus_type : Bool → EventType
focus_type has_focus = if has_focus then types.FocusIn else types.FocusOut

abbrev pub focus_taken : Bool → ℕ → Tree → Arrivals → Arrivals
focus_taken has_focus moment own arrivals = record {
  input = record arrivals.input { has_focus = has_focus };
  queue = arrivals.queue ++ plain_events (focus_type has_focus) moment arrivals.input.focus own;
}

-- ---- the pointer

-- the way to a window, which is empty where it is gone
abbrev pub way_of : Option ℕ → Tree → List ℕ
way_of None own = []
way_of (Some number) own = way_to number own

-- the way to the deepest mapped window at a point, which is empty outside of the main window
abbrev pub way_under : ℤ → ℤ → Tree → List ℕ
way_under (pos x) (pos y) own = way_at x y own
way_under _ _ own = []

-- what a window is told, as an event
abbrev pub told_events : PointerLine → Tree → PointerEvent → List Event
told_events line own told = of_window (λ window. pointer_event line told.kind window (corner told.window own)) (window_at told.window own)

-- windows are told these events, and the pointer is there
abbrev pub pointed_with : List Event → Pointer → Arrivals → Arrivals
pointed_with events pointer arrivals = record { input = record arrivals.input { pointer = pointer }; queue = arrivals.queue ++ events }

abbrev pub pointed : PointerLine → List PointerEvent → Pointer → Tree → Arrivals → Arrivals
pointed line told pointer own arrivals = pointed_with (flat_map (told_events line own) told) pointer arrivals

abbrev pub moved_by : PointerLine → Tree → Arrivals → Arrivals
moved_by line own arrivals =
    let way = way_of arrivals.input.pointer.window own in
    let under = way_under line.x line.y own in
    pointed line (moved_told way under arrivals.input.pointer) (moved way under arrivals.input.pointer) own arrivals

abbrev pub pressed_by : ℕ → PointerLine → Tree → Arrivals → Arrivals
pressed_by button line own arrivals =
    let way = way_of arrivals.input.pointer.window own in
    let under = way_under line.x line.y own in
    pointed line (pressed_told button way under arrivals.input.pointer) (pressed button under arrivals.input.pointer) own arrivals

abbrev pub released_by : ℕ → PointerLine → Tree → Arrivals → Arrivals
released_by button line own arrivals =
    let way = way_of arrivals.input.pointer.window own in
    let under = way_under line.x line.y own in
    pointed line (released_told button way under arrivals.input.pointer) (released button under arrivals.input.pointer) own arrivals

-- ---- all lines

abbrev pub pointer_line : LocalEvent → ℤ → ℤ → PointerLine
pointer_line event x y = record { moment = event.moment; state = event.state; x = x; y = y }

abbrev pub key_line : LocalEvent → ℕ → KeyLine
key_line event key = record { moment = event.moment; state = event.state; key = key }

abbrev pub arrived_as : LocalKind → LocalEvent → Tree → Arrivals → Arrivals
arrived_as (kinds.Position x y) event own arrivals = moved_by (pointer_line event x y) own arrivals
arrived_as (kinds.Press button x y) event own arrivals = pressed_by button (pointer_line event x y) own arrivals
arrived_as (kinds.Release button x y) event own arrivals = released_by button (pointer_line event x y) own arrivals
arrived_as (kinds.Keydown key) event own arrivals = keyed types.Key (key_line event key) own arrivals
arrived_as (kinds.Keyup key) event own arrivals = keyed types.KeyRelease (key_line event key) own arrivals
arrived_as kinds.FocusIn event own arrivals = focus_taken true event.moment own arrivals
arrived_as kinds.FocusOut event own arrivals = focus_taken false event.moment own arrivals
arrived_as (kinds.Size width height) event own arrivals = arrivals

-- what a line gives, with the windows as they are
unfoldable pub arrived : LocalEvent → Tree → Arrivals → Arrivals
arrived event own arrivals = arrived_as event.kind event own arrivals
