-- Meaning. The events that lines make for windows.
use Rattle.std.specs.Prelude.{ℕ, ℤ, pos, negsuc, ◌-ℤ◌, nat_le, List, Option, Some, None, if◌then◌else◌}
use Rattle.tk_sequences.specs.declared.event.Event.{Event}
use Rattle.tk_sequences.specs.declared.event.EventKind.TheVariants.{Physical}
use Rattle.tk_sequences.specs.Event.{bare_event}
use Rattle.tk_inputs.specs.declared.events.PointerLine.{PointerLine}
use Rattle.tk_inputs.specs.declared.pointer_event.CrossingKind.{CrossingKind}
use Rattle.tk_inputs.specs.declared.pointer_event.CrossingKind.TheVariants.{Enter, Leave}
use Rattle.tk_inputs.specs.declared.pointer_event.PointerKind.{PointerKind}
use Rattle.tk_inputs.specs.declared.pointer_event.PointerKind.TheVariants.{Crossing, Motion, Press, Release}
use Rattle.tk_inputs.specs.Crossings.{detail_name}
use Rattle.tk_sequences.specs.declared.event_type.EventType.{EventType}
use Rattle.tk_sequences.specs.declared.event_type.EventType.TheVariants as types
use Rattle.tk_tree.specs.declared.corner.Corner.{Corner}
use Rattle.tk_tree.specs.declared.window.Window.{Window}

-- of a type, with no fields
abbrev pub plain_event : EventType → Window → ℕ → Event
plain_event type window moment = bare_event (Physical type) window.number window.path moment

-- a key, and what was held before; no place
abbrev pub key_event : EventType → ℕ → Window → ℕ → ℕ → Event
key_event type key window moment state = record (plain_event type window moment) { state = Some state; key = Some key }

-- ---- of the pointer

abbrev pub crossing_type : CrossingKind → EventType
crossing_type Enter = types.Enter
crossing_type Leave = types.Leave

abbrev pub type_of : PointerKind → EventType
type_of (Crossing crossing detail) = crossing_type crossing
type_of Motion = types.Motion
type_of (Press button) = types.Button
type_of (Release button) = types.ButtonRelease

-- there are no buttons but 1 to 5
abbrev pub button_in : ℕ → Option ℕ
button_in button = if nat_le button 5 then Some button else None

abbrev pub button_of : PointerKind → Option ℕ
button_of (Press button) = button_in button
button_of (Release button) = button_in button
button_of _ = None

abbrev pub detail_of : PointerKind → Option (List ℕ)
detail_of (Crossing crossing detail) = Some (detail_name detail)
detail_of _ = None

-- A number, where 32 bits hold it; places in windows lie far within them.
abbrev pub in_32_bits : ℤ → Option ℤ
in_32_bits (pos n) = if nat_le n 2147483647 then Some (pos n) else None
in_32_bits (negsuc n) = if nat_le n 2147483647 then Some (negsuc n) else None

-- a place along one axis, from a window's corner
abbrev pub place_in : ℤ → ℕ → Option ℤ
place_in place corner = in_32_bits (place -ℤ pos corner)

-- what the pointer does in a window whose corner is here: told from that corner, and from that of the application's rectangle
abbrev pub pointer_event : PointerLine → PointerKind → Window → Corner → Event
pointer_event line kind window corner = record (plain_event (type_of kind) window line.moment) {
  state = Some line.state;
  x = place_in line.x corner.x;
  y = place_in line.y corner.y;
  root_x = Some line.x;
  root_y = Some line.y;
  button = button_of kind;
  detail = detail_of kind;
}
