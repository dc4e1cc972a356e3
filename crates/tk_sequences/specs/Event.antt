-- Meaning. Events, and which of them a history keeps.
use Rattle.std.specs.Prelude.{ℕ, Bool, false, ◌||◌, List, None}
use Rattle.tk_sequences.specs.declared.event.Event.{Event}
use Rattle.tk_sequences.specs.declared.event.EventKind.{EventKind}
use Rattle.tk_sequences.specs.declared.event.EventKind.TheVariants.{Physical, Virtual}
use Rattle.tk_sequences.specs.declared.event_type.EventType.{EventType}
use Rattle.tk_sequences.specs.Types.{is_button_type, is_key_type}

-- an event of a window that has no fields yet
abbrev pub bare_event : EventKind → ℕ → List ℕ → ℕ → Event
bare_event kind number path moment = record {
  kind = kind;
  number = number;
  path = path;
  moment = moment;
  state = None;
  x = None;
  y = None;
  root_x = None;
  root_y = None;
  button = None;
  key = None;
  width = None;
  height = None;
  detail = None;
}

-- the types of the events of keys and buttons
abbrev pub is_of_input : EventType → Bool
is_of_input type = is_key_type type || is_button_type type

-- whether a key or a button was pressed or released
abbrev pub is_input : EventKind → Bool
is_input (Physical type) = is_of_input type
is_input (Virtual name) = false
