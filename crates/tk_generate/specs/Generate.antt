-- Meaning. The words of `event generate path pattern ?option value ..?`, to the event that they make.
use Rattle.std.specs.Prelude.{ℕ, Bool, true, false, ◌&&◌, nat_le, List, ◌∷◌, Option, Some, None, Result, Ok, codes, if◌then◌else◌}
use Rattle.std.specs.Option.{option_map_or}
use Rattle.tcl_text.specs.Answers.{◌>>=◌, fails, wrong_args}
use Rattle.tk_sequences.specs.declared.event.Event.{Event}
use Rattle.tk_sequences.specs.declared.event.EventKind.TheVariants.{Physical, Virtual}
use Rattle.tk_sequences.specs.Event.{bare_event}
use Rattle.tk_generate.specs.declared.asked.EventRequest.{EventRequest}
use Rattle.tk_generate.specs.declared.asked.EventRequest.TheVariants as asks
use Rattle.tk_generate.specs.declared.generate.Generated.{Generated}
use Rattle.tk_generate.specs.declared.generate.Receiver.{Receiver}
use Rattle.tk_generate.specs.declared.given.Given.{Given}
use Rattle.tk_generate.specs.declared.given.When.{When}
use Rattle.tk_generate.specs.declared.given.When.TheVariants.{Now, Tail, Head}
use Rattle.tk_generate.specs.Asked.{asked_in, is_for_keys}
use Rattle.tk_generate.specs.Fields.{button_for, detail_for, from_corner, key_for, place_for, root_for, state_for}
use Rattle.tk_generate.specs.Given.{given_from, nothing_given}
use Rattle.tk_sequences.specs.declared.pattern.Pattern.{Pattern}
use Rattle.tk_tree.specs.declared.corner.Corner.{Corner}
use Rattle.tk_tree.specs.declared.window.Window.{Window}
use Rattle.tk_tree.specs.Corners.{corner}
use Rattle.tk_tree.specs.Own.{Tree, at_path, window_at}
use Rattle.tk_tree.specs.Path.{bad_path}

-- ---- who gets it

abbrev pub named_or_bad : List ℕ → Option Window → Result Receiver (List ℕ)
named_or_bad path (Some window) = Ok (record { number = window.number; path = path })
named_or_bad path None = bad_path path

abbrev pub receiver_named : List ℕ → Tree → Result Receiver (List ℕ)
receiver_named path own = named_or_bad path (at_path path own)

-- events of keys go to the focus window
abbrev pub receiver_of : EventRequest → Option Window → Receiver → Receiver
receiver_of asked focus named =
    if is_for_keys asked then option_map_or (λ window. record { number = window.number; path = window.path }) focus named else named

-- ---- the event

abbrev pub physical_event : Pattern → Given → Receiver → Corner → ℕ → Result Event (List ℕ)
physical_event pattern given receiver corner moment = do
  key ← key_for pattern given.keysym
  button ← button_for pattern given.button
  Ok (record (bare_event (Physical pattern.kind) receiver.number receiver.path moment) {
    state = state_for pattern given.state;
    x = place_for pattern.kind given.x;
    y = place_for pattern.kind given.y;
    root_x = root_for pattern.kind given.x corner.x;
    root_y = root_for pattern.kind given.y corner.y;
    button = button;
    key = key;
    detail = detail_for pattern.kind given.detail;
  })

-- a virtual event has the fields that are given
abbrev pub virtual_event : List ℕ → Given → Receiver → Corner → ℕ → Event
virtual_event name given receiver corner moment = record (bare_event (Virtual name) receiver.number receiver.path moment) {
  state = given.state;
  x = given.x;
  y = given.y;
  root_x = from_corner given.x corner.x;
  root_y = from_corner given.y corner.y;
  detail = given.detail;
}

abbrev pub event_in : EventRequest → Given → Receiver → Corner → ℕ → Result Event (List ℕ)
event_in (asks.Physical pattern) given receiver corner moment = physical_event pattern given receiver corner moment
event_in (asks.Virtual name) given receiver corner moment = Ok (virtual_event name given receiver corner moment)

abbrev pub event_for : EventRequest → Given → Receiver → ℕ → Tree → Result Event (List ℕ)
event_for asked given receiver moment own = event_in asked given receiver (corner receiver.number own) moment

-- ---- when it comes

abbrev pub is_to_wait : When → Bool
is_to_wait Now = false
is_to_wait Tail = true
is_to_wait Head = true

-- how many events of an application wait at most
abbrev pub most_queued : ℕ
most_queued = 1024

-- not where it is to wait and as many wait as can
abbrev pub in_room : ℕ → When → Result When (List ℕ)
in_room waiting when = if is_to_wait when && nat_le most_queued waiting then fails (codes "limit reached: events") else Ok when

-- ---- the command

unfoldable pub generate_words : List (List ℕ) → ℕ → ℕ → ℕ → Tree → Result Generated (List ℕ)
generate_words (path ∷ pattern ∷ options) focus waiting moment own = do
  named ← receiver_named path own
  asked ← asked_in pattern
  given ← given_from options nothing_given
  event ← event_for asked given (receiver_of asked (window_at focus own) named) moment own
  when ← in_room waiting given.when
  Ok (record { event = event; when = when })
generate_words _ focus waiting moment own = wrong_args (codes "event generate path pattern ?option value ..?")
