-- Meaning. Which fields a generated event has, beside its type, its window and its moment.
use Rattle.std.specs.Prelude.{ℕ, ℤ, pos, ◌+ℤ◌, Bool, true, false, ◌||◌, unwrap_or, List, Option, Some, None, option_map, Result, Ok, codes, if◌then◌else◌}
use Rattle.std.specs.List.{sum_by}
use Rattle.std.specs.Option.{option_or}
use Rattle.tcl_text.specs.Answers.{fails}
use Rattle.tk_sequences.specs.declared.detail.Detail.{Detail}
use Rattle.tk_sequences.specs.declared.detail.Detail.TheVariants as details
use Rattle.tk_sequences.specs.declared.event_type.EventType.{EventType}
use Rattle.tk_sequences.specs.declared.event_type.EventType.TheVariants.{Motion, Enter, Leave, Configure}
use Rattle.tk_sequences.specs.declared.modifier.Modifier.{Modifier}
use Rattle.tk_sequences.specs.declared.pattern.Pattern.{Pattern}
use Rattle.tk_sequences.specs.Modifiers.{all_modifiers, has_modifier, modifier_bit}
use Rattle.tk_sequences.specs.Types.{is_button_type, is_key_type}

-- ---- by the type of the event

-- the pointer makes it
abbrev pub is_of_pointer : EventType → Bool
is_of_pointer Motion = true
is_of_pointer Enter = true
is_of_pointer Leave = true
is_of_pointer type = is_button_type type

abbrev pub is_configure : EventType → Bool
is_configure Configure = true
is_configure _ = false

-- it tells a place where it is given one
abbrev pub may_have_place : EventType → Bool
may_have_place type = is_key_type type || is_configure type

-- the place is told from the window's own corner; that of Configure is told from the parent's
abbrev pub is_inside : EventType → Bool
is_inside Configure = false
is_inside _ = true

-- it tells which modifiers and buttons are held
abbrev pub has_state : EventType → Bool
has_state type = is_of_pointer type || is_key_type type

-- it has a detail, `%d`
abbrev pub has_detail : EventType → Bool
has_detail Enter = true
has_detail Leave = true
has_detail _ = false

abbrev pub detail_for : EventType → Option (List ℕ) → Option (List ℕ)
detail_for type given = if has_detail type then given else None

-- ---- state

abbrev pub held_bit : ℕ → Modifier → ℕ
held_bit modifiers modifier = if has_modifier modifiers modifier then modifier_bit modifier else 0

-- the state in which these modifiers are held, and nothing else: the sum of their bits
abbrev pub state_of : ℕ → ℕ
state_of modifiers = sum_by (held_bit modifiers) all_modifiers

-- the one given, else that of the pattern's modifiers
abbrev pub state_for : Pattern → Option ℕ → Option ℕ
state_for pattern given = if has_state pattern.kind then Some (unwrap_or given (state_of pattern.modifiers)) else None

-- ---- places

-- along one axis: in events of the pointer 0 unless it is given, in others only where they may have one
abbrev pub place_for : EventType → Option ℤ → Option ℤ
place_for type given =
    if is_of_pointer type then Some (unwrap_or given (pos 0))
    else (if may_have_place type then given else None)

-- a place in a window, from the corner of the application's rectangle
abbrev pub from_corner : Option ℤ → ℕ → Option ℤ
from_corner place corner = option_map (λ x. x +ℤ pos corner) place

abbrev pub root_for : EventType → Option ℤ → ℕ → Option ℤ
root_for type given corner = if is_inside type then from_corner (place_for type given) corner else None

-- ---- keys and buttons

abbrev pub key_in : Option Detail → Option ℕ
key_in (Some (details.Key key)) = Some key
key_in (Some (details.Button button)) = None
key_in None = None

abbrev pub button_in : Option Detail → Option ℕ
button_in (Some (details.Key key)) = None
button_in (Some (details.Button button)) = Some button
button_in None = None

-- what an event of its type must have
abbrev pub wanted : List ℕ → Option ℕ → Result (Option ℕ) (List ℕ)
wanted text (Some it) = Ok (Some it)
wanted text None = fails text

-- the one given, else the pattern's detail
abbrev pub key_for : Pattern → Option ℕ → Result (Option ℕ) (List ℕ)
key_for pattern given = if is_key_type pattern.kind then wanted (codes "no keysym given") (option_or given (key_in pattern.detail)) else Ok None

abbrev pub button_for : Pattern → Option ℕ → Result (Option ℕ) (List ℕ)
button_for pattern given = if is_button_type pattern.kind then wanted (codes "no button given") (option_or given (button_in pattern.detail)) else Ok None
