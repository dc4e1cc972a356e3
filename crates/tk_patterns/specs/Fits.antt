-- Meaning. Which events a pattern is for, one by one (bind(n)).
use Rattle.std.specs.Prelude.{ℕ, Bool, true, false, ◌&&◌, ◌||◌, ◌==◌, nat_le, not, ℤ, ◌-ℤ◌, unsigned_abs, Option, Some, None, unwrap_or}
use Rattle.std.specs.Int.{abs_diff}
use Rattle.std.specs.Option.{option_map_or}
use Rattle.tk_base.specs.Names.{is_modifier}
use Rattle.tk_sequences.specs.declared.detail.Detail.{Detail}
use Rattle.tk_sequences.specs.declared.detail.Detail.TheVariants.{Key, Button}
use Rattle.tk_sequences.specs.declared.event_type.EventType.{EventType}
use Rattle.tk_sequences.specs.declared.pattern.Pattern.{Pattern}
use Rattle.tk_sequences.specs.Modifiers.{all_held}
use Rattle.tk_sequences.specs.Types.{type_number, is_button_type}
use Rattle.tk_sequences.specs.declared.event.Event.{Event}
use Rattle.tk_sequences.specs.declared.event.EventKind.{EventKind}
use Rattle.tk_sequences.specs.declared.event.EventKind.TheVariants.{Physical, Virtual}
use Rattle.tk_patterns.specs.Inputs.{is_release_type, is_press_of_key}

-- no two types have one number
abbrev pub same_type : EventType → EventType → Bool
same_type type other = type_number type == type_number other

abbrev pub has_type : EventType → EventKind → Bool
has_type type (Physical other) = same_type type other
has_type type (Virtual name) = false

-- the event's key or button is this one
abbrev pub is_about : Detail → Event → Bool
is_about (Key key) event = option_map_or (λ k. k == key) event.key false
is_about (Button button) event = option_map_or (λ b. b == button) event.button false

-- a pattern without a detail is for any key or button
abbrev pub has_detail : Option Detail → Event → Bool
has_detail None event = true
has_detail (Some detail) event = is_about detail event

-- all of these are held in the event's state; nothing is held where it has none
abbrev pub has_modifiers : ℕ → Event → Bool
has_modifiers modifiers event = all_held modifiers (unwrap_or event.state 0)

-- a pattern fits an event of its type, of its detail if it has one, in whose state all its modifiers are held
abbrev pub fits : Pattern → Event → Bool
fits pattern event = has_type pattern.kind event.kind && has_detail pattern.detail event && has_modifiers pattern.modifiers event

abbrev pub is_release : EventKind → Bool
is_release (Physical type) = is_release_type type
is_release (Virtual name) = false

abbrev pub is_key_press : EventKind → Bool
is_key_press (Physical type) = is_press_of_key type
is_key_press (Virtual name) = false

-- a shift, control or alt key, or the lock of capitals
abbrev pub is_modifier_key : Option ℕ → Bool
is_modifier_key key = option_map_or is_modifier key false

-- any release, or a press of a modifier key: between two events of a sequence such an event may stand
abbrev pub may_stand_between : Event → Bool
may_stand_between event = is_release event.kind || (is_key_press event.kind && is_modifier_key event.key)

-- at most 5 pixels apart; events that lack their places aren't near
abbrev pub is_near_on_axis : Option ℤ → Option ℤ → Bool
is_near_on_axis (Some place) (Some other) = nat_le (unsigned_abs (place -ℤ other)) 5
is_near_on_axis (Some place) None = false
is_near_on_axis None other = false

abbrev pub is_near_in_place : Event → Event → Bool
is_near_in_place event later = is_near_on_axis event.root_x later.root_x && is_near_on_axis event.root_y later.root_y

abbrev pub is_near_in_time : Event → Event → Bool
is_near_in_time event later = nat_le (abs_diff event.moment later.moment) 500

-- two copies of one pattern: at most 500 milliseconds apart, and for buttons 5 pixels in each axis
abbrev pub are_near : EventType → Event → Event → Bool
are_near type event later = is_near_in_time event later && (not (is_button_type type) || is_near_in_place event later)
