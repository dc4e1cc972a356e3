-- Meaning. Presses and releases among the types of events.
use Rattle.std.specs.Prelude.{Bool, true, false}
use Rattle.tk_sequences.specs.declared.event_type.EventType.{EventType}
use Rattle.tk_sequences.specs.declared.event_type.EventType.TheVariants.{Key, KeyRelease, ButtonRelease}

abbrev pub is_release_type : EventType → Bool
is_release_type KeyRelease = true
is_release_type ButtonRelease = true
is_release_type _ = false

abbrev pub is_press_of_key : EventType → Bool
is_press_of_key Key = true
is_press_of_key _ = false
