-- Meaning. What is kept of the events of an application, the oldest first.
use Rattle.std.specs.Prelude.{◌-◌, length, drop, List, [], ◌∷◌, ◌++◌, if◌then◌else◌}
use Rattle.tk_sequences.specs.Event.{is_input}
use Rattle.tk_sequences.specs.declared.event.Event.{Event}

-- the last 32, or all where they are fewer
abbrev pub last_32 : List Event → List Event
last_32 events = drop (length events - 32) events

-- an event of a key or a button comes last, and of 33 the oldest goes; other events aren't kept
abbrev pub entered : Event → List Event → List Event
entered event history = if is_input event.kind then last_32 (history ++ event ∷ []) else history
