use Rattle.std.proofs.Common.{◌≡◌, ◌++◌, take}
use Rattle.std.specs.Prelude.{flat_map}
use Rattle.tk_session.specs.Writing.{event_text}
use Rattle.tk_session.proofs.writing.push_events.Given as goal

-- what was gone over is written
abbrev pub invariant-loop-event : goal.invariant-loop-event
invariant-loop-event l = l.text.items ≡ l.fn.text.items ++ flat_map (event_text l.apps) (take l.event-index l.events)
