use Rattle.std.proofs.Common.{◌≡◌, ◌++◌, take}
use Rattle.tk_session.proofs.writing.are_same_events.Given as goal

-- what was gone over is the same
abbrev pub invariant-loop-event : goal.invariant-loop-event
invariant-loop-event l = l.others ≡ take l.event-index l.events ++ l.rest
