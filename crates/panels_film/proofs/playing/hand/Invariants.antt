use Rattle.std.proofs.Common.{◌≡◌, ◌++◌, List, take}
use Rattle.tk_host.specs.Held.{Call, held_after}
use Rattle.tkhost.specs.Calls.{lining}
use Rattle.panels_film.proofs.playing.hand.Given as goal

-- the lines up to the index have been handed on
abbrev pub invariant-loop-event : goal.invariant-loop-event
invariant-loop-event g l =
    (calls : List (Call g.row.M.Denot)) → l.fn.live.held ≡ held_after g.M.AliasMeaning.answer calls
    → l.live.held ≡ held_after g.M.AliasMeaning.answer (calls ++ lining (take l.event-index l.events))
