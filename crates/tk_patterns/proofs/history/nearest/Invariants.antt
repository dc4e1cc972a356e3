use Rattle.std.proofs.Common.{◌≡◌, ◌≤◌, take}
use Rattle.tk_patterns.specs.Matches.{earlier_at}
use Rattle.tk_patterns.specs.Walk.{nearest}
use Rattle.tk_patterns.proofs.history.nearest.Given as goal

abbrev pub invariant-loop-place : goal.invariant-loop-place
invariant-loop-place l = record {
  within : l.place ≤ l.end;
  same : nearest l.pattern (earlier_at l.number (take l.place l.events.items)) ≡ nearest l.pattern (earlier_at l.number (take l.end l.events.items));
}

abbrev pub decreases-loop-place : goal.decreases-loop-place
decreases-loop-place l = l.place
