use Rattle.std.proofs.Common.{◌≡◌, ◌≤◌, length, take, drop}
use Rattle.tk_patterns.specs.Matches.{earlier_at}
use Rattle.tk_patterns.specs.Copies.{all_copies}
use Rattle.tk_patterns.specs.Walk.{walk}
use Rattle.tk_patterns.proofs.history.have_places.Given as goal

abbrev pub invariant-loop-place : goal.invariant-loop-place
invariant-loop-place l = record {
  within : l.end ≤ length l.events.items;
  same : walk (drop l.place (all_copies l.patterns)) (earlier_at l.event.number (take l.end l.events.items)) l.later
      ≡ walk (drop 1 (all_copies l.patterns)) (earlier_at l.event.number l.events.items) l.event;
}
