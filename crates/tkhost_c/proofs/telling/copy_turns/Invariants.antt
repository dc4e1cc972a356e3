use Rattle.std.proofs.Common.{◌≡◌, ◌++◌, drop, map, take}
use Rattle.tkhost_c.specs.Calls.{turn_of}
use Rattle.tkhost_c.proofs.telling.copy_turns.Given as goal

abbrev pub invariant-loop-place : goal.invariant-loop-place
invariant-loop-place l = l.turns ≡ map turn_of (take l.place l.taken) ++ drop l.place l.fn.turns
