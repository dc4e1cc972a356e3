use Rattle.std.proofs.Common.{◌≡◌, ◌++◌, map, length}
use Rattle.tcl_interp.specs.Rests.{waits_of}
use Rattle.tcl_interp.specs.Whole.{waiting_at}
use Rattle.tcl_interp.proofs.turns.stand.Given as goal

abbrev pub invariant-places : goal.invariant-places
invariant-places g l = map waiting_at l.outer.items ++ waits_of l.frames.items ≡ map waiting_at l.initial.outer.items ++ waits_of l.initial.frames.items

abbrev pub decreases-places : goal.decreases-places
decreases-places g l = length l.outer.items
