use Rattle.std.proofs.Common.{◌≡◌, length}
use Rattle.tk_patterns.specs.Filing.{with_stamps}
use Rattle.tk_patterns.proofs.filing.add_stamps.Given as goal

abbrev pub invariant-loop-stamp : goal.invariant-loop-stamp
invariant-loop-stamp l = with_stamps l.stamps.keys l.rest ≡ with_stamps l.initial.stamps.keys l.more

abbrev pub decreases-loop-stamp : goal.decreases-loop-stamp
decreases-loop-stamp l = length l.rest
