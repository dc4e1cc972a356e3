use Rattle.std.proofs.Common.{◌≡◌, ◌++◌, length}
use Rattle.tk_patterns.proofs.filing.in_order.Given as goal

abbrev pub invariant-loop-stamp : goal.invariant-loop-stamp
invariant-loop-stamp l = l.list.items ++ l.rest.keys ≡ l.fn.stamps.keys

abbrev pub decreases-loop-stamp : goal.decreases-loop-stamp
decreases-loop-stamp l = length l.rest.keys
