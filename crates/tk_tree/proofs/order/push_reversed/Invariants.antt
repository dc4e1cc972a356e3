use Rattle.std.proofs.Common.{◌≡◌, ◌++◌, length}
use Rattle.std.specs.Prelude.{reverse}
use Rattle.tk_tree.proofs.order.push_reversed.Given as goal

-- what was put, and what is still to be put
abbrev pub invariant-loop-last : goal.invariant-loop-last
invariant-loop-last l = l.list.items ++ reverse l.rest ≡ l.fn.list.items ++ reverse l.numbers

abbrev pub decreases-loop-last : goal.decreases-loop-last
decreases-loop-last l = length l.rest
