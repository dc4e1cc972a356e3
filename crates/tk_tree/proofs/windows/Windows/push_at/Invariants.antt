use Rattle.std.proofs.Common.{◌≡◌, ◌++◌, length}
use Rattle.tk_tree.specs.Shared.{own_of}
use Rattle.tk_tree.specs.Ways.{at_point}
use Rattle.tk_tree.proofs.windows.Windows.push_at.Given as goal

-- what was gone down, and what is still to go
abbrev pub invariant-loop-child : goal.invariant-loop-child
invariant-loop-child l =
    l.way.items ++ at_point l.number l.x l.y (own_of l.owner l.self).windows ≡ l.fn.way.items ++ at_point l.fn.number l.fn.x l.fn.y (own_of l.owner l.self).windows

abbrev pub decreases-loop-child : goal.decreases-loop-child
decreases-loop-child l = length (at_point l.number l.x l.y (own_of l.owner l.self).windows)
