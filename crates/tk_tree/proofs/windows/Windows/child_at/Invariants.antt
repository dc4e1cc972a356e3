use Rattle.std.proofs.Common.{◌≡◌, length}
use Rattle.std.specs.Prelude.{reverse}
use Rattle.tk_tree.specs.Shared.{own_of}
use Rattle.tk_tree.specs.Ways.{at_point}
use Rattle.tk_tree.proofs.Points.{at_children}
use Rattle.tk_tree.proofs.windows.Windows.child_at.Given as goal

-- the children that were looked at don't have the point
abbrev pub invariant-loop-newest : goal.invariant-loop-newest
invariant-loop-newest l =
    at_point l.number l.x l.y (own_of l.owner l.self).windows ≡ at_children l.x l.y (own_of l.owner l.self).windows (reverse l.rest)

abbrev pub decreases-loop-newest : goal.decreases-loop-newest
decreases-loop-newest l = length l.rest
