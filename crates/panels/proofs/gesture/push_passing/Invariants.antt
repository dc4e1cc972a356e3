use Rattle.std.proofs.Common.{◌≡◌, ◌++◌}
use Rattle.panels.specs.Gestures.{passing}
use Rattle.panels.proofs.gesture.push_passing.Given as goal

abbrev pub decreases-loop-left : goal.decreases-loop-left
decreases-loop-left l = l.left

-- the moves so far, and those that are left, are all
abbrev pub invariant-loop-left : goal.invariant-loop-left
invariant-loop-left l = l.lines.items ++ passing l.spot l.to l.left ≡ l.fn.lines.items ++ passing l.fn.from l.to l.moves
