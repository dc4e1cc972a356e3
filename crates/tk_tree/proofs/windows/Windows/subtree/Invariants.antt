use Rattle.std.proofs.Common.{◌≡◌, ◌++◌, length}
use Rattle.std.specs.Prelude.{reverse}
use Rattle.tk_tree.specs.Orders.{subtree}
use Rattle.tk_tree.specs.Walks.{all_below}
use Rattle.tk_tree.specs.Shared.{own_of}
use Rattle.tk_tree.proofs.windows.Windows.subtree.Given as goal

-- those visited, and those that wait with what is below them
abbrev pub invariant-loop-number : goal.invariant-loop-number
invariant-loop-number l =
    l.order.items ++ all_below (reverse l.waiting.items) (own_of l.win.owner l.self).windows ≡ subtree l.win.number (own_of l.win.owner l.self)

abbrev pub decreases-loop-number : goal.decreases-loop-number
decreases-loop-number l = length (all_below (reverse l.waiting.items) (own_of l.win.owner l.self).windows)
