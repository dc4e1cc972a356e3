use Rattle.std.proofs.Common.{◌≡◌, ◌++◌, length}
use Rattle.std.specs.Prelude.{reverse}
use Rattle.tk_tree.specs.Orders.{post_order}
use Rattle.tk_tree.specs.Walks.{all_below_first}
use Rattle.tk_tree.specs.Shared.{own_of}
use Rattle.tk_tree.proofs.windows.Windows.post_order.Given as goal

-- those that wait with what is below them, and those visited from the last on
abbrev pub invariant-loop-number : goal.invariant-loop-number
invariant-loop-number l =
    all_below_first l.waiting.items (own_of l.win.owner l.self).windows ++ reverse l.order.items ≡ post_order l.win.number (own_of l.win.owner l.self)

abbrev pub decreases-loop-number : goal.decreases-loop-number
decreases-loop-number l = length (all_below_first l.waiting.items (own_of l.win.owner l.self).windows)
