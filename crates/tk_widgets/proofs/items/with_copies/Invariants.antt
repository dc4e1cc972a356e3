use Rattle.std.proofs.Common.{◌≡◌, ◌++◌, take}
use Rattle.tk_widgets.proofs.items.with_copies.Given as goal

-- the copies so far
abbrev pub invariant-loop-item : goal.invariant-loop-item
invariant-loop-item l = l.all.items ≡ l.fn.all.items ++ take l.item-index l.items
