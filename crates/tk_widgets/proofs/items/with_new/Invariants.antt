use Rattle.std.proofs.Common.{◌≡◌, ◌++◌, take}
use Rattle.tk_widgets.specs.Items.{new_items}
use Rattle.tk_widgets.proofs.items.with_new.Given as goal

-- the new items so far
abbrev pub invariant-loop-text : goal.invariant-loop-text
invariant-loop-text l = l.all.items ≡ l.fn.all.items ++ new_items (take l.text-index l.texts)
