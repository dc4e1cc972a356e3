use Rattle.std.proofs.Common.{◌≡◌, take}
use Rattle.tk_widgets.specs.Items.{texts}
use Rattle.tk_widgets.proofs.items.texts_of.Given as goal

-- the texts so far
abbrev pub invariant-loop-item : goal.invariant-loop-item
invariant-loop-item l = l.list ≡ texts (take l.item-index l.items)
