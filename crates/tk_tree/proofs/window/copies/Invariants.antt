use Rattle.std.proofs.Common.{◌≡◌, take}
use Rattle.tk_tree.proofs.window.copies.Given as goal

abbrev pub invariant-loop-text : goal.invariant-loop-text
invariant-loop-text l = l.list ≡ take l.text-index l.texts
