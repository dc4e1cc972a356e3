use Rattle.std.proofs.Common.{◌≡◌, ◌∷◌, take}
use Rattle.tcl_interp.proofs.steps.with_copies.Given as goal

abbrev pub invariant-loop-text : goal.invariant-loop-text
invariant-loop-text l = l.texts ≡ l.fn.first ∷ take l.text-index l.more
