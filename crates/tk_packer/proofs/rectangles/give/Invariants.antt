use Rattle.std.proofs.Common.{drop}
use Rattle.tk_packer.specs.Layout.{give}
use Rattle.tk_packer.proofs.SameInputs.{Same}
use Rattle.tk_packer.proofs.rectangles.give.Given as goal

-- those given, and what the rest are given
abbrev pub invariant-loop-index : goal.invariant-loop-index
invariant-loop-index l = Same (give l.border (drop l.index l.slaves) (drop l.index l.places) l.given.entries) (give l.border l.slaves l.places l.fn.given.entries)
