use Rattle.std.proofs.Common.{drop}
use Rattle.tk_packer.specs.Behind.{IsTallied}
use Rattle.tk_packer.specs.Parcels.{asks_of}
use Rattle.tk_packer.proofs.behind.Behind.of.Given as goal

-- those from here on are counted
abbrev pub invariant-loop-index : goal.invariant-loop-index
invariant-loop-index l = IsTallied l.behind (asks_of l.axis (drop l.index l.requests))
