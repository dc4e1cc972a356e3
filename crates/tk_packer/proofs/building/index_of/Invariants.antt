use Rattle.std.proofs.Common.{take}
use Rattle.tk_packer.specs.Standing.{IsIndex}
use Rattle.tk_packer.proofs.building.index_of.Given as goal

abbrev pub invariant-loop-place : goal.invariant-loop-place
invariant-loop-place l = IsIndex l.index.entries (take l.place l.shapes)
