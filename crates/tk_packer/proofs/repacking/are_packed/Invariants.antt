use Rattle.std.proofs.Common.{◌≡◌, take}
use Rattle.tk_packer.specs.Standing.{packed_of}
use Rattle.tk_packer.proofs.repacking.are_packed.Given as goal

-- the same so far
abbrev pub invariant-loop-index : goal.invariant-loop-index
invariant-loop-index l = packed_of (take l.index l.slaves) ≡ take l.index l.packed
