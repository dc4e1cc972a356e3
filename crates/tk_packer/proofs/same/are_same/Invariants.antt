use Rattle.std.proofs.Common.{◌≡◌, take}
use Rattle.tk_packer.proofs.same.are_same.Given as goal

-- the same so far
abbrev pub invariant-loop-index : goal.invariant-loop-index
invariant-loop-index l = take l.index l.one ≡ take l.index l.other
