use Rattle.std.proofs.Common.{◌≡◌, take}
use Rattle.tk_packer.specs.Behind.{least_share}
use Rattle.tk_packer.proofs.behind.Behind.share.Given as goal

-- the least so far
abbrev pub invariant-loop-narrow : goal.invariant-loop-narrow
invariant-loop-narrow l = l.least ≡ least_share l.left l.count (take l.narrow-index l.self.narrows.items)
