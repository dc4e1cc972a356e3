use Rattle.std.proofs.Common.{◌≡◌, take}
use Rattle.tk_packer.specs.Asked.{requests_of}
use Rattle.tk_packer.proofs.asked.requests_of.Given as goal

abbrev pub invariant-loop-packed : goal.invariant-loop-packed
invariant-loop-packed l = l.requests.items ≡ requests_of l.sizes.entries (take l.packed-index l.slaves)
