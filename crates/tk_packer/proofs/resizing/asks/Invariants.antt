use Rattle.std.proofs.Common.{◌≡◌, take}
use Rattle.tk_packer.specs.Standing.{asks}
use Rattle.tk_packer.proofs.resizing.asks.Given as goal

-- those of the slaves so far
abbrev pub invariant-loop-slave : goal.invariant-loop-slave
invariant-loop-slave l = l.requests.items ≡ asks l.asked (take l.slave-index l.slaves)
