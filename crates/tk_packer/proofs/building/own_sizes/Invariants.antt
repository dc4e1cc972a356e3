use Rattle.std.proofs.Common.{◌≡◌, take}
use Rattle.std.specs.Prelude.{map}
use Rattle.tk_packer.specs.Asked.{own_size}
use Rattle.tk_packer.proofs.building.own_sizes.Given as goal

abbrev pub invariant-loop-shape : goal.invariant-loop-shape
invariant-loop-shape l = l.sizes.items ≡ map own_size (take l.shape-index l.shapes)
