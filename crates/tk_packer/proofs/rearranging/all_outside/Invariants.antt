use Rattle.std.proofs.Common.{◌≡◌, take}
use Rattle.std.specs.Prelude.{map, option_map}
use Rattle.tk_packer.specs.Layout.{counted_outside}
use Rattle.tk_packer.proofs.rearranging.all_outside.Given as goal

abbrev pub invariant-loop-index : goal.invariant-loop-index
invariant-loop-index l = l.all.items ≡ map (option_map (counted_outside l.border)) (take l.index l.places)
