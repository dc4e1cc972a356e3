use Rattle.std.proofs.Common.{length}
use Rattle.tk_packer.specs.Asked.{sizes_asked}
use Rattle.tk_packer.specs.Groups.{slaves_in}
use Rattle.tk_packer.proofs.SameInputs.{Same}
use Rattle.tk_packer.proofs.Sizes.{sizes_onto}
use Rattle.tk_packer.proofs.asked.sizes_asked.Given as goal

-- the sizes found so far, and those of the windows before
abbrev pub invariant-loop-shape : goal.invariant-loop-shape
invariant-loop-shape l = Same (sizes_onto (slaves_in l.owner l.packs) l.rest l.sizes.entries) (sizes_asked (slaves_in l.owner l.packs) l.shapes)

abbrev pub decreases-loop-shape : goal.decreases-loop-shape
decreases-loop-shape l = length l.rest
