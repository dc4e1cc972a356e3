use Rattle.std.proofs.Common.{◌≡◌, ◌++◌, drop}
use Rattle.tk_packer.specs.Groups.{slaves_in}
use Rattle.tk_packer.specs.Layout.{placed, first_place}
use Rattle.tk_packer.proofs.rectangles.places_of.Given as goal

-- the places so far, and those of the rest
abbrev pub invariant-loop-shape : goal.invariant-loop-shape
invariant-loop-shape l =
    l.places.items ++ placed (slaves_in l.owner l.packs) l.sizes.entries l.given.entries (drop l.shape-index l.shapes)
    ≡ placed (slaves_in l.owner l.packs) l.sizes.entries (first_place l.fn.size l.shapes) l.shapes
