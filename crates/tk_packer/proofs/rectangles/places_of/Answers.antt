use Rattle.std.proofs.Common.{arith, refl, ◌∙◌, get_or}
use Rattle.tk_packer.specs.Groups.{slaves_in}
use Rattle.tk_packer.specs.Layout.{first_place}
use Rattle.tk_packer.proofs.Giving.{no_shape, places_begin, places_more, places_end}
use Rattle.tk_packer.proofs.rectangles.places_of.Goals as goal

pub loop-shape-init : goal.loop-shape-init
loop-shape-init c =
    places_begin (slaves_in c.args.owner c.args.packs.now) c.args.sizes.now.entries c.args.shapes.now (first_place c.args.size c.args.shapes.now) c.in_ok-given.given.entries c.in_ok-places.places.items
    c.in_ok-places.ensures.items c.in_ok-given.ensures

pub loop-shape-preserved : goal.loop-shape-preserved
loop-shape-preserved c =
    places_more (slaves_in c.args.owner c.args.packs.now) c.args.sizes.now.entries c.args.shapes.now c.loop-shape.shape-index no_shape (get_or c.args.shapes.now c.loop-shape.shape-index no_shape)
    c.copied-place.result c.loop-shape.given.entries c.give_slaves.new.given.entries c.loop-shape.places.items c.push.new.self.items _
    (omega arith) refl (c.copied-place.ensures ∙ c.get.ensures.value) c.in_ok-push.ensures.items c.in_ok-give_slaves.ensures c.loop-shape.invariant

pub returns : goal.returns
returns c =
    places_end (slaves_in c.args.owner c.args.packs.now) c.args.sizes.now.entries c.args.shapes.now c.loop-shape.shape-index c.loop-shape.given.entries c.loop-shape.places.items _
    (omega arith) c.loop-shape.invariant
