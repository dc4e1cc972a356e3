use Rattle.std.proofs.Common.{ap, ◌∙◌}
use Rattle.tk_packer.specs.Asked.{size_asked, requests_of}
use Rattle.tk_packer.specs.Groups.{slaves_in}
use Rattle.tk_packer.proofs.Sizes.{sizes_begin, sizes_more, asked_new, sizes_end}
use Rattle.tk_packer.proofs.asked.sizes_asked.Goals as goal

pub loop-shape-init : goal.loop-shape-init
loop-shape-init c = sizes_begin (slaves_in c.args.owner c.args.packs.now) c.args.shapes.now c.new-sizes.result.entries c.new-sizes.ensures.empty

pub loop-shape-preserved : goal.loop-shape-preserved
loop-shape-preserved c =
    let shape = c.in-Some.shape.now in
    let old = c.loop-shape.sizes.entries in
    let size = c.size_asked.ensures ∙ ap (size_asked shape) (c.as_slice.ensures.value ∙ c.in_ok-requests.ensures ∙ ap (requests_of old) c.slaves_in.ensures) in
    sizes_more (slaves_in c.args.owner c.args.packs.now) c.in-Some.before.now c.loop-shape.rest.now shape old c.insert.new.self.entries _
    c.in-Some.ensures.cases.0
    (asked_new (slaves_in c.args.owner c.args.packs.now) shape old c.insert.new.self.entries c.size_asked.result size c.in_ok-insert.ensures.updates.0) c.loop-shape.invariant

pub returns : goal.returns
returns c = (sizes_end (slaves_in c.args.owner c.args.packs.now) c.loop-shape.rest.now c.loop-shape.sizes.entries _ c.in_default.ensures.cases c.loop-shape.invariant).found
