use Rattle.std.proofs.Common.{refl, ap, ◌∙◌}
use Rattle.std.proofs.lemmas.Result.{IfOk-weaker}
use Rattle.tk_packer.specs.Changes.{changes_of}
use Rattle.tk_packer.specs.Groups.{slaves_in}
use Rattle.tk_packer.specs.Shared.{own_of}
use Rattle.tk_packer.proofs.Whole.{layout_is}
use Rattle.tk_packer.proofs.layout.lay_out.Goals as goal

pub returns : goal.returns
returns c =
    IfOk-weaker c.changes_of.result _ _
    (λ changes is. is ∙ ap (changes_of c.args.shapes.now)
    (c.as_slice.ensures.value
    ∙ layout_is c.args.size (slaves_in c.args.owner c.args.packs.now) (own_of c.args.owner c.args.packs.now).packs c.args.shapes.now c.in_ok-sizes.sizes.entries c.in_ok-places.places.items
    (λ master. refl) c.in_ok-sizes.ensures c.in_ok-places.ensures))
    c.changes_of.ensures
