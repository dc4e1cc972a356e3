use Rattle.std.proofs.Common.{List, ap, ◌∙◌, subst}
use Rattle.tk_packer.specs.declared.shape.Shape.{Shape}
use Rattle.tk_packer.specs.Groups.{slaves_in}
use Rattle.tk_packer.specs.Standing.{Inputs, IsPackedAs}
use Rattle.tk_packer.proofs.Inputs.{made_from}
use Rattle.tk_packer.proofs.kept_layout.KeptLayout.with_packs.Goals as goal

pub returns-then-branch : goal.returns-then-branch
returns-then-branch c =
    let packed = slaves_in c.args.owner c.args.packs.now in
    let repacked = c.in_ok-repack.ensures in
    let shapes = repacked.shapes ∙ ap (λ (x : Inputs). x.shapes) c.self.view_is in
    made_from c.repack.new.windows c.args.self.size c.args.self.shapes packed (repacked.standing c.if-branch.true) (repacked.size ∙ ap (λ (x : Inputs). x.size) c.self.view_is) shapes
    (subst (λ (xs : List Shape). IsPackedAs packed xs c.repack.new.windows.slaves.items) shapes (repacked.packs c.if-branch.true))
