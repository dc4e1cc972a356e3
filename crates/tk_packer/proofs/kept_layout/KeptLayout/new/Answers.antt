use Rattle.std.proofs.Common.{◌≡◌}
use Rattle.tk_packer.specs.Groups.{slaves_in}
use Rattle.tk_packer.specs.Standing.{IsPackedAs, IsStanding, standing_of}
use Rattle.tk_packer.proofs.Inputs.{made_from, told_of}
use Rattle.tk_packer.proofs.kept_layout.KeptLayout.new.Goals as goal

pub returns-in-Some : goal.returns-in-Some
returns-in-Some c =
    let standing : IsStanding (standing_of c.in-Some.windows) =
    told_of c.in_ok-windows.field-0 (c.in-Some.windows, c.in-Some.index) (λ both. IsStanding (standing_of both.0)) c.in-Some.is c.in_ok-windows.ensures.standing in
    let inputs : (c.in-Some.windows.size ≡ c.args.size)
    × ((c.in-Some.windows.shapes.items ≡ c.args.shapes.items) × IsPackedAs (slaves_in c.args.owner c.args.packs.now) c.args.shapes.items c.in-Some.windows.slaves.items) =
    told_of c.in_ok-windows.field-0 (c.in-Some.windows, c.in-Some.index)
    (λ both. (both.0.size ≡ c.args.size) × ((both.0.shapes.items ≡ c.args.shapes.items) × IsPackedAs (slaves_in c.args.owner c.args.packs.now) c.args.shapes.items both.0.slaves.items))
    c.in-Some.is c.in_ok-windows.ensures.inputs in
    made_from c.in-Some.windows c.args.size c.args.shapes.items (slaves_in c.args.owner c.args.packs.now) standing inputs.0 inputs.1.0 inputs.1.1
