use Rattle.std.proofs.Common.{ap, arith, length, length-take, ◌<◌, ◌∙◌}
use Rattle.std.proofs.Math.Seq.{take-set-lt}
use Rattle.tk_route.proofs.rects.Rects.set.Goals as goal

pub offset_bounds-self-inside-slot : goal.offset_bounds-self-inside-slot
offset_bounds-self-inside-slot c =
    let view = ap length c.self.view_is in
    omega (arith, length-take c.self.inside.count c.self.inside.all)

pub returns : goal.returns
returns c =
    let view = ap length c.self.view_is in
    let below : c.args.slot < c.self.inside.count = omega (arith, length-take c.self.inside.count c.self.inside.all) in
    take-set-lt c.self.inside.count c.self.inside.all c.args.slot c.args.rect below ∙ rw c.self.view_is
