use Rattle.std.proofs.Common.{arith}
use Rattle.tk_app.specs.Part.{Part, is_under_way}
use Rattle.tk_app.proofs.Slots.{in_range, of_slot}
use Rattle.tk_app.proofs.shared.Shared.is_under_way.Goals as goal

pub index-runner-requires : goal.index-runner-requires
index-runner-requires g c = let lt = in_range _ _ c.self.view_is c.requires in omega (arith, lt)

pub returns : goal.returns
returns g c = of_slot _ _ c.self.view_is (λ (p : Part _). is_under_way p.work) c.requires c.index-runner.ensures c.is_under_way.ensures
