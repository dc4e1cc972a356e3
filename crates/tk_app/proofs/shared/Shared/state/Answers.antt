use Rattle.std.proofs.Common.{arith}
use Rattle.tk_app.specs.Part.{Part}
use Rattle.tk_app.proofs.Slots.{in_range, of_slot}
use Rattle.tk_app.proofs.shared.Shared.state.Goals as goal

pub index-runner-requires : goal.index-runner-requires
index-runner-requires g c = let lt = in_range _ _ c.self.view_is c.requires in omega (arith, lt)

pub returns : goal.returns
returns g c = of_slot _ _ c.self.view_is (λ (p : Part _). p.application.state) c.requires c.index-runner.ensures c.state.ensures.state
