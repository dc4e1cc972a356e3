use Rattle.std.proofs.Common.{arith, ap, length}
use Rattle.tk_app.specs.Turns.{Applications}
use Rattle.tk_app.proofs.Slots.{length-parts_from}
use Rattle.tk_app.proofs.shared.Shared.len.Goals as goal

pub returns : goal.returns
returns g c = omega (arith, c.len.ensures, length-parts_from 0 c.self.inside.tables c.self.inside.runners.items, ap (λ (h : Applications _). length h.parts) c.self.view_is)
