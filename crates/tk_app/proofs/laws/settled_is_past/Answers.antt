use Rattle.tk_app.proofs.Settled.{settled_is_past}
use Rattle.tk_app.proofs.laws.settled_is_past.Goals as goal

pub returns : goal.returns
returns g c = settled_is_past g.M.AliasMeaning.answer
