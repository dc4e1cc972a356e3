use Rattle.tk_app.proofs.Settled.{started_is_past}
use Rattle.tk_app.proofs.laws.started_is_past.Goals as goal

pub returns : goal.returns
returns g c = started_is_past g.M.AliasMeaning.answer
