use Rattle.tk_app.proofs.BySettle.{by_settle}
use Rattle.tk_app.proofs.laws.comes_by_settle.Goals as goal

pub returns : goal.returns
returns g c = by_settle g.M.AliasMeaning.answer
