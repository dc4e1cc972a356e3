use Rattle.tk_host.proofs.Passing.{turns_by_dues_holds}
use Rattle.tk_host.proofs.laws.turns_by_dues.Goals as goal

pub returns : goal.returns
returns g c = turns_by_dues_holds g.M.AliasMeaning.answer
