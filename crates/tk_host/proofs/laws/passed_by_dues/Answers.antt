use Rattle.tk_host.proofs.Passing.{passed_by_dues_holds}
use Rattle.tk_host.proofs.laws.passed_by_dues.Goals as goal

pub returns : goal.returns
returns g c = passed_by_dues_holds g.M.AliasMeaning.answer
