use Rattle.tk_host.proofs.History.{each_by_itself_holds}
use Rattle.tk_host.proofs.laws.each_by_itself.Goals as goal

pub returns : goal.returns
returns g c = each_by_itself_holds g.M.AliasMeaning.answer
