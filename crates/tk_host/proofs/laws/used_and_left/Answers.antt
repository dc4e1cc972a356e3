use Rattle.tk_host.proofs.UsedBySettle.{used_and_left}
use Rattle.tk_host.proofs.laws.used_and_left.Goals as goal

pub returns : goal.returns
returns g c = used_and_left g.M.AliasMeaning.answer
