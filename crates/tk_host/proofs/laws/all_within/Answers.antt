use Rattle.tk_host.proofs.UsedBySettle.{all_within}
use Rattle.tk_host.proofs.laws.all_within.Goals as goal

pub returns : goal.returns
returns g c = all_within g.M.AliasMeaning.answer
