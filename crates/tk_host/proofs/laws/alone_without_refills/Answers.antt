use Rattle.tk_host.proofs.FirstFormat.{without_refills}
use Rattle.tk_host.proofs.laws.alone_without_refills.Goals as goal

pub returns : goal.returns
returns g c = without_refills g.M.AliasMeaning.answer
