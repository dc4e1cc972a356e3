use Rattle.tk_host.proofs.Ranges.{alone_in_range}
use Rattle.tk_host.proofs.laws.alone_in_range.Goals as goal

pub returns : goal.returns
returns g c = alone_in_range g.M.AliasMeaning.answer
