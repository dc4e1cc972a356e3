use Rattle.tk_host.proofs.Relation.{passed_passes}
use Rattle.tk_host.proofs.laws.passed_passes.Goals as goal

pub returns : goal.returns
returns g c = passed_passes g.M.AliasMeaning.answer
