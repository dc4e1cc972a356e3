use Rattle.tk_host.proofs.Bounded.{bounded_stages_hold}
use Rattle.tk_host.proofs.laws.bounded_stages.Goals as goal

pub returns : goal.returns
returns g c = bounded_stages_hold g.M.AliasMeaning.answer
