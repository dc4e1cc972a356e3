use Rattle.tkhost.proofs.Told.{same_bytes_holds}
use Rattle.tkhost.proofs.laws.same_bytes.Goals as goal

pub returns : goal.returns
returns g c = same_bytes_holds g.M.AliasMeaning.answer
