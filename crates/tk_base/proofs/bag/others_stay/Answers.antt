use Rattle.tk_base.proofs.Owners.{listed_other}
use Rattle.tk_base.proofs.bag.others_stay.Goals as goal

pub returns : goal.returns
returns g c = listed_other
