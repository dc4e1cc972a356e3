use Rattle.tk_base.proofs.Owners.{listed_none}
use Rattle.tk_base.proofs.bag.none_is_listed.Goals as goal

pub returns : goal.returns
returns g c = listed_none
