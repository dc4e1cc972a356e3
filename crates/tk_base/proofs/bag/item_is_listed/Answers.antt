use Rattle.tk_base.proofs.Owners.{listed_found}
use Rattle.tk_base.proofs.bag.item_is_listed.Goals as goal

pub returns : goal.returns
returns g c = listed_found
