use Rattle.tk_base.proofs.Owners.{listed_gone}
use Rattle.tk_base.proofs.bag.gone_leaves_the_rest.Goals as goal

pub returns : goal.returns
returns g c = listed_gone
