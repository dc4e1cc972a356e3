use Rattle.tk_base.proofs.Owners.{listed_new}
use Rattle.tk_base.proofs.bag.new_comes_last.Goals as goal

pub returns : goal.returns
returns g c = listed_new
