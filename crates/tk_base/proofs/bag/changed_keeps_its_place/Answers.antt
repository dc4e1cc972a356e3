use Rattle.tk_base.proofs.Owners.{listed_changed}
use Rattle.tk_base.proofs.bag.changed_keeps_its_place.Goals as goal

pub returns : goal.returns
returns g c = listed_changed
