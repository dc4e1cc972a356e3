use Rattle.tk_route.proofs.AddedLemmas.{routed-beside}
use Rattle.tk_route.proofs.laws.others_stay.Goals as goal

pub returns : goal.returns
returns c = routed-beside
