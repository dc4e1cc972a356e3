use Rattle.tk_route.proofs.SlotLemmas.{routed-among}
use Rattle.tk_route.proofs.laws.others_stay_where_slots_move.Goals as goal

pub returns : goal.returns
returns c = routed-among
