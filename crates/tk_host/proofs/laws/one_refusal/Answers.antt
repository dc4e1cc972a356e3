use Rattle.tk_host.proofs.Order.{one_refusal_holds}
use Rattle.tk_host.proofs.laws.one_refusal.Goals as goal

pub returns : goal.returns
returns g c = one_refusal_holds
