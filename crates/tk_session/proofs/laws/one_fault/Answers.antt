use Rattle.tk_session.proofs.Single.{one_fault_holds}
use Rattle.tk_session.proofs.laws.one_fault.Goals as goal

pub returns : goal.returns
returns c = one_fault_holds
