use Rattle.tk_session.proofs.Single.{session_or_fault_holds}
use Rattle.tk_session.proofs.laws.session_or_fault.Goals as goal

pub returns : goal.returns
returns c = session_or_fault_holds
