use Rattle.tk_session.proofs.Single.{one_session_holds}
use Rattle.tk_session.proofs.laws.one_session.Goals as goal

pub returns : goal.returns
returns c = one_session_holds
