use Rattle.tk_session.proofs.Single.{never_both_holds}
use Rattle.tk_session.proofs.laws.never_both.Goals as goal

pub returns : goal.returns
returns c = never_both_holds
