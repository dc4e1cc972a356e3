use Rattle.tk_app.proofs.ByEquations.{equations_are_met, settles_all}
use Rattle.tk_app.proofs.ByUpdate.{one_settle, only_settle}
use Rattle.tk_app.proofs.laws.settles.Goals as goal

pub returns : goal.returns
returns c = record { equation = settles_all; only = only_settle; met = equations_are_met; one = one_settle }
