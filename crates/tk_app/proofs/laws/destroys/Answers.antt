use Rattle.tk_app.proofs.ByEquations.{destroys_all}
use Rattle.tk_app.proofs.Gone.{destroys_all as all_gone, destroys_untested}
use Rattle.tk_app.proofs.laws.destroys.Goals as goal

pub returns : goal.returns
returns c = record { job = destroys_all; gone = all_gone; untested = destroys_untested }
