use Rattle.tk_app.proofs.ByEquations.{dispatches}
use Rattle.tk_app.proofs.laws.dispatches.Goals as goal

pub returns : goal.returns
returns c = dispatches
