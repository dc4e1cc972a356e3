use Rattle.tk_app.proofs.ByEquations.{updates_idle}
use Rattle.tk_app.proofs.laws.updates_idle_tasks.Goals as goal

pub returns : goal.returns
returns c = updates_idle
