use Rattle.tk_app.proofs.ByEquations.{update_job, updates}
use Rattle.tk_app.proofs.ByUpdate.{only_update}
use Rattle.tk_app.proofs.laws.updates.Goals as goal

pub returns : goal.returns
returns c = record { job = update_job; equation = updates; only = only_update }
