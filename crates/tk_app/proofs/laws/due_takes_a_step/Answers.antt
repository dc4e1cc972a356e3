use Rattle.tk_app.proofs.Settled.{due_takes_a_step}
use Rattle.tk_app.proofs.laws.due_takes_a_step.Goals as goal

pub returns : goal.returns
returns g c = due_takes_a_step g.M.AliasMeaning.answer
