use Rattle.tk_app.proofs.Stages.{together}
use Rattle.tk_app.proofs.turn_laws.alone_and_together.Goals as goal

pub returns : goal.returns
returns g c = together
