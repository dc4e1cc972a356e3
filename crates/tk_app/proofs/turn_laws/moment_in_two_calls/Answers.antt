use Rattle.tk_app.proofs.Passing.{brought_brought}
use Rattle.tk_app.proofs.turn_laws.moment_in_two_calls.Goals as goal

pub returns : goal.returns
returns g c = brought_brought
