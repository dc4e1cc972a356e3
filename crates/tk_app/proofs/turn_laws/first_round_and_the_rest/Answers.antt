use Rattle.tk_app.proofs.Rounds.{turns_step}
use Rattle.tk_app.proofs.turn_laws.first_round_and_the_rest.Goals as goal

pub returns : goal.returns
returns c = turns_step
