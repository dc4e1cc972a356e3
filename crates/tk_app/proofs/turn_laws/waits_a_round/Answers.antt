use Rattle.tk_app.proofs.Waits.{waits_in_turns}
use Rattle.tk_app.proofs.turn_laws.waits_a_round.Goals as goal

pub returns : goal.returns
returns c = waits_in_turns
