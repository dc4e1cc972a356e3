use Rattle.tk_app.proofs.Shares.{steps_in_turns, taken_by_turns}
use Rattle.tk_app.proofs.turn_laws.turns_add_up.Goals as goal

pub returns-clause-each : goal.returns-clause-each
returns-clause-each c = taken_by_turns

pub returns-clause-all : goal.returns-clause-all
returns-clause-all c = steps_in_turns
