use Rattle.tk_app.proofs.Stages.{told_in_two}
use Rattle.tk_app.proofs.turn_laws.turns_in_two_calls.Goals as goal

pub returns : goal.returns
returns g c = λ next_due settled weight steps_left lighter slice first last parts le. told_in_two next_due settled weight lighter steps_left slice first last parts le
