use Rattle.tk_app.proofs.Parts.{settles_from_rest}
use Rattle.tk_app.proofs.laws.settles_from_rest.Goals as goal

pub returns : goal.returns
returns g c = settles_from_rest g.M.AliasMeaning.answer
