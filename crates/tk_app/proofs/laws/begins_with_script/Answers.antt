use Rattle.tk_app.proofs.Parts.{begins_with_script}
use Rattle.tk_app.proofs.laws.begins_with_script.Goals as goal

pub returns : goal.returns
returns g c = begins_with_script g.M.AliasMeaning.answer
