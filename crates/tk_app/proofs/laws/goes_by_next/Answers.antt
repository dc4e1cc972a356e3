use Rattle.tk_app.proofs.Nexts.{goes_by_next}
use Rattle.tk_app.proofs.laws.goes_by_next.Goals as goal

pub returns : goal.returns
returns c = goes_by_next
