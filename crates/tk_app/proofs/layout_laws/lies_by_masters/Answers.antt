use Rattle.tk_app.proofs.Places.{lies_by_masters}
use Rattle.tk_app.proofs.layout_laws.lies_by_masters.Goals as goal

pub returns : goal.returns
returns c = lies_by_masters
