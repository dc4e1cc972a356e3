use Rattle.tk_session.proofs.FirstFormat.{of_the_first}
use Rattle.tk_session.proofs.laws.first_format.Goals as goal

pub returns : goal.returns
returns c = of_the_first
