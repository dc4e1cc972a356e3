use Rattle.tk_host.proofs.Ranges.{routes_in_range}
use Rattle.tk_host.proofs.laws.routes_in_range.Goals as goal

pub returns : goal.returns
returns c = routes_in_range
