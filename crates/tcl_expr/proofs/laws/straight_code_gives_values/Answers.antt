use Rattle.tcl_expr.proofs.StraightLemmas.{straight_gives}
use Rattle.tcl_expr.proofs.laws.straight_code_gives_values.Goals as goal

pub returns : goal.returns
returns c = straight_gives
