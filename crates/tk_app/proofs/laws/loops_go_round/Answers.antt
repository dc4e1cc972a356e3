use Rattle.tk_app.proofs.Loops.{loops_go_round, only_loops}
use Rattle.tk_app.proofs.laws.loops_go_round.Goals as goal

pub returns : goal.returns
returns c = record { equation = loops_go_round; only = only_loops }
