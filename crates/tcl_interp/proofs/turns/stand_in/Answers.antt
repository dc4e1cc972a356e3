use Rattle.std.proofs.Common.{ap, ◌∙◌}
use Rattle.std.proofs.lemmas.Result.{IfOk-weaker}
use Rattle.tcl_interp.specs.Whole.{stopped_in}
use Rattle.tcl_interp.proofs.turns.stand_in.Goals as goal

pub returns-clause-now : goal.returns-clause-now
returns-clause-now g c = IfOk-weaker c.stand.result _ _ (λ now is. is ∙ ap (λ waits. stopped_in c.args.stop waits) c.in_ok-wait.ensures) c.stand.ensures.now
