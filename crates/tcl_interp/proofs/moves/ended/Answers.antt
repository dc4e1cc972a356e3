use Rattle.std.proofs.lemmas.Result.{IfOk-weaker}
use Rattle.tcl_interp.specs.Rests.{waits_of}
use Rattle.tcl_interp.proofs.moves.ended.Goals as goal

pub returns-in-ForProcedure : goal.returns-in-ForProcedure
returns-in-ForProcedure g c =
    rw c.in-ForProcedure.is (IfOk-weaker c.after_procedure.result _ _ (λ _ ends. ends (waits_of c.args.frames.now.items)) c.after_procedure.ensures.now)
