use Rattle.std.proofs.Common.{sym, subst}
use Rattle.std.proofs.lemmas.Result.{IfOk-weaker}
use Rattle.tcl_interp.specs.Rests.{standing_of, waits_of}
use Rattle.tcl_interp.specs.Steps.{TakesStep}
use Rattle.tcl_interp.proofs.Stepping.{test_given}
use Rattle.tcl_interp.proofs.slices.take_step.Goals as goal

pub returns-in-Tests-clause-ok : goal.returns-in-Tests-clause-ok
returns-in-Tests-clause-ok g c =
    let outside = g.T.Tasks.outside in
    IfOk-weaker c.test.result _ _ (λ next tested.
    let after = standing_of next c.test.new.frames.items c.test.new.scopes c.args.context.now in
    subst (λ now. TakesStep outside (standing_of now c.args.frames.now.items c.args.scopes.now c.args.context.now) (g.T.Tasks.shows c.args.tasks.now) after (g.T.Tasks.shows c.args.tasks.now)) (sym c.in-Tests.is)
    (test_given outside c.in-Tests.room c.in-Tests.looping (waits_of c.args.frames.now.items) (g.T.Tasks.shows c.args.tasks.now) c.args.scopes.now c.args.context.now after tested)) c.test.ensures
