use Rattle.std.proofs.Common.{◌≡◌, [], ap, ◌∙◌}
use Rattle.std.proofs.lemmas.Result.{IfOk-weaker}
use Rattle.tcl_control.specs.declared.context.Context.{Context}
use Rattle.tcl_interp.specs.Moves.{act_move}
use Rattle.tcl_interp.specs.Rests.{waits_of}
use Rattle.tcl_interp.proofs.steps.resume.Goals as goal

pub returns-clause-ok : goal.returns-clause-ok
returns-clause-ok g c =
    let store = c.resume.new.scopes in
    let act = c.in_ok-act.act in
    let context : Context = record { levels = c.args.context.now.levels; commands = c.end_failure.new.table } in
    let same : context ≡ c.args.context.now = ap (λ table. record c.args.context.now { commands = table }) c.in_ok-end_failure.ensures in
    IfOk-weaker c.act_on.result _ _ (λ now acts. (store, act, c.in_ok-act.ensures.ok, acts store ∙ ap (λ k. act_move c.args.room [] store k (waits_of c.args.frames.now.items) act) same)) c.act_on.ensures
