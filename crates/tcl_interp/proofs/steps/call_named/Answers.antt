use Rattle.std.proofs.Common.{◌∙◌, ap}
use Rattle.std.proofs.lemmas.Result.{IfOk-weaker}
use Rattle.tcl_interp.specs.Moves.{act_move}
use Rattle.tcl_interp.specs.Rests.{standing_of, waits_of}
use Rattle.tcl_interp.proofs.Stepping.{call_plan, call_outside}
use Rattle.tcl_interp.proofs.steps.call_named.Goals as goal

pub returns-in-Plans-clause-ok : goal.returns-in-Plans-clause-ok
returns-in-Plans-clause-ok g c =
    let scopes = c.call_command.new.scopes in
    IfOk-weaker c.follow.result _ _ (λ now followed.
    let after = standing_of now c.follow.new.frames.items scopes c.follow.new.context in
    call_plan g.T.Tasks.outside c.args.room c.args.name.now c.args.arguments.now (waits_of c.args.frames.now.items) (g.T.Tasks.shows c.args.tasks.now) c.args.scopes.now c.args.context.now
    scopes c.call_command.new.context c.in-Plans.plan after (rw c.in-Plans.is at c.in_ok-plan.ensures) followed) c.follow.ensures

pub returns-in_ok-act-in-Outside-clause-ok : goal.returns-in_ok-act-in-Outside-clause-ok
returns-in_ok-act-in-Outside-clause-ok g c =
    let scopes = c.call_outside.new.scopes in
    let waits = waits_of c.args.frames.now.items in
    IfOk-weaker c.act_on.result _ _ (λ now acted.
    let after = standing_of now c.act_on.new.frames.items scopes c.act_on.new.context in
    call_outside g.T.Tasks.outside c.args.room c.args.name.now c.args.arguments.now waits (g.T.Tasks.shows c.args.tasks.now) c.args.scopes.now c.args.context.now
    c.call_command.new.scopes c.call_command.new.context c.in-Outside.first (g.T.Tasks.shows c.call_outside.new.tasks) scopes c.in_ok-act-in-Outside.act after (rw c.in-Outside.is at c.in_ok-plan.ensures) c.in_ok-act-in-Outside.ensures.ok
    (acted scopes ∙ ap (λ n. act_move c.args.room n scopes c.call_command.new.context waits c.in_ok-act-in-Outside.act) c.as_str.ensures.bytes)) c.act_on.ensures
