use Rattle.std.proofs.Common.{sym, subst}
use Rattle.std.proofs.lemmas.Result.{IfOk-weaker}
use Rattle.tcl_interp.specs.Moves.{plan_move}
use Rattle.tcl_interp.specs.Quiet.{Leads}
use Rattle.tcl_interp.specs.Rests.{standing_of, waits_of}
use Rattle.tcl_interp.proofs.steps.follow.Goals as goal

pub returns-in-Evaluates : goal.returns-in-Evaluates
returns-in-Evaluates g c =
    let waits = waits_of c.args.frames.now.items in
    IfOk-weaker c.valued.result _ _ (λ now leads.
    subst (λ plan. Leads (plan_move c.args.room c.args.scopes.now c.args.context.now waits plan) (standing_of now c.args.frames.now.items c.args.scopes.now c.args.context.now)) (sym c.in-Evaluates.is)
    (leads waits)) c.valued.ensures

pub returns-in-Chooses : goal.returns-in-Chooses
returns-in-Chooses g c =
    let waits = waits_of c.args.frames.now.items in
    IfOk-weaker c.choose_first.result _ _ (λ now leads.
    subst (λ plan. Leads (plan_move c.args.room c.args.scopes.now c.args.context.now waits plan) (standing_of now c.choose_first.new.frames.items c.args.scopes.now c.choose_first.new.context)) (sym c.in-Chooses.is)
    (rw c.choose_first.ensures.context leads)) c.choose_first.ensures.now
