use Rattle.std.proofs.Common.{◌≡◌, ◌<◌, ◌+◌, ℕ, List, suc, ap, sym, ◌∙◌, arith}
use Rattle.tcl_vars.specs.Store.{Store}
use Rattle.tcl_control.specs.declared.code.Code.{Code}
use Rattle.tcl_control.specs.declared.context.Context.{Context}
use Rattle.tcl_interp.specs.Finish.{Resumes, Waiting}
use Rattle.tcl_interp.specs.Moves.{Standing, moved, standing}
use Rattle.tcl_interp.specs.Outside.{Outside}
use Rattle.tcl_interp.specs.Quiet.{Leads}
use Rattle.tcl_interp.specs.Rests.{standing_of, waits_of}
use Rattle.tcl_interp.specs.Steps.{Resumed, finish_from}
use Rattle.tcl_interp.proofs.Settled.{due_settled}
use Rattle.tcl_interp.proofs.Stepping.{settle_on, leads_none, resumed_falls}
use Rattle.tcl_interp.proofs.Weights.{tasks, waits_tasks, leads_tasks}
use Rattle.tcl_interp.proofs.slices.settle.Goals as goal

-- the task is that in its box
in_box : {S K : Type 0} (outside : Outside S K) (room : ℕ) (task boxed : K) (code : Code) (text : List ℕ) (waits : List (Waiting K)) (shows : S) (store : Store) (context : Context) (after : Standing K) (shows' : S) → task ≡ boxed
    → Resumed outside room task code text waits shows store context after shows' → Resumed outside room boxed code text waits shows store context after shows'
in_box outside room task boxed code text waits shows store context after shows' e h = rw (sym e) h

pub moves-smaller : goal.moves-smaller
moves-smaller g c =
    let outside = g.T.Tasks.outside in
    let m = standing_of c.moves.doing c.moves.frames.items c.moves.scopes c.moves.context in
    let waits = waits_of c.read_on.new.frames.items in
    let r = c.in-Resumes in
    let due = standing (moved (Resumes r.room r.task.value r.code r.text) waits) c.read_on.new.scopes c.read_on.new.context in
    let leads : Leads m due = rw r.is at c.in_ok-settled.ensures.leads in
    let after = standing_of c.in_ok-doing-in-Resumes.doing c.resume.new.frames.items c.resume.new.scopes c.resume.new.context in
    let ok = in_box outside r.room c.into_inner-task.result r.task.value r.code r.text waits (g.T.Tasks.shows c.read_on.new.tasks) c.read_on.new.scopes c.read_on.new.context after (g.T.Tasks.shows c.resume.new.tasks) c.into_inner-task.ensures c.in_ok-doing-in-Resumes.ensures.ok in
    let less : tasks outside.size after.moved < suc (outside.size r.task.value) + waits_tasks outside.size waits = resumed_falls outside g.met.T.Tasks.falls r.room r.task.value r.code r.text waits (g.T.Tasks.shows c.read_on.new.tasks) c.read_on.new.scopes c.read_on.new.context after (g.T.Tasks.shows c.resume.new.tasks) ok in
    omega (arith, less, leads_tasks outside.size m due leads)

pub moves-preserved : goal.moves-preserved
moves-preserved g c =
    let outside = g.T.Tasks.outside in
    let m = standing_of c.moves.doing c.moves.frames.items c.moves.scopes c.moves.context in
    let waits = waits_of c.read_on.new.frames.items in
    let r = c.in-Resumes in
    let due = standing (moved (Resumes r.room r.task.value r.code r.text) waits) c.read_on.new.scopes c.read_on.new.context in
    let leads : Leads m due = rw r.is at c.in_ok-settled.ensures.leads in
    let after = standing_of c.in_ok-doing-in-Resumes.doing c.resume.new.frames.items c.resume.new.scopes c.resume.new.context in
    let ok = in_box outside r.room c.into_inner-task.result r.task.value r.code r.text waits (g.T.Tasks.shows c.read_on.new.tasks) c.read_on.new.scopes c.read_on.new.context after (g.T.Tasks.shows c.resume.new.tasks) c.into_inner-task.ensures c.in_ok-doing-in-Resumes.ensures.ok in
    record {
      same = λ left. c.moves.invariant.same left ∙ ap (λ s. finish_from outside m s left) (sym c.read_on.ensures.shows) ∙ settle_on outside g.met.T.Tasks.falls m (g.T.Tasks.shows c.read_on.new.tasks) r.room r.task.value r.code r.text waits c.read_on.new.scopes c.read_on.new.context after (g.T.Tasks.shows c.resume.new.tasks) leads ok left;
      left = c.in_ok-doing-in-Resumes.ensures.left ∙ c.read_on.ensures.left ∙ c.moves.invariant.left;
    }

pub returns-in_default : goal.returns-in_default
returns-in_default g c =
    let outside = g.T.Tasks.outside in
    let m = standing_of c.moves.doing c.moves.frames.items c.moves.scopes c.moves.context in
    let n = standing_of c.in_ok-settled.settled c.read_on.new.frames.items c.read_on.new.scopes c.read_on.new.context in
    record {
      ok = λ left. c.moves.invariant.same left ∙ ap (λ s. finish_from outside m s left) (sym c.read_on.ensures.shows) ∙ leads_none outside m n (g.T.Tasks.shows c.read_on.new.tasks) c.in_ok-settled.ensures.leads left;
      settled = due_settled c.args.pauses c.in_ok-settled.settled (waits_of c.read_on.new.frames.items) c.in_ok-settled.ensures.due c.in_default.not-Resumes;
      left = c.read_on.ensures.left ∙ c.moves.invariant.left;
    }
