-- A script that is read begins, by one move.
use Rattle.std.proofs.Common.{◌≡◌, ℕ, List, ap, ◌∙◌, arith}
use Rattle.tcl_vars.specs.Store.{Store}
use Rattle.tcl_control.specs.declared.context.Context.{Context}
use Rattle.tcl_interp.specs.Finish.{Begins, Waiting}
use Rattle.tcl_interp.specs.Moves.{Moved, begin_move, moved, standing}
use Rattle.tcl_interp.specs.Quiet.{Leads, Moves}
use Rattle.tcl_interp.specs.Rests.{standing_of, waits_of}
use Rattle.tcl_interp.proofs.Settled.{stops_due}
use Rattle.tcl_interp.proofs.Weights.{quiet_lighter, leads_light, leads_on, leads_all}
use Rattle.tcl_interp.proofs.slices.read_on.Goals as goal

began : {K : Type 0} (room : ℕ) (script : List ℕ) (waits : List (Waiting K)) (store : Store) (before context : Context) (next : Moved K)
    → context ≡ before → next ≡ begin_move room script waits → Moves (standing (moved (Begins room script) waits) store before) (standing next store context)
began room script waits store before context next same begun = ap (λ m. standing m store context) begun ∙ ap (λ c. standing (begin_move room script waits) store c) same

pub scripts-smaller : goal.scripts-smaller
scripts-smaller g c =
    let m = standing_of c.scripts.doing c.scripts.frames.items c.scripts.scopes c.scripts.context in
    let waits = waits_of c.quiet.new.frames.items in
    let b = c.in-Begins in
    let due = standing (moved (Begins b.room b.script) waits) c.quiet.new.scopes c.quiet.new.context in
    let leads : Leads m due = rw b.is at c.in_ok-due.ensures.leads in
    let after = standing_of c.in_ok-doing-in-Begins.doing c.quiet.new.frames.items c.quiet.new.scopes c.begin_unread.new.context in
    let moves : Moves due after = began b.room b.script waits c.quiet.new.scopes c.quiet.new.context c.begin_unread.new.context after.moved c.begin_unread.ensures.context (c.in_ok-doing-in-Begins.ensures.now waits) in
    omega (arith, quiet_lighter due after tt moves, leads_light m due leads)

pub scripts-preserved : goal.scripts-preserved
scripts-preserved g c =
    let start = standing_of c.args.now c.args.frames.now.items c.args.scopes.now c.args.context.now in
    let m = standing_of c.scripts.doing c.scripts.frames.items c.scripts.scopes c.scripts.context in
    let waits = waits_of c.quiet.new.frames.items in
    let b = c.in-Begins in
    let due = standing (moved (Begins b.room b.script) waits) c.quiet.new.scopes c.quiet.new.context in
    let leads : Leads m due = rw b.is at c.in_ok-due.ensures.leads in
    let after = standing_of c.in_ok-doing-in-Begins.doing c.quiet.new.frames.items c.quiet.new.scopes c.begin_unread.new.context in
    let moves : Moves due after = began b.room b.script waits c.quiet.new.scopes c.quiet.new.context c.begin_unread.new.context after.moved c.begin_unread.ensures.context (c.in_ok-doing-in-Begins.ensures.now waits) in
    record {
      leads = leads_on start due after (leads_all start m due c.scripts.invariant.leads leads) moves;
      shows = c.begin_unread.ensures.shows ∙ c.scripts.invariant.shows;
      left = c.begin_unread.ensures.left ∙ c.scripts.invariant.left;
    }

pub returns-in_default : goal.returns-in_default
returns-in_default g c =
    let start = standing_of c.args.now c.args.frames.now.items c.args.scopes.now c.args.context.now in
    let m = standing_of c.scripts.doing c.scripts.frames.items c.scripts.scopes c.scripts.context in
    let n = standing_of c.in_ok-due.due c.quiet.new.frames.items c.quiet.new.scopes c.quiet.new.context in
    record {
      leads = leads_all start m n c.scripts.invariant.leads c.in_ok-due.ensures.leads;
      due = stops_due c.args.pauses c.in_ok-due.due (waits_of c.quiet.new.frames.items) c.in_ok-due.ensures.due c.in_default.not-Begins;
      shows = c.scripts.invariant.shows;
      left = c.scripts.invariant.left;
    }
