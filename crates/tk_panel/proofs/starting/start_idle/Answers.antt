use Rattle.std.proofs.Common.{sym, ap, ◌∙◌}
use Rattle.tk_after.specs.Timers as timers
use Rattle.tk_after.specs.Shared as timers_shared
use Rattle.tk_panel.specs.declared.job.Rest.TheVariants.{Rounds}
use Rattle.tk_panel.specs.Shared.{panel_of}
use Rattle.tk_panel.specs.Start.{without_event}
use Rattle.tk_panel.proofs.Starts.{idle_found, idle_gone}
use Rattle.tk_panel.proofs.starting.start_idle.Goals as goal

pub returns-in-Some-clause-own : goal.returns-in-Some-clause-own
returns-in-Some-clause-own c =
    let panel = panel_of c.args.slot c.args.tables.now in
    let rest = Rounds c.args.round c.args.home in
    let left = timers_shared.own_of c.args.slot c.cancel.new.self in
    ap (λ started. (record panel { timers = left }, started)) c.without_event.ensures
    ∙ idle_found c.args.id rest panel (timers.entry_with c.args.id panel.timers.entries) left c.cancel.ensures.own c.in-Some.script (sym c.in-Some.is ∙ c.cancel.ensures.script)

pub returns-in-None-clause-own : goal.returns-in-None-clause-own
returns-in-None-clause-own c =
    let panel = panel_of c.args.slot c.args.tables.now in
    let rest = Rounds c.args.round c.args.home in
    let left = timers_shared.own_of c.args.slot c.cancel.new.self in
    ap (λ started. (record panel { timers = left }, started)) c.without_event-in-None.ensures
    ∙ ap (λ script. (record panel { timers = left }, (script, without_event rest))) c.empty.ensures
    ∙ idle_gone c.args.id rest panel (timers.entry_with c.args.id panel.timers.entries) left c.cancel.ensures.own (sym c.in-None.is ∙ c.cancel.ensures.script)
