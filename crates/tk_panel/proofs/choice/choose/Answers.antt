use Rattle.std.proofs.Common.{◌≡◌, Some, Err, sym, ap, ◌∙◌}
use Rattle.tk_dispatch.specs.Histories as histories
use Rattle.tk_panel.specs.Shared.{panel_of}
use Rattle.tk_panel.proofs.Choices.{chosen_refused}
use Rattle.tk_panel.proofs.choice.choose.Goals as goal

pub returns-in_ok-push-in-Some-Err-clause-own : goal.returns-in_ok-push-in-Some-Err-clause-own
returns-in_ok-push-in-Some-Err-clause-own c =
    let told = panel_of c.args.slot c.write.new.tables in
    let history = histories.own_of c.args.slot c.push-in-Some-Err.new.self in
    let refused : c.in_ok-scripts_at.field-0 ≡ Some (Err c.in-Some-Err.text) = cc in
    ap (λ scripts. (record told { history = history }, scripts)) c.none-in-Some-Err.ensures
    ∙ chosen_refused c.args.event (panel_of c.args.slot c.args.tables.now) told history c.in-Some-Err.text
    (sym c.in_ok-scripts_at.ensures ∙ refused)
    c.in_ok-write-in-Some-Err.ensures.own c.in_ok-push-in-Some-Err.ensures.ok
