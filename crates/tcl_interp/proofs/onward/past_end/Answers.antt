use Rattle.std.proofs.Common.{◌≤◌, length, sym, subst}
use Rattle.std.proofs.lemmas.Result.{IfOk-weaker}
use Rattle.tcl_interp.specs.Quiet.{Leads}
use Rattle.tcl_interp.specs.Rests.{commands_in, standing_of, waits_of}
use Rattle.tcl_interp.proofs.OnwardLemmas.{end_leads, script_leads}
use Rattle.tcl_interp.proofs.onward.past_end.Goals as goal

pub returns-else-place-commands : goal.returns-else-place-commands
returns-else-place-commands g c =
    let place = c.in-GoesOn.place in
    let past : length (commands_in place.script) ≤ place.next = rw c.commands.ensures at c.if-place-commands.false in
    IfOk-weaker c.woken.result _ _ (λ next is.
    let after = standing_of next c.woken.new.frames.items c.woken.new.scopes c.woken.new.context in
    subst (λ now. Leads (standing_of now c.args.frames.now.items c.args.scopes.now c.args.context.now) after) (sym c.in-GoesOn.is)
    (script_leads place.room (commands_in place.script) place.next c.in-GoesOn.result c.args.scopes.now c.args.context.now (waits_of c.args.frames.now.items) after past is)) c.woken.ensures

pub returns-in-Ends : goal.returns-in-Ends
returns-in-Ends g c =
    let e = c.in-Ends in
    IfOk-weaker c.woken-in-Ends.result _ _ (λ next is.
    let after = standing_of next c.woken-in-Ends.new.frames.items c.woken-in-Ends.new.scopes c.woken-in-Ends.new.context in
    subst (λ now. Leads (standing_of now c.args.frames.now.items c.args.scopes.now c.args.context.now) after) (sym e.is)
    (end_leads c.args.scopes.now c.args.context.now e.code e.text (waits_of c.args.frames.now.items) after is)) c.woken-in-Ends.ensures
