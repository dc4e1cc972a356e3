use Rattle.std.proofs.Common.{◌≡◌, IfOk, sym, subst}
use Rattle.tcl_interp.specs.Rests.{commands_in, moved_of, waits_of}
use Rattle.tcl_interp.specs.Whole.{came_to}
use Rattle.tcl_interp.proofs.turns.come_on.Goals as goal

pub returns-in_ok-note_ended-in-At-clause-now : goal.returns-in_ok-note_ended-in-At-clause-now
returns-in_ok-note_ended-in-At-clause-now g c =
    let waits = waits_of c.args.frames.now.items in
    subst (λ came. moved_of c.after_command.result c.args.frames.now.items ≡ came_to c.args.room (commands_in c.args.script) came waits) (sym c.in-At.is) (c.after_command.ensures waits)

-- Box::into_inner's clause ties its result to stop.value
pub returns-in-Within-clause-now : goal.returns-in-Within-clause-now
returns-in-Within-clause-now g c =
    subst (λ came. IfOk c.stand.result (λ now. moved_of now c.stand.new.frames.items ≡ came_to c.args.room (commands_in c.args.script) came (waits_of c.args.frames.now.items))) (sym c.in-Within.is) (rw c.into_inner.ensures at c.stand.ensures.now)
