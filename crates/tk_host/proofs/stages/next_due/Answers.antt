use Rattle.std.proofs.Common.{◌+◌, sym, ap, ◌∙◌, drop}
use Rattle.tk_app.specs.Stages.{earlier, first_moment_due}
use Rattle.tk_app.specs.Application.{next_due}
use Rattle.tk_app.specs.MomentsByJob.{settled}
use Rattle.tk_host.specs.Turns.{applications}
use Rattle.tk_host.proofs.Slots.{due_there}
use Rattle.tk_host.proofs.stages.next_due.Goals as goal

pub loop-slot-preserved : goal.loop-slot-preserved
loop-slot-preserved g c =
    let loop = c.loop-slot in
    ap (λ first. earlier first (first_moment_due next_due (settled g.M.AliasMeaning.answer) (drop (loop.slot + 1) (applications c.args.shared.now.parts)))) c.earlier-first.ensures
    ∙ sym (due_there g.M.AliasMeaning.answer c.args.shared.now.parts loop.slot loop.first c.next_due.result c.next_due.ensures)
    ∙ loop.invariant
