use Rattle.std.proofs.Common.{◌≡◌, drop}
use Rattle.tk_app.specs.Stages.{earlier, first_moment_due}
use Rattle.tk_app.specs.Application.{next_due}
use Rattle.tk_app.specs.MomentsByJob.{settled}
use Rattle.tk_host.specs.Turns.{applications}
use Rattle.tk_host.proofs.stages.next_due.Given as goal

-- the first so far and of the rest is that of them all
abbrev pub invariant-loop-slot : goal.invariant-loop-slot
invariant-loop-slot g l =
    earlier l.first (first_moment_due next_due (settled g.M.AliasMeaning.answer) (drop l.slot (applications l.shared.parts))) ≡ first_moment_due next_due (settled g.M.AliasMeaning.answer) (applications l.shared.parts)
