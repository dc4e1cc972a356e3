use Rattle.std.proofs.Common.{arith, map}
use Rattle.tk_app.specs.Stages.{used_at}
use Rattle.tk_app.specs.Due.{settled_if_due_at}
use Rattle.tk_app.proofs.Shares.{steps_in_turns, sum_used}
use Rattle.tk_app.proofs.turn_laws.stage_is_bounded.Goals as goal

pub returns : goal.returns
returns g c = λ next_due settled steps_left slice moment parts positive.
    omega (
      arith,
      steps_in_turns slice (map (used_at next_due settled steps_left moment) parts) positive,
      sum_used steps_left (λ part. steps_left (settled_if_due_at next_due settled moment part)) parts,
    )
