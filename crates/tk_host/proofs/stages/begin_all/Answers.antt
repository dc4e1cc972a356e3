use Rattle.std.proofs.Common.{ap, ◌∙◌, arith}
use Rattle.tk_app.specs.Turns.{Applications}
use Rattle.tk_host.proofs.Counts.{counts_both}
use Rattle.tk_host.proofs.Ways.{begun_more}
use Rattle.tk_host.proofs.stages.begin_all.Goals as goal

pub begin-requires : goal.begin-requires
begin-requires g c =
    let loop = c.loop-slot in
    record { slot = omega (arith, loop.invariant.below.size); moment = ap (λ (h : Applications _). h.moment) loop.invariant.below.same ∙ c.requires }

pub loop-slot-preserved : goal.loop-slot-preserved
loop-slot-preserved g c =
    let loop = c.loop-slot in
    record {
      below = begun_more g.M.AliasMeaning.answer c.args.moment loop.slot c.args.shared.now loop.shared c.begin.new.shared (omega arith) loop.invariant.below c.in_ok-begin.ensures.begun;
      counts = counts_both c.args.shared.now loop.shared c.begin.new.shared loop.invariant.counts c.in_ok-begin.ensures.counts;
    }

pub returns-in_err-begin-clause-turns : goal.returns-in_err-begin-clause-turns
returns-in_err-begin-clause-turns g c = c.in_err-begin.ensures.turns ∙ ap (λ (h : Applications _). h.turns) c.loop-slot.invariant.below.same

pub returns-clause-turns : goal.returns-clause-turns
returns-clause-turns g c = ap (λ (h : Applications _). h.turns) c.loop-slot.invariant.below.same

pub returns-in_err-begin-clause-counts : goal.returns-in_err-begin-clause-counts
returns-in_err-begin-clause-counts g c =
    let loop = c.loop-slot in
    counts_both c.args.shared.now loop.shared c.begin.new.shared loop.invariant.counts c.in_err-begin.ensures.counts
