use Rattle.std.proofs.Common.{arith}
use Rattle.tk_host.proofs.Counts.{counts_both}
use Rattle.tk_host.proofs.Cut.{cut_in, cut_round, handed_on}
use Rattle.tk_host.proofs.Slots.{reaches_more}
use Rattle.tk_host.proofs.stages.run_round.Goals as goal

pub loop-slot-preserved : goal.loop-slot-preserved
loop-slot-preserved g c =
    let loop = c.loop-slot in
    record {
      reaches = reaches_more g.M.AliasMeaning.answer c.args.slice loop.slot c.args.shared.now loop.shared c.take_turn.new.shared loop.more c.in_ok-more.field-0 (omega arith) (omega arith) loop.invariant.reaches c.in_ok-more.ensures.taken;
      counts = counts_both c.args.shared.now loop.shared c.take_turn.new.shared loop.invariant.counts c.in_ok-more.ensures.counts;
    }

pub returns-in_err-more-clause-cut : goal.returns-in_err-more-clause-cut
returns-in_err-more-clause-cut g c =
    let loop = c.loop-slot in
    handed_on c.from_residual.result _ _ c.from_residual.ensures.1
    (cut_in c.args.slice loop.slot _ _ _ c.in_err-more.ensures.asked (cut_round g.M.AliasMeaning.answer c.args.slice loop.slot c.args.shared.now loop.shared loop.more c.take_turn.new.shared.turns (omega (arith, loop.invariant.reaches.size)) loop.invariant.reaches c.in_err-more.ensures.cut))

pub returns-in_err-more-clause-there : goal.returns-in_err-more-clause-there
returns-in_err-more-clause-there g c =
    let loop = c.loop-slot in
    handed_on c.from_residual.result _ _ c.from_residual.ensures.1 (omega (arith, c.in_err-more.ensures.asked, loop.invariant.reaches.size))

pub returns-in_err-more-clause-counts : goal.returns-in_err-more-clause-counts
returns-in_err-more-clause-counts g c =
    let loop = c.loop-slot in
    counts_both c.args.shared.now loop.shared c.take_turn.new.shared loop.invariant.counts c.in_err-more.ensures.counts
