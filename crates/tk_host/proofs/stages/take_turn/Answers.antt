use Rattle.std.proofs.Common.{refl, rules}
use Rattle.tk_host.proofs.Counts.{counts_same, only_counts}
use Rattle.tk_host.proofs.Cut.{cut_turn}
use Rattle.tk_host.proofs.Slots.{turn_at_rest, turn_on, turn_settled, turn_stopped}
use Rattle.tk_host.proofs.stages.take_turn.Goals as goal

pub returns-then-not-is_under_way-clause-taken : goal.returns-then-not-is_under_way-clause-taken
returns-then-not-is_under_way-clause-taken g c = turn_at_rest g.M.AliasMeaning.answer c.args.slice c.args.slot c.args.shared.now (rw c.if-not-is_under_way.true at c.is_under_way.ensures)

pub returns-in-Err-clause-cut : goal.returns-in-Err-clause-cut
returns-in-Err-clause-cut g c = (cut_turn c.args.slice c.args.slot c.args.shared.now c.shared-1.given.0 (search rules))

pub returns-in-Ok-More-clause-taken : goal.returns-in-Ok-More-clause-taken
returns-in-Ok-More-clause-taken g c = turn_on g.M.AliasMeaning.answer c.args.slice c.args.slot c.args.shared.now _ (rw c.if-not-is_under_way.false at c.is_under_way.ensures) (search rules)

pub returns-in-Ok-Settled-clause-taken : goal.returns-in-Ok-Settled-clause-taken
returns-in-Ok-Settled-clause-taken g c = turn_settled g.M.AliasMeaning.answer c.args.slice c.args.slot c.args.shared.now _ (rw c.if-not-is_under_way.false at c.is_under_way.ensures) (search rules)

pub returns-in-Ok-Stopped-clause-taken : goal.returns-in-Ok-Stopped-clause-taken
returns-in-Ok-Stopped-clause-taken g c = turn_stopped g.M.AliasMeaning.answer c.args.slice c.args.slot c.args.shared.now _ (rw c.if-not-is_under_way.false at c.is_under_way.ensures) (search rules)

pub returns-then-not-is_under_way-clause-counts : goal.returns-then-not-is_under_way-clause-counts
returns-then-not-is_under_way-clause-counts g c = counts_same c.args.shared.now c.args.shared.now refl refl

pub returns-in-Err-clause-counts : goal.returns-in-Err-clause-counts
returns-in-Err-clause-counts g c = only_counts c.args.slice c.args.slot c.args.shared.now c.shared-1.given.0 (search rules)

pub returns-in-Ok-More-clause-counts : goal.returns-in-Ok-More-clause-counts
returns-in-Ok-More-clause-counts g c = only_counts c.args.slice c.args.slot c.args.shared.now c.shared-1.given.0 (search rules)

pub returns-in-Ok-Settled-clause-counts : goal.returns-in-Ok-Settled-clause-counts
returns-in-Ok-Settled-clause-counts g c = only_counts c.args.slice c.args.slot c.args.shared.now c.shared-1.given.0 (search rules)

pub returns-in-Ok-Stopped-clause-counts : goal.returns-in-Ok-Stopped-clause-counts
returns-in-Ok-Stopped-clause-counts g c = only_counts c.args.slice c.args.slot c.args.shared.now c.shared-1.given.0 (search rules)
