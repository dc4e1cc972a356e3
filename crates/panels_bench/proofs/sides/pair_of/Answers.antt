use Rattle.std.proofs.Common.{arith}
use Rattle.panels_bench.proofs.ShapeLemmas.{pair_long, pair_short}
use Rattle.panels_bench.proofs.sides.pair_of.Goals as goal

pub returns-in_default-clause-pair : goal.returns-in_default-clause-pair
returns-in_default-clause-pair c = pair_short c.args.most c.args.values.now (omega (arith, c.in_default.len_below))

pub returns-in_default-2-clause-pair : goal.returns-in_default-2-clause-pair
returns-in_default-2-clause-pair c = pair_long c.args.most c.args.values.now (omega (arith, c.in_default.len_at_least))
