use Rattle.std.proofs.Common.{arith}
use Rattle.panels_bench.proofs.ShapeLemmas.{place_long, place_short}
use Rattle.panels_bench.proofs.seeing.place_of.Goals as goal

pub returns-in_default : goal.returns-in_default
returns-in_default c = place_short c.args.values.now (omega (arith, c.in_default.len_below))

pub returns-in_default-2 : goal.returns-in_default-2
returns-in_default-2 c = place_long c.args.values.now (omega (arith, c.in_default.len_at_least))
