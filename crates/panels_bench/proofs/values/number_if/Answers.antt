use Rattle.panels_bench.proofs.ValueLemmas.{number_said}
use Rattle.panels_bench.proofs.values.number_if.Goals as goal

pub returns-clause-said : goal.returns-clause-said
returns-clause-said c = number_said c.args.most c.number.result _ c.number.ensures.ok c.number.ensures.other c.number.ensures.there
