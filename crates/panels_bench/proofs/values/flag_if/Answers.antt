use Rattle.panels_bench.proofs.ValueLemmas.{flag_said}
use Rattle.panels_bench.proofs.values.flag_if.Goals as goal

pub returns : goal.returns
returns c = flag_said c.boolean.result _ c.boolean.ensures.ok c.boolean.ensures.other
