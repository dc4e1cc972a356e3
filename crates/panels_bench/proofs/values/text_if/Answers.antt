use Rattle.panels_bench.proofs.ValueLemmas.{text_said}
use Rattle.panels_bench.proofs.values.text_if.Goals as goal

pub returns : goal.returns
returns c = text_said c.text.result _ c.text.ensures.ok c.text.ensures.other
