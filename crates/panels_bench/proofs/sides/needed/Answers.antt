use Rattle.panels_bench.proofs.ShapeLemmas.{text_needed}
use Rattle.panels_bench.proofs.sides.needed.Goals as goal

pub returns : goal.returns
returns c = text_needed _ _ c.text_in.ensures
