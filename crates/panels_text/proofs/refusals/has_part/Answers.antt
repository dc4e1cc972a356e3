use Rattle.panels_text.proofs.RefusalLemmas.{has_part-contains}
use Rattle.panels_text.proofs.refusals.has_part.Goals as goal

pub returns : goal.returns
returns c = has_part-contains c.contains.result c.args.part.now c.args.text.now c.contains.ensures.cases
