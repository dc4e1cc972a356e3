use Rattle.std.proofs.lemmas.Str.Pattern.{starts_text}
use Rattle.panels_text.proofs.refusals.begins.Goals as goal

pub returns : goal.returns
returns c = starts_text c.starts_with.result c.args.front.now c.args.text.now c.starts_with.ensures.cases
