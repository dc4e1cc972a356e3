use Rattle.panels_text.proofs.Turns.{before-strip}
use Rattle.panels_text.proofs.texts.before.Goals as goal

pub returns : goal.returns
returns c = before-strip c.args.end.now c.args.text.now c.strip_suffix.result c.strip_suffix.ensures.cases
