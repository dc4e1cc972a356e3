use Rattle.panels_text.proofs.Turns.{behind-strip}
use Rattle.panels_text.proofs.texts.behind.Goals as goal

pub returns : goal.returns
returns c = behind-strip c.args.front.now c.args.text.now c.strip_prefix.result c.strip_prefix.ensures.cases
