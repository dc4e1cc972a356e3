use Rattle.std.proofs.Common.{sym, ◌∙◌}
use Rattle.panels_text.proofs.Turns.{text_of-none, text_of-text}
use Rattle.panels_text.proofs.texts.as_text.Goals as goal

pub returns-in-Ok-clause-text : goal.returns-in-Ok-clause-text
returns-in-Ok-clause-text c = c.in-Ok.ensures.cases.0 ∙ sym (text_of-text c.args.bytes.now c.in-Ok.ensures.cases.1)

pub returns-in-Err-clause-text : goal.returns-in-Err-clause-text
returns-in-Err-clause-text c = sym (text_of-none c.args.bytes.now c.in-Err.ensures.cases.0)
