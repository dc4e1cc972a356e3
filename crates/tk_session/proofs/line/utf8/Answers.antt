use Rattle.tk_session.proofs.StepLemmas.{utf8_or_none}
use Rattle.tk_session.proofs.line.utf8.Goals as goal

pub returns : goal.returns
returns c = rw c.ok.ensures.value (utf8_or_none c.args.bytes.now _ c.from_utf8.result c.from_utf8.ensures.cases)
