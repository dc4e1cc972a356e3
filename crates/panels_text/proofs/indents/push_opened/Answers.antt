use Rattle.panels_text.proofs.UnreadLemmas.{replicate_step}
use Rattle.panels_text.proofs.indents.push_opened.Goals as goal

pub loop-number-preserved : goal.loop-number-preserved
loop-number-preserved c = replicate_step c.loop-number.opened.items _ c.args.brace c.loop-number._number _ c.in_ok-push.ensures.items c.loop-number.invariant
