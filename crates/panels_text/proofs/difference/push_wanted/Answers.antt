use Rattle.panels_text.proofs.DifferenceLemmas.{wanted_step}
use Rattle.panels_text.proofs.difference.push_wanted.Goals as goal

pub loop-line-preserved : goal.loop-line-preserved
loop-line-preserved c =
    wanted_step _ _ _ _ _ _ _ _ _ c.loop-line-test.true c.take_alike-other.ensures.other c.take_alike-other.ensures.left c.in_ok-push_difference.ensures c.loop-line.invariant
