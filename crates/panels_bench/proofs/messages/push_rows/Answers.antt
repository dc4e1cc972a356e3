use Rattle.panels_bench.proofs.MessageLemmas.{rows_step}
use Rattle.panels_bench.proofs.messages.push_rows.Goals as goal

pub loop-line-preserved : goal.loop-line-preserved
loop-line-preserved c = rows_step _ _ _ _ _ _ _ _ c.loop-line-test.true c.in_ok-push_row.ensures c.loop-line.invariant
