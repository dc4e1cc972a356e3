use Rattle.tcl_text.proofs.BalanceLemmas.{balance_end}
use Rattle.tcl_text.proofs.list_form.is_balanced.Goals as goal

pub returns : goal.returns
returns c = balance_end c.args.item.now c.loop-at.at c.loop-at.depth c.loop-at-test.false c.loop-at.invariant.same
