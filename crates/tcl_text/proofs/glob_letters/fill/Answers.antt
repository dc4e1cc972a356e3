use Rattle.std.proofs.Common.{rules, arith}
use Rattle.tcl_text.proofs.GlobLetters.{filled_none, filled_more, filled_all}
use Rattle.tcl_text.proofs.glob_letters.fill.Goals as goal

pub loop-at-init : goal.loop-at-init
loop-at-init c = (search rules, filled_none _ _)

pub loop-at-preserved : goal.loop-at-preserved
loop-at-preserved c = (search rules, filled_more _ _ _ _ c.loop-at.at _ c.loop-at.invariant.1 c.in-Some.ensures.cut (omega arith))

pub returns : goal.returns
returns c = λ filled. filled_all _ _ _ c.loop-at.at c.loop-at.invariant.1 (omega arith)
